-- A call that takes no step places its own entry alone, so refused it changed nothing; the end of a hold is not refused; and what a pass
-- and others leave as it was, is as it was.
use Rattle.std.specs.Prelude.{◌≡◌, ℕ, Bool, true, false, cond, List, [], ◌∷◌, ◌++◌, refl, ◌⊎◌}
use Rattle.std.specs.List.{AllByRecursion}
use Rattle.std.specs.declared.option.Option.TheVariants.{None}
use Rattle.std.proofs.Common.{ap, sym, subst, ◌∙◌, inl, inr}
use Rattle.std.proofs.lemmas.Bool.{or_from}
use Rattle.std.proofs.Math.Bool.{and-false}
use Rattle.cc_entry.specs.Place.{Page}
use Rattle.cc_entry.specs.declared.call.Call.{Call}
use Rattle.cc_entry.specs.declared.call.Call.TheVariants as call
use Rattle.cc_entry.specs.declared.entry.Entry.{Entry}
use Rattle.cc_entry.specs.declared.entry.Entry.TheVariants as entry
use Rattle.cc_entry.specs.declared.error.CcError.{CcError}
use Rattle.cc_entry.specs.declared.error.CcError.TheVariants as error
use Rattle.cc_entry.specs.declared.reply.Outcome.TheVariants as outcome
use Rattle.cc_model.specs.History.{Effect, history}
use Rattle.cc_model.specs.Passes.{is_mine}
use Rattle.cc_model.specs.Setup.{Setup}
use Rattle.cc_effects.specs.Asked.{Calls, asks_out, brings_in, is_admitted, makes_room, may_bring_in, may_sync, may_take_out, may_write, names_write, reads_noncached, stores}
use Rattle.cc_effects.specs.Calls.{CallLeft, IsOvertaken, IsRefused}
use Rattle.cc_effects.specs.Moments.{Between, EachOwn, Others, own}
use Rattle.cc_effects.specs.Places.{MayPlace, Works, are_whole, may_read}
use Rattle.cc_effects.proofs.FrontLaws.{placed-of}
use Rattle.cc_refused_laws.specs.Same.{SamePages, ChangesNoFile, ChangesNothing}
use Rattle.cc_refused_laws.specs.Changed.{ChangedNoFile, ChangedNothing, KeepsAll, KeepsFiles, OthersAre, may_step}
use Rattle.cc_refused_laws.proofs.Entries.{keeps-refused}
use Rattle.cc_refused_laws.proofs.Files.{file-same, file-then}
use Rattle.cc_refused_laws.proofs.Stretches.{is-entry, is-others, is-then}

-- ---- what a call may not do that takes no step

brings-none : (it : Call) → may_step it ≡ false → brings_in it ≡ false
brings-none (call.Flush file span) is = refl
brings-none (call.Purge file span) is = refl
brings-none (call.NcRead file page) is = refl
brings-none (call.NcStore file page bytes) is = refl
brings-none (call.NcWrite file page) is = refl
brings-none other is = is

reads-none : (it : Call) → may_step it ≡ false → reads_noncached it ≡ false
reads-none (call.NcRead file page) is = absurd (cc)
reads-none other is = refl

room-none : (it : Call) → may_step it ≡ false → makes_room it ≡ false
room-none (call.Flush file span) is = refl
room-none (call.Purge file span) is = refl
room-none (call.NcRead file page) is = refl
room-none (call.NcStore file page bytes) is = absurd (cc)
room-none (call.NcWrite file page) is = absurd (cc)
room-none other is = is

names-none : (it : Call) (page : Page) (past : List Entry) → may_step it ≡ false → names_write it page past ≡ false
names-none (call.Flush file span) page past is = absurd (cc)
names-none (call.Purge file span) page past is = absurd (cc)
names-none (call.NcRead file number) page past is = absurd (cc)
names-none other page past is = refl

out-none : (me : ℕ) (it : Call) (page : Page) (past : List Entry) → may_step it ≡ false → asks_out me it page past ≡ false
out-none me (call.Purge file span) page past is = absurd (cc)
out-none me (call.NcWrite file number) page past is = absurd (cc)
out-none me other page past is = refl

stores-none : (it : Call) (page : Page) (past : List Entry) → may_step it ≡ false → stores (Calls it) page past ≡ false
stores-none (call.NcStore file number bytes) page past is = absurd (cc)
stores-none (call.NcWrite file number) page past is = absurd (cc)
stores-none other page past is = refl

syncs-none : (it : Call) (s : ℕ) → may_step it ≡ false → may_sync (Calls it) s ≡ false
syncs-none (call.Flush file span) s is = absurd (cc)
syncs-none other s is = refl

bring-none : (it : Call) (page : Page) (past : List Entry) → may_step it ≡ false → may_bring_in (Calls it) page past ≡ false
bring-none it page past is = rw (brings-none it is) refl

read-none : (it : Call) (page : Page) (past : List Entry) → may_step it ≡ false → may_read it page past ≡ false
read-none it page past is = rw (reads-none it is, brings-none it is) refl

write-none : (it : Call) (page : Page) (past : List Entry) → may_step it ≡ false → may_write (Calls it) page past ≡ false
write-none it page past is = rw (room-none it is, names-none it page past is) (and-false (is_admitted it page.stream past))

take-none : (me : ℕ) (it : Call) (page : Page) (past : List Entry) → may_step it ≡ false → may_take_out me (Calls it) page past ≡ false
take-none me it page past is = rw (room-none it is, out-none me it page past is) refl

-- ---- so it places ends of transfers alone, and without begins there are none

abbrev is_end : Entry → Bool
is_end (entry.WriteEnd pass page how) = true
is_end other = false

clash : {b : Bool} → b ≡ false → b ≡ true → ⊥
clash a b = cc

ends-alone : (me : ℕ) (it : Call) (old past : List Entry) (e : Entry) → may_step it ≡ false → MayPlace me (Calls it) old past e → is_end e ≡ true
ends-alone me it old past (entry.PageIn pass page from_disk) is may = absurd (clash (bring-none it page past is) may)
ends-alone me it old past (entry.PageOut pass page) is may = absurd (clash (take-none me it page past is) may)
ends-alone me it old past (entry.FillFailed pass page) is may = absurd (clash (read-none it page past is) may.0)
ends-alone me it old past (entry.WriteBegin pass page) is may = absurd (clash (write-none it page past is) may)
ends-alone me it old past (entry.WriteEnd pass page how) is may = refl
ends-alone me it old past (entry.Sync pass stream how) is may = absurd (clash (syncs-none it stream is) may.0)
ends-alone me it old past (entry.Flushed pass handle to) is may =
    absurd (clash (or_from _ _ (write-none it may.page past is) (stores-none it may.page past is)) may.writes)
ends-alone me it old past (entry.LogFailed pass handle) is may =
    absurd (clash (or_from _ _ (write-none it may.asks.page past is) (stores-none it may.asks.page past is)) may.asks.writes)
ends-alone me it old past (entry.Append pass handle lsn bytes) is may = absurd may
ends-alone me it old past (entry.Defer pass id file pages retrying) is may = absurd may
ends-alone me it old past (entry.Posted id) is may = absurd may
ends-alone me it old past (entry.Scan pass picked) is may = absurd may
ends-alone me it old past (entry.Record pass stream size valid how) is may = absurd may
ends-alone me it old past (entry.RecordFailed pass stream) is may = absurd may
ends-alone me it old past (entry.Locked pass file span exclusive granted id) is may = absurd may
ends-alone me it old past (entry.Unlocked pass file id gone) is may = absurd may
ends-alone me it old past (entry.Tested pass file span write conflict) is may = absurd may
ends-alone me it old past (entry.Call pass nth stream call ended) is may = absurd may

all-ends : (me : ℕ) (it : Call) (old during : List Entry) → may_step it ≡ false → EachOwn me (MayPlace me (Calls it) old) during old → AllByRecursion (λ e. is_end e ≡ true) (own me during)
all-ends me it old [] is each = tt
all-ends me it old (e ∷ during) is each = by (is_mine me e) refl (all-ends me it old during is each.1)
  where
    by : (b : Bool) → is_mine me e ≡ b → AllByRecursion (λ e. is_end e ≡ true) (own me during) → AllByRecursion (λ e. is_end e ≡ true) (cond b (e ∷ own me during) (own me during))
    by true mine rest = (ends-alone me it old (during ++ old) e is (each.0 mine), rest)
    by false mine rest = rest

no-ends : (entries : List Entry) → AllByRecursion (λ e. is_end e ≡ true) entries → are_whole None entries ≡ true → entries ≡ []
no-ends [] all whole = refl
no-ends (entry.WriteEnd pass page how ∷ []) all whole = absurd (cc)
no-ends (entry.WriteEnd pass page how ∷ (entry.WriteEnd p q h ∷ rest)) all whole = absurd (cc)
no-ends (entry.WriteEnd pass page how ∷ (other ∷ rest)) all whole = absurd (cc (all.1.0))
no-ends (other ∷ rest) all whole = absurd (cc (all.0))

others-of : (me : ℕ) (during : List Entry) → own me during ≡ [] → Others me during
others-of me [] none = tt
others-of me (e ∷ during) none = by (is_mine me e) refl none (λ rest. others-of me during rest)
  where
    by : (b : Bool) → is_mine me e ≡ b → cond b (e ∷ own me during) (own me during) ≡ [] → (own me during ≡ [] → Others me during) → Others me (e ∷ during)
    by true is none rest = absurd (cc)
    by false is none rest = (is, rest none)

stepless-others : (me : ℕ) (it : Call) (during old : List Entry) → may_step it ≡ false → Works me (Calls it) during old → Others me during
stepless-others me it during old is works = others-of me during (no-ends (own me during) (all-ends me it old during is works.each) works.whole)

-- ---- such a call that was refused

pub stepless-refused : (u : Setup) (me : ℕ) (it : Call) (e : CcError) (old new : List Entry) → may_step it ≡ false → CallLeft u me it (outcome.Failed e) old new → ChangedNothing me old new
stepless-refused u me it (error.JournalFull entries) old new is left =
    subst (λ (l : List Entry). ChangedNothing me old l) (sym left.grew) (is-others me KeepsAll left.during old (stepless-others me it left.during old is left.works))
stepless-refused u me it error.NoMemory old new is left =
    subst (λ (l : List Entry). ChangedNothing me old l) (sym left.grew) (is-others me KeepsAll left.during old (stepless-others me it left.during old is left.works))
stepless-refused u me it e old new is left =
    let p = placed-of u me it (outcome.Failed e) old new left refl in
    let x : Entry = entry.Call me p.1.nth p.1.stream it (outcome.Failed e) in
    subst (λ (l : List Entry). ChangedNothing me old l) (sym p.1.grew)
    (is-then me KeepsAll old (x ∷ (p.0 ++ old)) (p.1.later ++ x ∷ (p.0 ++ old))
    (is-then me KeepsAll old (p.0 ++ old) (x ∷ (p.0 ++ old))
    (is-others me KeepsAll p.0 old (stepless-others me it p.0 old is p.1.works))
    (is-entry me KeepsAll x (p.0 ++ old) (keeps-refused me p.1.nth p.1.stream it e (p.0 ++ old))))
    (is-others me KeepsAll p.1.later (x ∷ (p.0 ++ old)) p.1.quiet))

-- ---- the end of a hold

pub end-not-refused : (u : Setup) (me id : ℕ) (e : CcError) (old new : List Entry) → CallLeft u me (call.EndHold id) (outcome.Failed e) old new → ⊥
end-not-refused u me id (error.JournalFull entries) old new left = cc (left.listed)
end-not-refused u me id error.NoMemory old new left = cc (left.listed)
end-not-refused u me id (error.ReadFault page) old new left = cc (left.listed)
end-not-refused u me id (error.WriteFault page) old new left = cc (left.listed)
end-not-refused u me id (error.LogFault handle) old new left = cc (left.listed)
end-not-refused u me id e old new left = by e left
  where
    by : (e : CcError) → IsRefused me (call.EndHold id) e old new ⊎ IsOvertaken u me (call.EndHold id) e old new → ⊥
    by e (inl is) = cc (is.listed)
    by e (inr is) = cc (is.listed)

-- ---- what a pass and others leave as it was

no_file-refl : (past : List Entry) → ChangesNoFile past past
no_file-refl past = record { files = λ s. file-same _ _ refl; locks = λ s. refl; waiting = refl; next_hold = refl; next_deferral = refl }

pub no_file-then : (old between new : List Entry) → ChangesNoFile old between → ChangesNoFile between new → ChangesNoFile old new
no_file-then old between new first second = record {
  files = λ s. file-then (history new s) (history between s) (history old s) (second.files s) (first.files s);
  locks = λ s. second.locks s ∙ first.locks s;
  waiting = second.waiting ∙ first.waiting;
  next_hold = second.next_hold ∙ first.next_hold;
  next_deferral = second.next_deferral ∙ first.next_deferral;
}

pages-refl : (h : List Effect) → SamePages h h
pages-refl h = record {
  same_unwritten = λ p. refl;
  same_residents = refl;
  same_order = refl;
  same_transfer = refl;
  same_images = λ pages p. refl;
  same_crash = λ pages p. refl;
}

pages-then : (new between old : List Effect) → SamePages new between → SamePages between old → SamePages new old
pages-then new between old second first = record {
  same_unwritten = λ p. second.same_unwritten p ∙ first.same_unwritten p;
  same_residents = second.same_residents ∙ first.same_residents;
  same_order = second.same_order ∙ first.same_order;
  same_transfer = second.same_transfer ∙ first.same_transfer;
  same_images = λ pages p. second.same_images pages p ∙ first.same_images pages p;
  same_crash = λ pages p. second.same_crash pages p ∙ first.same_crash pages p;
}

pub nothing-refl : (past : List Entry) → ChangesNothing past past
nothing-refl past = record {
  no_file = no_file-refl past;
  pages = λ s. pages-refl (history past s);
  logs = λ log. record { same_flushed = refl; same_floor = refl };
  records = λ opening s. refl;
  scans = (refl, refl);
}

nothing-then : (old between new : List Entry) → ChangesNothing old between → ChangesNothing between new → ChangesNothing old new
nothing-then old between new first second = record {
  no_file = no_file-then old between new first.no_file second.no_file;
  pages = λ s. pages-then (history new s) (history between s) (history old s) (second.pages s) (first.pages s);
  logs = λ log. record { same_flushed = (second.logs log).same_flushed ∙ (first.logs log).same_flushed; same_floor = (second.logs log).same_floor ∙ (first.logs log).same_floor };
  records = λ opening s. second.records opening s ∙ first.records opening s;
  scans = (second.scans.0 ∙ first.scans.0, second.scans.1 ∙ first.scans.1);
}

joined : (me : ℕ) (Is : List Entry → Entry → Type 0) (Kept : Between) → ((past : List Entry) → Kept past past) → ((old between new : List Entry) → Kept old between → Kept between new → Kept old new) → ((past : List Entry) (e : Entry) → Is past e → Kept past (e ∷ past)) → (during old : List Entry) → EachOwn me Is during old → OthersAre me Is old (during ++ old) → Kept old (during ++ old)
joined me Is Kept none then_ one [] old each others = none old
joined me Is Kept none then_ one (e ∷ during) old each others =
    then_ old (during ++ old) (e ∷ (during ++ old))
    (joined me Is Kept none then_ one during old each.1 (λ later earlier x split other. others (e ∷ later) earlier x (ap (λ (l : List Entry). e ∷ l) split) other))
    (one (during ++ old) e (by (is_mine me e) refl))
  where
    by : (b : Bool) → is_mine me e ≡ b → Is (during ++ old) e
    by true mine = each.0 mine
    by false other = others [] during e refl other

pub files-stay : (me : ℕ) (old new : List Entry) → ChangedNoFile me old new → OthersAre me KeepsFiles old new → ChangesNoFile old new
files-stay me old new is others =
    subst (λ (l : List Entry). ChangesNoFile old l) (sym is.grew)
    (joined me KeepsFiles ChangesNoFile no_file-refl no_file-then (λ past e kept. kept) is.during old is.each (subst (λ (l : List Entry). OthersAre me KeepsFiles old l) is.grew others))

pub all-stays : (me : ℕ) (old new : List Entry) → ChangedNothing me old new → OthersAre me KeepsAll old new → ChangesNothing old new
all-stays me old new is others =
    subst (λ (l : List Entry). ChangesNothing old l) (sym is.grew)
    (joined me KeepsAll ChangesNothing nothing-refl nothing-then (λ past e kept. kept) is.during old is.each (subst (λ (l : List Entry). OthersAre me KeepsAll old l) is.grew others))
