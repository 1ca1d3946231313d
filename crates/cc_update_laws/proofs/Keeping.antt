-- How stretches keep the form of a journal of updates: what others place, one entry, what is placed for a call, and calls.
use Rattle.std.specs.Prelude.{◌≡◌, ℕ, Bool, true, false, ◌==◌, List, [], ◌∷◌, ◌++◌, refl, if◌then◌else◌}
use Rattle.std.specs.declared.option.Option.{Option}
use Rattle.std.specs.declared.option.Option.TheVariants.{Some, None}
use Rattle.std.specs.List.{cons_option}
use Rattle.std.proofs.Common.{ap, sym, subst, ◌∙◌, append_assoc}
use Rattle.std.proofs.lemmas.Bool.{eqb-true, eq-eqb}
use Rattle.cc_entry.specs.declared.call.Call.{Call}
use Rattle.cc_entry.specs.declared.call.Call.TheVariants as call
use Rattle.cc_entry.specs.declared.entry.Entry.{Entry}
use Rattle.cc_entry.specs.declared.entry.Entry.TheVariants as entry
use Rattle.cc_entry.specs.declared.error.CcError.{CcError}
use Rattle.cc_entry.specs.declared.error.CcError.TheVariants as error
use Rattle.cc_entry.specs.declared.reply.Outcome.{Outcome}
use Rattle.cc_entry.specs.declared.reply.Outcome.TheVariants as outcome
use Rattle.cc_entry.specs.declared.reply.Reply.{Reply}
use Rattle.cc_model.specs.Acts.{act_of, Looks}
use Rattle.cc_model.specs.History.{Effect, Did, CameIn, WentOut, Began, Ended, Synced, effect_of, history}
use Rattle.cc_model.specs.Numbers.{is_among}
use Rattle.cc_model.specs.Objects.{objects, had_map}
use Rattle.cc_model.specs.Passes.{is_mine, is_pass, pass_of}
use Rattle.cc_model.specs.Setup.{Setup}
use Rattle.cc_effects.specs.Asked.{Calls, Work}
use Rattle.cc_effects.specs.Calls.{CallLeft, IsPlaced, IsUnplaced}
use Rattle.cc_effects.specs.Moments.{Others, IsIdle, PlacedOnly, EachOwn}
use Rattle.cc_effects.specs.Places.{MayPlace, Works}
use Rattle.cc_effects.proofs.FrontLaws.{placed-of}
use Rattle.cc_effects.proofs.Stretches.{each-append, each-others}
use Rattle.cc_laws.proofs.HistorySteps.{history-effect}
use Rattle.cc_laws.proofs.ObjectSteps.{objects-writes, objects-stamps, objects-looks, objects-came_in, objects-went_out, objects-began, objects-ended, objects-synced, had_map-writes, had_map-stamps, had_map-looks, had_map-came_in, had_map-went_out, had_map-began, had_map-ended, had_map-synced}
use Rattle.cc_model.specs.Settings.{log_after}
use Rattle.cc_restart_laws.proofs.Entries.{updated-head}
use Rattle.cc_restart_laws.specs.Updates.{IsUpdated, IsUpdatedBy, MayActByUpdate, MayDoByUpdate}
use Rattle.cc_update_laws.specs.Keeping.{HasNoneOpen, PassKeepsForm, KeepsForm}
use Rattle.cc_update_laws.proofs.LastOwn.{before-idle}

-- ---- which updates are under way

-- whether an entry is a done write through a pin of the stream
abbrev pub is_write : ℕ → Entry → Bool
is_write s (entry.Call pass nth (Some stream) (call.PinnedWrite hold at bytes) (outcome.Done reply)) = stream == s
is_write s other = false

clash : {b : Bool} → b ≡ true → b ≡ false → ⊥
clash a b = cc

pub open-idle : (s log me : ℕ) (old new : List Entry) → HasNoneOpen s log me old → IsIdle me old new → HasNoneOpen s log me new
open-idle s log me old new none idle it mine k =
    let wrote : Entry = entry.Call it.pass k.nth (Some s) (call.PinnedWrite it.hold it.at it.bytes) (outcome.Done k.reply) in
    let others : Others me k.idle.during = subst (λ (n : ℕ). Others n k.idle.during) mine k.idle.others in
    let there = before-idle me wrote k.front idle.during old k.idle.during (eq-eqb it.pass me mine) (sym idle.grew ∙ k.idle.grew) idle.others others in
    none it mine
    (record {
      nth = k.nth;
      reply = k.reply;
      front = k.front;
      recorded = k.recorded;
      idle = record { during = there.rest; grew = there.is; others = subst (λ (n : ℕ). Others n there.rest) (sym mine) there.others };
    })

pub open-entry : (s log me : ℕ) (e : Entry) (past : List Entry) → is_mine me e ≡ true → is_write s e ≡ false → HasNoneOpen s log me (e ∷ past)
open-entry s log me e past own other it mine k = go k.idle.during k.idle.grew (subst (λ (n : ℕ). Others n k.idle.during) mine k.idle.others)
  where
    head_of : (x y : Entry) (xs ys : List Entry) → x ∷ xs ≡ y ∷ ys → x ≡ y
    head_of x y xs ys is = cc

    go : (during : List Entry) → e ∷ past ≡ during ++ entry.Call it.pass k.nth (Some s) (call.PinnedWrite it.hold it.at it.bytes) (outcome.Done k.reply) ∷ k.front → Others me during → ⊥
    go [] is others =
        clash (ap (is_write s) (head_of e (entry.Call it.pass k.nth (Some s) (call.PinnedWrite it.hold it.at it.bytes) (outcome.Done k.reply)) past k.front is) ∙ eq-eqb s s refl) other
    go (x ∷ during) is others =
        clash own (ap (is_mine me) (head_of e x past (during ++ entry.Call it.pass k.nth (Some s) (call.PinnedWrite it.hold it.at it.bytes) (outcome.Done k.reply) ∷ k.front) is) ∙ others.0)

-- ---- object 0

-- object 0 is open if the stream has had a map
abbrev pub StaysOpen : ℕ → List Entry → Type 0
StaysOpen s past = had_map (history past s) ≡ true → is_among 0 (objects (history past s)) ≡ true

none-had : (s : ℕ) → had_map (history [] s) ≡ true → ⊥
unfolding history had_map
none-had s is = cc is

pub stays-open : (s log : ℕ) (past : List Entry) → IsUpdated s log past → StaysOpen s past
stays-open s log [] updated had = absurd (none-had s had)
stays-open s log (e ∷ past) updated had = (updated-head s log e past updated).stays_open had

-- an effect opens no object, and closes none
record IsSteady (x : Effect) : Type 0 where
  objs : (h : List Effect) → objects (x ∷ h) ≡ objects h
  had : (h : List Effect) → had_map (x ∷ h) ≡ had_map h

-- so of an entry
abbrev pub OpensNone : ℕ → Entry → Type 0
OpensNone s e =
    (h : List Effect) → (objects (cons_option (effect_of e s) h) ≡ objects h) × (had_map (cons_option (effect_of e s) h) ≡ had_map h)

steady-if : (b : Bool) (x : Effect) → IsSteady x → (h : List Effect) → (objects (cons_option (if b then Some x else None) h) ≡ objects h) × (had_map (cons_option (if b then Some x else None) h) ≡ had_map h)
steady-if true x steady h = (steady.objs h, steady.had h)
steady-if false x steady h = (refl, refl)

steady-looks : (pass : ℕ) (it : Call) (reply : Reply) → act_of it ≡ Looks → IsSteady (Did pass it reply)
steady-looks pass it reply is = record { objs = λ h. objects-looks pass it reply h is; had = λ h. had_map-looks pass it reply h is }

steady-write : (pass hold at : ℕ) (bytes : List ℕ) (reply : Reply) → IsSteady (Did pass (call.PinnedWrite hold at bytes) reply)
steady-write pass hold at bytes reply = record {
  objs = λ h. objects-writes {at = at} {bytes = bytes} pass (call.PinnedWrite hold at bytes) reply h refl;
  had = λ h. had_map-writes {at = at} {bytes = bytes} pass (call.PinnedWrite hold at bytes) reply h refl;
}

steady-stamp : (pass hold : ℕ) (lsn : Option ℕ) (reply : Reply) → IsSteady (Did pass (call.SetDirty hold lsn) reply)
steady-stamp pass hold lsn reply = record {
  objs = λ h. objects-stamps {hold = hold} {lsn = lsn} pass (call.SetDirty hold lsn) reply h refl;
  had = λ h. had_map-stamps {hold = hold} {lsn = lsn} pass (call.SetDirty hold lsn) reply h refl;
}

done-steady : (s me nth : ℕ) (stream : Option ℕ) (it : Call) (reply : Reply) → IsSteady (Did me it reply) → OpensNone s (entry.Call me nth stream it (outcome.Done reply))
done-steady s me nth None it reply steady h = (refl, refl)
done-steady s me nth (Some t) it reply steady h = steady-if (t == s) (Did me it reply) steady h

pub opens-looks : (s me nth : ℕ) (stream : Option ℕ) (it : Call) (reply : Reply) → act_of it ≡ Looks → OpensNone s (entry.Call me nth stream it (outcome.Done reply))
opens-looks s me nth stream it reply is = done-steady s me nth stream it reply (steady-looks me it reply is)

pub opens-write : (s me nth : ℕ) (stream : Option ℕ) (hold at : ℕ) (bytes : List ℕ) (reply : Reply) → OpensNone s (entry.Call me nth stream (call.PinnedWrite hold at bytes) (outcome.Done reply))
opens-write s me nth stream hold at bytes reply = done-steady s me nth stream (call.PinnedWrite hold at bytes) reply (steady-write me hold at bytes reply)

pub opens-stamp : (s me nth : ℕ) (stream : Option ℕ) (hold : ℕ) (lsn : Option ℕ) (reply : Reply) → OpensNone s (entry.Call me nth stream (call.SetDirty hold lsn) (outcome.Done reply))
opens-stamp s me nth stream hold lsn reply = done-steady s me nth stream (call.SetDirty hold lsn) reply (steady-stamp me hold lsn reply)

opens-failed : (s me nth : ℕ) (stream : Option ℕ) (it : Call) (e : CcError) → OpensNone s (entry.Call me nth stream it (outcome.Failed e))
opens-failed s me nth None it e h = (refl, refl)
opens-failed s me nth (Some t) it e h = (refl, refl)

pub stays-on : (s : ℕ) (e : Entry) (past : List Entry) → OpensNone s e → StaysOpen s past → StaysOpen s (e ∷ past)
stays-on s e past none before_it had =
    let now = history-effect e past s (effect_of e s) refl in
    let both = none (history past s) in
    let before : had_map (history past s) ≡ true = sym both.1 ∙ (sym (ap had_map now) ∙ had) in
    ap (λ (l : List ℕ). is_among 0 l) (ap objects now ∙ both.0) ∙ before_it before

-- ---- stretches

pub keeps-idle : (s log me : ℕ) (old new : List Entry) → IsIdle me old new → PassKeepsForm s log me old new
keeps-idle s log me old new idle = record { during = idle.during; grew = idle.grew; each = each-others me (KeepsForm s log) idle.during old idle.others }

pub keeps-then : (s log me : ℕ) (old between new : List Entry) → PassKeepsForm s log me old between → PassKeepsForm s log me between new → PassKeepsForm s log me old new
keeps-then s log me old between new first second = record {
  during = second.during ++ first.during;
  grew = second.grew ∙ (ap (λ (l : List Entry). second.during ++ l) first.grew ∙ sym (append_assoc second.during first.during old));
  each =
      each-append me (KeepsForm s log) second.during first.during old
      (subst (λ (l : List Entry). EachOwn me (KeepsForm s log) second.during l) first.grew second.each) first.each;
}

-- the form is kept, and no update is under way behind it
abbrev pub KeepsAll : ℕ → ℕ → ℕ → List Entry → List Entry → Type 0
KeepsAll s log me old new = PassKeepsForm s log me old new × HasNoneOpen s log me new

pub all-idle : (s log me : ℕ) (old new : List Entry) → HasNoneOpen s log me old → IsIdle me old new → KeepsAll s log me old new
all-idle s log me old new none idle = (keeps-idle s log me old new idle, open-idle s log me old new none idle)

pub all-then : (s log me : ℕ) (old between new : List Entry) → KeepsAll s log me old between → (HasNoneOpen s log me between → KeepsAll s log me between new) → KeepsAll s log me old new
all-then s log me old between new first second =
    let next = second first.1 in (keeps-then s log me old between new first.0 next.0, next.1)

-- one entry
pub one-pass : (me other : ℕ) (e : Entry) → is_mine me e ≡ true → is_mine other e ≡ true → other ≡ me
one-pass me other e mine its = go (pass_of e) mine its
  where
    go : (o : Option ℕ) → is_pass me o ≡ true → is_pass other o ≡ true → other ≡ me
    go None a b = absurd (cc)
    go (Some p) a b = sym (eqb-true p other b) ∙ eqb-true p me a

pub keeps-entry : (s log me : ℕ) (e : Entry) (front : List Entry) → is_mine me e ≡ true → OpensNone s e → HasNoneOpen s log me front → (IsUpdated s log front → IsUpdatedBy s log front e) → PassKeepsForm s log me front (e ∷ front)
keeps-entry s log me e front own steady none by = record {
  during = e ∷ [];
  grew = refl;
  each = (
    λ is updated. record {
      by = by updated;
      finishes = λ it written mine. absurd (none it (one-pass me it.pass e own mine) written);
      stays_open = stays-on s e front steady (stays-open s log front updated);
    },
    tt,
  );
}

pub all-entry : (s log me : ℕ) (e : Entry) (front : List Entry) → is_mine me e ≡ true → is_write s e ≡ false → OpensNone s e → (IsUpdated s log front → IsUpdatedBy s log front e) → HasNoneOpen s log me front → KeepsAll s log me front (e ∷ front)
all-entry s log me e front own other steady by none = (keeps-entry s log me e front own steady none by, open-entry s log me e front own other)

-- an entry alone
pub all-only : (s log me : ℕ) (e : Entry) (old new : List Entry) (only : PlacedOnly me e old new) → is_write s e ≡ false → OpensNone s e → (IsUpdated s log (only.earlier ++ old) → IsUpdatedBy s log (only.earlier ++ old) e) → HasNoneOpen s log me old → KeepsAll s log me old new
all-only s log me e old new only other steady by none =
    let front : List Entry = only.earlier ++ old in
    subst (λ (l : List Entry). KeepsAll s log me old l) (sym only.grew)
    (all-then s log me old (e ∷ front) (only.later ++ e ∷ front)
    (all-then s log me old front (e ∷ front)
    (all-idle s log me old front none (record { during = only.earlier; grew = refl; others = only.quiet_before }))
    (all-entry s log me e front only.is_own other steady by))
    (λ now. all-idle s log me (e ∷ front) (only.later ++ e ∷ front) now (record { during = only.later; grew = refl; others = only.quiet_after })))

-- ---- what is placed for a call

record IsFine (s log : ℕ) (past : List Entry) (e : Entry) : Type 0 where
  other : is_write s e ≡ false
  steady : OpensNone s e
  by : IsUpdatedBy s log past e

placed-fine : (s log me : ℕ) (work : Work) (old past : List Entry) (e : Entry) → MayPlace me work old past e → IsFine s log past e
placed-fine s log me work old past (entry.PageIn pass page from_disk) may = record {
  other = refl;
  steady =
      steady-if (page.stream == s) (CameIn pass page.page from_disk)
      (record { objs = λ h. objects-came_in pass page.page from_disk h; had = λ h. had_map-came_in pass page.page from_disk h });
  by = tt;
}
placed-fine s log me work old past (entry.PageOut pass page) may = record {
  other = refl;
  steady =
      steady-if (page.stream == s) (WentOut pass page.page)
      (record { objs = λ h. objects-went_out pass page.page h; had = λ h. had_map-went_out pass page.page h });
  by = tt;
}
placed-fine s log me work old past (entry.WriteBegin pass page) may = record {
  other = refl;
  steady =
      steady-if (page.stream == s) (Began pass page.page)
      (record { objs = λ h. objects-began pass page.page h; had = λ h. had_map-began pass page.page h });
  by = tt;
}
placed-fine s log me work old past (entry.WriteEnd pass page how) may = record {
  other = refl;
  steady =
      steady-if (page.stream == s) (Ended pass page.page how)
      (record { objs = λ h. objects-ended pass page.page how h; had = λ h. had_map-ended pass page.page how h });
  by = tt;
}
placed-fine s log me work old past (entry.Sync pass stream how) may = record {
  other = refl;
  steady =
      steady-if (stream == s) (Synced pass how)
      (record { objs = λ h. objects-synced pass how h; had = λ h. had_map-synced pass how h });
  by = tt;
}
placed-fine s log me work old past (entry.FillFailed pass page) may = record { other = refl; steady = λ h. (refl, refl); by = tt }
placed-fine s log me work old past (entry.Flushed pass handle to) may = record { other = refl; steady = λ h. (refl, refl); by = tt }
placed-fine s log me work old past (entry.LogFailed pass handle) may = record { other = refl; steady = λ h. (refl, refl); by = tt }
placed-fine s log me work old past (entry.Append pass handle lsn bytes) may = absurd may
placed-fine s log me work old past (entry.Defer pass id file pages retrying) may = absurd may
placed-fine s log me work old past (entry.Posted id) may = absurd may
placed-fine s log me work old past (entry.Scan pass picked) may = absurd may
placed-fine s log me work old past (entry.Record pass stream size valid how) may = absurd may
placed-fine s log me work old past (entry.RecordFailed pass stream) may = absurd may
placed-fine s log me work old past (entry.Locked pass file span exclusive granted id) may = absurd may
placed-fine s log me work old past (entry.Unlocked pass file id gone) may = absurd may
placed-fine s log me work old past (entry.Tested pass file span write conflict) may = absurd may
placed-fine s log me work old past (entry.Call pass nth stream call ended) may = absurd may

all-each : (s log me : ℕ) (work : Work) (base during old : List Entry) → EachOwn me (MayPlace me work base) during old → HasNoneOpen s log me old → KeepsAll s log me old (during ++ old)
all-each s log me work base [] old each none = all-idle s log me old old none (record { during = []; grew = refl; others = tt })
all-each s log me work base (e ∷ during) old each none =
    all-then s log me old (during ++ old) (e ∷ (during ++ old)) (all-each s log me work base during old each.1 none) (λ now. by (is_mine me e) refl now)
  where
    by : (b : Bool) → is_mine me e ≡ b → HasNoneOpen s log me (during ++ old) → KeepsAll s log me (during ++ old) (e ∷ (during ++ old))
    by true own now =
        let fine = placed-fine s log me work base (during ++ old) e (each.0 own) in
        all-entry s log me e (during ++ old) own fine.other fine.steady (λ updated. fine.by) now
    by false other now = all-idle s log me (during ++ old) (e ∷ (during ++ old)) now (record { during = e ∷ []; grew = refl; others = (other, tt) })

pub all-works : (s log me : ℕ) (work : Work) (during old : List Entry) → Works me work during old → HasNoneOpen s log me old → KeepsAll s log me old (during ++ old)
all-works s log me work during old works none = all-each s log me work old during old works.each none

-- ---- calls

pub all-placed : (s log me : ℕ) (it : Call) (ended : Outcome) (earlier old new : List Entry) (p : IsPlaced me it ended earlier old new) → is_write s (entry.Call me p.nth p.stream it ended) ≡ false → OpensNone s (entry.Call me p.nth p.stream it ended) →
    (IsUpdated s log (earlier ++ old) → IsUpdatedBy s log (earlier ++ old) (entry.Call me p.nth p.stream it ended)) → HasNoneOpen s log me old → KeepsAll s log me old new
all-placed s log me it ended earlier old new p other steady by none =
    let e : Entry = entry.Call me p.nth p.stream it ended in
    let front : List Entry = earlier ++ old in
    subst (λ (l : List Entry). KeepsAll s log me old l) (sym p.grew)
    (all-then s log me old (e ∷ front) (p.later ++ e ∷ front)
    (all-then s log me old front (e ∷ front) (all-works s log me (Calls it) earlier old p.works none) (all-entry s log me e front (eq-eqb me me refl) other steady by))
    (λ now. all-idle s log me (e ∷ front) (p.later ++ e ∷ front) now (record { during = p.later; grew = refl; others = p.quiet })))

-- one that failed
write-failed : (s me nth : ℕ) (stream : Option ℕ) (it : Call) (e : CcError) → is_write s (entry.Call me nth stream it (outcome.Failed e)) ≡ false
write-failed s me nth None it e = refl
write-failed s me nth (Some t) (call.PinnedWrite hold at bytes) e = refl
write-failed s me nth (Some t) other e = refl

by-failed : (s log me nth : ℕ) (stream : Option ℕ) (it : Call) (e : CcError) (past : List Entry) → IsUpdatedBy s log past (entry.Call me nth stream it (outcome.Failed e))
by-failed s log me nth None it e past = tt
by-failed s log me nth (Some t) it e past = tt

all-refused : (s log me : ℕ) (it : Call) (e : CcError) (earlier old new : List Entry) → IsPlaced me it (outcome.Failed e) earlier old new → HasNoneOpen s log me old → KeepsAll s log me old new
all-refused s log me it e earlier old new p none =
    all-placed s log me it (outcome.Failed e) earlier old new p (write-failed s me p.nth p.stream it e) (opens-failed s me p.nth p.stream it e) (λ updated. by-failed s log me p.nth p.stream it e (earlier ++ old)) none

all-unplaced : (s log me : ℕ) (it : Call) (e : CcError) (old new : List Entry) → IsUnplaced me it e old new → HasNoneOpen s log me old → KeepsAll s log me old new
all-unplaced s log me it e old new p none =
    subst (λ (l : List Entry). KeepsAll s log me old l) (sym p.grew) (all-works s log me (Calls it) p.during old p.works none)

pub all-failed : (u : Setup) (s log me : ℕ) (it : Call) (e : CcError) (old new : List Entry) → CallLeft u me it (outcome.Failed e) old new → HasNoneOpen s log me old → KeepsAll s log me old new
all-failed u s log me it (error.JournalFull entries) old new left none = all-unplaced s log me it _ old new left none
all-failed u s log me it error.NoMemory old new left none = all-unplaced s log me it _ old new left none
all-failed u s log me it e old new left none =
    let p = placed-of u me it (outcome.Failed e) old new left refl in all-refused s log me it e p.0 old new p.1 none

-- one that looks, and sets no log
pub by-done : (s log me nth : ℕ) (stream : Option ℕ) (it : Call) (reply : Reply) (past : List Entry) → ((t : ℕ) → stream ≡ Some t → t ≡ s → MayDoByUpdate s log past me it) → IsUpdatedBy s log past (entry.Call me nth stream it (outcome.Done reply))
by-done s log me nth None it reply past may = tt
by-done s log me nth (Some t) it reply past may = λ is. may t refl is

pub write-looks : (s me nth : ℕ) (stream : Option ℕ) (it : Call) (reply : Reply) → act_of it ≡ Looks → is_write s (entry.Call me nth stream it (outcome.Done reply)) ≡ false
write-looks s me nth None it reply is = refl
write-looks s me nth (Some t) (call.PinnedWrite hold at bytes) reply is = absurd (cc is)
write-looks s me nth (Some t) other reply is = refl

pub may-look : (s log me : ℕ) (past : List Entry) (it : Call) → act_of it ≡ Looks → log_after it (Some log) ≡ Some log → MayDoByUpdate s log past me it
may-look s log me past it is keeps = record { acts = subst (MayActByUpdate s log past me it) (sym is) tt; keeps_log = keeps }

pub all-looks : (u : Setup) (s log me : ℕ) (it : Call) (answered : Outcome) (old new : List Entry) → act_of it ≡ Looks → log_after it (Some log) ≡ Some log → CallLeft u me it answered old new → HasNoneOpen s log me old → KeepsAll s log me old new
all-looks u s log me it (outcome.Failed e) old new is keeps left none = all-failed u s log me it e old new left none
all-looks u s log me it (outcome.Done r) old new is keeps left none =
    let p = left.placed in
    all-placed s log me it (outcome.Done r) left.earlier old new p (write-looks s me p.nth p.stream it r is) (opens-looks s me p.nth p.stream it r is)
    (λ updated. by-done s log me p.nth p.stream it r (left.earlier ++ old) (λ t stream same. may-look s log me (left.earlier ++ old) it is keeps)) none
