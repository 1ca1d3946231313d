-- What a call changed that was refused, and what a call that looks changed.
use Rattle.std.specs.Prelude.{◌≡◌, ℕ, Bool, true, false, ◌==◌, List, ◌∷◌, ◌++◌, refl}
use Rattle.std.specs.declared.option.Option.{Option}
use Rattle.std.specs.declared.option.Option.TheVariants.{Some, None}
use Rattle.std.proofs.Common.{sym, subst}
use Rattle.cc_entry.specs.declared.call.Call.{Call}
use Rattle.cc_entry.specs.declared.call.Call.TheVariants as call
use Rattle.cc_entry.specs.declared.entry.Entry.{Entry}
use Rattle.cc_entry.specs.declared.entry.Entry.TheVariants as entry
use Rattle.cc_entry.specs.declared.error.CcError.{CcError}
use Rattle.cc_entry.specs.declared.error.CcError.TheVariants as error
use Rattle.cc_entry.specs.declared.reply.Outcome.{Outcome}
use Rattle.cc_entry.specs.declared.reply.Outcome.TheVariants as outcome
use Rattle.cc_entry.specs.declared.reply.Reply.{Reply}
use Rattle.cc_model.specs.History.{Effect, Did, history}
use Rattle.cc_model.specs.Acts.{act_of, Looks}
use Rattle.cc_model.specs.Cache.{holds_made_by}
use Rattle.cc_model.specs.Setup.{Setup}
use Rattle.cc_laws.proofs.HistorySteps.{history-effect, history-no_effect}
use Rattle.cc_laws.proofs.HoldSteps.{changes_holds}
use Rattle.cc_laws.proofs.SettingSteps.{makes_setting}
use Rattle.cc_laws.proofs.ReadSteps.{concerns_reads}
use Rattle.cc_laws.proofs.PassSteps.{holds_made-other}
use Rattle.cc_laws.proofs.QueueSteps.{queue-other, deferred-other}
use Rattle.cc_effects.specs.Asked.{Work, Calls}
use Rattle.cc_effects.specs.Calls.{IsPlaced, IsUnplaced, CallLeft}
use Rattle.cc_effects.specs.Places.{MayPlace}
use Rattle.cc_effects.proofs.FrontLaws.{placed-of}
use Rattle.cc_refused_laws.specs.Same.{SameFile}
use Rattle.cc_refused_laws.specs.Changed.{ChangedNoFile, EachIs, KeepsAll, KeepsFiles}
use Rattle.cc_refused_laws.proofs.Files.{file-looks, file-same}
use Rattle.cc_refused_laws.proofs.Entries.{is_no_change, keeps-files, keeps-refused, locks-by}
use Rattle.cc_refused_laws.proofs.Stretches.{is-then, is-others, is-entry, is-works}

-- ---- what may be placed before the entry of a call

placed-no-change : (me : ℕ) (work : Work) (old past : List Entry) (e : Entry) → MayPlace me work old past e → is_no_change e ≡ true
placed-no-change me work old past (entry.Call pass nth stream call ended) may = absurd may
placed-no-change me work old past (entry.Defer pass id file pages retrying) may = absurd may
placed-no-change me work old past (entry.Posted id) may = absurd may
placed-no-change me work old past (entry.Locked pass file span exclusive granted id) may = absurd may
placed-no-change me work old past (entry.Unlocked pass file id gone) may = absurd may
placed-no-change me work old past other may = refl

pub steps-keep : (me : ℕ) (work : Work) (old past : List Entry) (e : Entry) → MayPlace me work old past e → KeepsFiles past e
steps-keep me work old past e may = keeps-files e past (placed-no-change me work old past e may)

-- ---- calls with an entry

pub placed-is : (me : ℕ) (Is : List Entry → Entry → Type 0) (it : Call) (ended : Outcome) (earlier old new : List Entry) (p : IsPlaced me it ended earlier old new) → ((past : List Entry) (e : Entry) → MayPlace me (Calls it) old past e → Is past e) → Is (earlier ++ old) (entry.Call me p.nth p.stream it ended) → EachIs me Is old new
placed-is me Is it ended earlier old new p steps this =
    subst (λ (l : List Entry). EachIs me Is old l) (sym p.grew)
    (is-then me Is old (entry.Call me p.nth p.stream it ended ∷ (earlier ++ old)) (p.later ++ entry.Call me p.nth p.stream it ended ∷ (earlier ++ old))
    (is-then me Is old (earlier ++ old) (entry.Call me p.nth p.stream it ended ∷ (earlier ++ old)) (is-works me Is (Calls it) earlier old steps p.works) (is-entry me Is (entry.Call me p.nth p.stream it ended) (earlier ++ old) this))
    (is-others me Is p.later (entry.Call me p.nth p.stream it ended ∷ (earlier ++ old)) p.quiet))

unplaced-is : (me : ℕ) (Is : List Entry → Entry → Type 0) (it : Call) (e : CcError) (old new : List Entry) → IsUnplaced me it e old new → ((past : List Entry) (x : Entry) → MayPlace me (Calls it) old past x → Is past x) → EachIs me Is old new
unplaced-is me Is it e old new p steps = subst (λ (l : List Entry). EachIs me Is old l) (sym p.grew) (is-works me Is (Calls it) p.during old steps p.works)

-- a refused call: what it placed before its entry, and the entry
pub refused-is : (u : Setup) (me : ℕ) (Is : List Entry → Entry → Type 0) (it : Call) (e : CcError) (old new : List Entry) → ((past : List Entry) (x : Entry) → MayPlace me (Calls it) old past x → Is past x) → ((past : List Entry) (x : Entry) → KeepsAll past x → Is past x) → CallLeft u me it (outcome.Failed e) old new → EachIs me Is old new
refused-is u me Is it (error.JournalFull entries) old new steps tells left = unplaced-is me Is it _ old new left steps
refused-is u me Is it error.NoMemory old new steps tells left = unplaced-is me Is it _ old new left steps
refused-is u me Is it e old new steps tells left =
    let p = placed-of u me it (outcome.Failed e) old new left refl in
    placed-is me Is it (outcome.Failed e) p.0 old new p.1 steps (tells (p.0 ++ old) _ (keeps-refused me p.1.nth p.1.stream it e (p.0 ++ old)))

pub refused-files : (u : Setup) (me : ℕ) (it : Call) (e : CcError) (old new : List Entry) → CallLeft u me it (outcome.Failed e) old new → ChangedNoFile me old new
refused-files u me it e old new left = refused-is u me KeepsFiles it e old new (steps-keep me (Calls it) old) (λ past x all. all.no_file) left

-- ---- calls that look

-- whether a call only looks: it changes no byte, size or dirty page, no hold, no setting, and is no copied read
abbrev pub only_looks : Call → Bool
only_looks (call.NcRead file page) = true
only_looks (call.Flush file span) = true
only_looks (call.Query asked) = true
only_looks other = false

looks-act : (it : Call) → only_looks it ≡ true → act_of it ≡ Looks
looks-act (call.NcRead file page) is = refl
looks-act (call.Flush file span) is = refl
looks-act (call.Query asked) is = refl
looks-act other is = absurd (cc)

looks-holds : (it : Call) → only_looks it ≡ true → changes_holds it ≡ false
looks-holds (call.NcRead file page) is = refl
looks-holds (call.Flush file span) is = refl
looks-holds (call.Query asked) is = refl
looks-holds other is = absurd (cc)

looks-sets : (it : Call) → only_looks it ≡ true → makes_setting it ≡ false
looks-sets (call.NcRead file page) is = refl
looks-sets (call.Flush file span) is = refl
looks-sets (call.Query asked) is = refl
looks-sets other is = absurd (cc)

looks-reads : (it : Call) → only_looks it ≡ true → concerns_reads it ≡ false
looks-reads (call.NcRead file page) is = refl
looks-reads (call.Flush file span) is = refl
looks-reads (call.Query asked) is = refl
looks-reads other is = absurd (cc)

looks-made : (me nth : ℕ) (stream : Option ℕ) (it : Call) (r : Reply) → only_looks it ≡ true → holds_made_by (entry.Call me nth stream it (outcome.Done r)) ≡ 0
looks-made me nth stream (call.NcRead file page) r is = refl
looks-made me nth stream (call.Flush file span) r is = refl
looks-made me nth stream (call.Query asked) r is = refl
looks-made me nth stream other r is = absurd (cc)

looked-file : (me nth : ℕ) (stream : Option ℕ) (it : Call) (r : Reply) (past : List Entry) (s : ℕ) → only_looks it ≡ true → SameFile (history (entry.Call me nth stream it (outcome.Done r) ∷ past) s) (history past s)
looked-file me nth None it r past s is = file-same _ _ (history-no_effect (entry.Call me nth None it (outcome.Done r)) past s refl)
looked-file me nth (Some stream) it r past s is = by (stream == s) refl
  where
    by : (b : Bool) → (stream == s) ≡ b → SameFile (history (entry.Call me nth (Some stream) it (outcome.Done r) ∷ past) s) (history past s)
    by false other = file-same _ _ (history-no_effect (entry.Call me nth (Some stream) it (outcome.Done r)) past s (rw other refl))
    by true same =
        subst (λ (h : List Effect). SameFile h (history past s)) (sym (history-effect (entry.Call me nth (Some stream) it (outcome.Done r)) past s (Some (Did me it r)) (rw same refl)))
        (file-looks me it r (history past s) (looks-act it is) (looks-holds it is) (looks-sets it is) (looks-reads it is))

pub looked-keeps : (me nth : ℕ) (stream : Option ℕ) (it : Call) (r : Reply) (past : List Entry) → only_looks it ≡ true → KeepsFiles past (entry.Call me nth stream it (outcome.Done r))
looked-keeps me nth stream it r past is = record {
  files = λ s. looked-file me nth stream it r past s is;
  locks = λ s. locks-by (entry.Call me nth stream it (outcome.Done r)) past s None refl;
  waiting = queue-other (entry.Call me nth stream it (outcome.Done r)) past refl;
  next_hold = holds_made-other (entry.Call me nth stream it (outcome.Done r)) past (looks-made me nth stream it r is);
  next_deferral = deferred-other (entry.Call me nth stream it (outcome.Done r)) past refl;
}

pub looked-files : (u : Setup) (me : ℕ) (it : Call) (r : Reply) (old new : List Entry) → only_looks it ≡ true → CallLeft u me it (outcome.Done r) old new → ChangedNoFile me old new
looked-files u me it r old new is left =
    placed-is me KeepsFiles it (outcome.Done r) left.earlier old new left.placed (steps-keep me (Calls it) old) (looked-keeps me left.placed.nth left.placed.stream it r (left.earlier ++ old) is)
