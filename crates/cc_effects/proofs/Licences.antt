-- Each entry of a pass in a stretch that a call explains is licensed by the call; a call has its entry, and a
-- fault its own.
use Rattle.std.specs.Prelude.{◌≡◌, ℕ, ◌==◌, Bool, true, false, List, [], ◌∷◌, ◌++◌, refl, ◌⊎◌}
use Rattle.std.specs.List.{list_any}
use Rattle.std.proofs.Common.{sym, ap, ◌∙◌, inl, inr, append_assoc, eq-eqb}
use Rattle.std.proofs.lemmas.List.{append_cancel_right}
use Rattle.std.proofs.lemmas.Bool.{or_left, or_right}
use Rattle.std.specs.declared.option.Option.{Option}
use Rattle.cc_entry.specs.Place.{File, Range}
use Rattle.cc_entry.specs.declared.call.Call.{Call}
use Rattle.cc_entry.specs.declared.call.Call.TheVariants as call
use Rattle.cc_entry.specs.declared.error.CcError.{CcError}
use Rattle.cc_entry.specs.declared.error.CcError.TheVariants as error
use Rattle.cc_entry.specs.declared.reply.Reply.{Reply}
use Rattle.cc_entry.specs.declared.entry.End.TheVariants as how
use Rattle.cc_entry.specs.declared.reply.Outcome.{Outcome}
use Rattle.cc_entry.specs.declared.reply.Outcome.TheVariants as outcome
use Rattle.cc_entry.specs.declared.entry.Entry.{Entry}
use Rattle.cc_entry.specs.declared.entry.Entry.TheVariants as entry
use Rattle.cc_model.specs.Setup.{Setup}
use Rattle.cc_model.specs.Faults.{fault_of}
use Rattle.cc_model.specs.Passes.{is_mine}
use Rattle.cc_effects.specs.Moments.{own, EachOwn, PlacedOnly, AtSome}
use Rattle.cc_effects.specs.Asked.{Calls}
use Rattle.cc_effects.specs.Places.{MayPlace}
use Rattle.cc_effects.specs.Calls.{IsPlaced, IsDone, IsFaulted, IsUnplaced, CallLeft, leaves_entry}
use Rattle.cc_effects.specs.Licences.{IsLicensed, is_call_entry, is_fault_told, shows_told_fault}
use Rattle.cc_effects.proofs.Stretches.{own-append, own-others, each-others, each-append, each-implies}
use Rattle.cc_effects.proofs.FrontLaws.{placed-of}

-- the stretch in which the entry of a call stands
pub placed-split : (me : ℕ) (it : Call) (answered : Outcome) (earlier during old : List Entry) (p : IsPlaced me it answered earlier old (during ++ old)) → during ≡ p.later ++ (entry.Call me p.nth p.stream it answered ∷ earlier)
placed-split me it answered earlier during old p =
    append_cancel_right during (p.later ++ (entry.Call me p.nth p.stream it answered ∷ earlier)) old
    (p.grew ∙ sym (append_assoc p.later (entry.Call me p.nth p.stream it answered ∷ earlier) old))

placed-licensed : (me : ℕ) (it : Call) (answered : Outcome) (earlier during old : List Entry) → IsPlaced me it answered earlier old (during ++ old) → EachOwn me (IsLicensed me it answered old) during old
placed-licensed me it answered earlier during old p =
    rw (placed-split me it answered earlier during old p)
    (each-append me (IsLicensed me it answered old) p.later (entry.Call me p.nth p.stream it answered ∷ earlier) old
    (each-others me (IsLicensed me it answered old) p.later ((entry.Call me p.nth p.stream it answered ∷ earlier) ++ old) p.quiet)
    ((λ is. inl (refl, refl)), each-implies me (MayPlace me (Calls it) old) (IsLicensed me it answered old) (λ past e may. inr may) earlier old p.works.each))

unplaced-each : (me : ℕ) (it : Call) (e : CcError) (during old : List Entry) → IsUnplaced me it e old (during ++ old) → EachOwn me (MayPlace me (Calls it) old) during old
unplaced-each me it e during old p = rw (append_cancel_right during p.during old p.grew) p.works.each

-- each entry of the pass is the call's own one, or may stand before it
pub licensed : (u : Setup) (me : ℕ) (it : Call) (answered : Outcome) (during old : List Entry) → CallLeft u me it answered old (during ++ old) → leaves_entry answered ≡ true → EachOwn me (IsLicensed me it answered old) during old
licensed u me it answered during old left leaves =
    let p = placed-of u me it answered old (during ++ old) left leaves in
    placed-licensed me it answered p.0 during old p.1

-- without an entry of its own, each may stand before it
pub unplaced-licensed : (u : Setup) (me : ℕ) (it : Call) (answered : Outcome) (during old : List Entry) → CallLeft u me it answered old (during ++ old) → leaves_entry answered ≡ false → EachOwn me (MayPlace me (Calls it) old) during old
unplaced-licensed u me it (outcome.Done r) during old left leaves = absurd (cc)
unplaced-licensed u me it (outcome.Failed (error.JournalFull entries)) during old left leaves = unplaced-each me it _ during old left
unplaced-licensed u me it (outcome.Failed error.NoMemory) during old left leaves = unplaced-each me it _ during old left
unplaced-licensed u me it (outcome.Failed other) during old left leaves = absurd (cc)

any-middle : (test : Entry → Bool) (xs : List Entry) (e : Entry) (ys : List Entry) → test e ≡ true → list_any test (xs ++ (e ∷ ys)) ≡ true
any-middle test [] e ys is = or_left (test e) (list_any test ys) is
any-middle test (x ∷ xs) e ys is = or_right (test x) (list_any test (xs ++ (e ∷ ys))) (any-middle test xs e ys is)

-- an entry of the pass in a stretch passes a test
own-middle : (me : ℕ) (test : Entry → Bool) (xs : List Entry) (e : Entry) (ys : List Entry) → is_mine me e ≡ true → test e ≡ true → list_any test (own me (xs ++ (e ∷ ys))) ≡ true
own-middle me test xs e ys mine is =
    let middle : own me (xs ++ (e ∷ ys)) ≡ own me xs ++ (e ∷ own me ys) = own-append me xs (e ∷ ys) ∙ rw mine refl in
    rw middle (any-middle test (own me xs) e (own me ys) is)

-- a call that leaves an entry has one
pub has-entry : (u : Setup) (me : ℕ) (it : Call) (answered : Outcome) (during old : List Entry) → CallLeft u me it answered old (during ++ old) → leaves_entry answered ≡ true → list_any is_call_entry (own me during) ≡ true
has-entry u me it answered during old left leaves =
    let p = placed-of u me it answered old (during ++ old) left leaves in
    rw (placed-split me it answered p.0 during old p.1) (own-middle me is_call_entry p.1.later (entry.Call me p.1.nth p.1.stream it answered) p.0 (eq-eqb me me refl) refl)

shown : (me : ℕ) (it : Call) (e : CcError) (during old : List Entry) → IsFaulted me it e old (during ++ old) → shows_told_fault me it e during ≡ true
shown me it e during old f =
    let split : during ≡ (f.placed.later ++ (entry.Call me f.placed.nth f.placed.stream it (outcome.Failed e) ∷ f.stopped.since)) ++ (f.stop ∷ f.stopped.before) =
    placed-split me it (outcome.Failed e) f.earlier during old f.placed
    ∙ (ap (λ l. f.placed.later ++ (entry.Call me f.placed.nth f.placed.stream it (outcome.Failed e) ∷ l)) f.stopped.split
    ∙ sym (append_assoc f.placed.later (entry.Call me f.placed.nth f.placed.stream it (outcome.Failed e) ∷ f.stopped.since) (f.stop ∷ f.stopped.before))) in
    rw split (own-middle me (λ stop. is_fault_told it e (fault_of me stop)) (f.placed.later ++ (entry.Call me f.placed.nth f.placed.stream it (outcome.Failed e) ∷ f.stopped.since)) f.stop f.stopped.before f.stopped.is_own (rw f.told.shown f.told.told))

-- a call that is told a fault has the entry that shows it, of its own pass and since it began
pub read-fault-shown : (u : Setup) (me : ℕ) (it : Call) (page : ℕ) (during old : List Entry) → CallLeft u me it (outcome.Failed (error.ReadFault page)) old (during ++ old) → shows_told_fault me it (error.ReadFault page) during ≡ true
read-fault-shown u me it page during old left = shown me it (error.ReadFault page) during old left

pub write-fault-shown : (u : Setup) (me : ℕ) (it : Call) (page : ℕ) (during old : List Entry) → CallLeft u me it (outcome.Failed (error.WriteFault page)) old (during ++ old) → shows_told_fault me it (error.WriteFault page) during ≡ true
write-fault-shown u me it page during old left = shown me it (error.WriteFault page) during old left

pub log-fault-shown : (u : Setup) (me : ℕ) (it : Call) (handle : ℕ) (during old : List Entry) → CallLeft u me it (outcome.Failed (error.LogFault handle)) old (during ++ old) → shows_told_fault me it (error.LogFault handle) during ≡ true
log-fault-shown u me it handle during old left = shown me it (error.LogFault handle) during old left

-- what was placed alone is the one entry of the pass
pub only-own : (me : ℕ) (e : Entry) (during old : List Entry) → PlacedOnly me e old (during ++ old) → own me during ≡ e ∷ []
only-own me e during old only =
    let split : during ≡ only.later ++ (e ∷ only.earlier) = append_cancel_right during (only.later ++ (e ∷ only.earlier)) old (only.grew ∙ sym (append_assoc only.later (e ∷ only.earlier) old)) in
    rw split
    (own-append me only.later (e ∷ only.earlier)
    ∙ rw (own-others me only.later only.quiet_after, only.is_own, own-others me only.earlier only.quiet_before) refl)

-- where nothing was placed, there is one moment
pub some-here : (Holds : List Entry → Type 0) (old : List Entry) → AtSome Holds old old → Holds old
some-here Holds old some =
    let behind : old ≡ (some.later ++ some.since) ++ old = some.ends ∙ (ap (λ l. some.later ++ l) some.begins ∙ sym (append_assoc some.later some.since old)) in
    let nothing : some.since ≡ [] = last-empty some.later some.since (sym (append_cancel_right [] (some.later ++ some.since) old behind)) in
    let here : some.moment ≡ old = some.begins ∙ rw nothing refl in
    rw here at some.holds
  where
    last-empty : (xs ys : List Entry) → xs ++ ys ≡ [] → ys ≡ []
    last-empty [] ys is = is
    last-empty (x ∷ xs) ys is = absurd (cc)

-- where one entry was placed, there are two moments
pub some-one : (Holds : List Entry → Type 0) (e : Entry) (old : List Entry) → AtSome Holds old (e ∷ old) → Holds old ⊎ Holds (e ∷ old)
some-one Holds e old some = by some.later some.since some.ends some.begins (append_cancel_right (e ∷ []) (some.later ++ some.since) old behind)
  where
    behind : e ∷ old ≡ (some.later ++ some.since) ++ old
    behind = some.ends ∙ (ap (λ l. some.later ++ l) some.begins ∙ sym (append_assoc some.later some.since old))

    nothing : (xs ys : List Entry) → [] ≡ xs ++ ys → ys ≡ []
    nothing [] ys is = sym is
    nothing (x ∷ xs) ys is = absurd (cc)

    tail_of : (x : Entry) (xs : List Entry) → e ∷ [] ≡ x ∷ xs → [] ≡ xs
    tail_of x [] is = refl
    tail_of x (y ∷ ys) is = absurd (cc)

    by : (later since : List Entry) → e ∷ old ≡ later ++ some.moment → some.moment ≡ since ++ old → e ∷ [] ≡ later ++ since → Holds old ⊎ Holds (e ∷ old)
    by [] since ends begins split = inr (rw ends some.holds)
    by (x ∷ later) since ends begins split =
        let none : since ≡ [] = nothing later since (tail_of x (later ++ since) split) in
        let here : some.moment ≡ old = begins ∙ ap (λ l. l ++ old) none in
        inl (rw here at some.holds)

-- a flush that is done placed nothing between its sync and its entry
pub sync-last : (me : ℕ) (file : File) (span : Option Range) (r : Reply) (during old : List Entry) → IsDone me (call.Flush file span) r old (during ++ old) → (nth : ℕ) × (stream : Option ℕ) × (before : List Entry) × (own me during ≡ entry.Call me nth stream (call.Flush file span) (outcome.Done r) ∷ entry.Sync me file.stream how.Good ∷ before)
sync-last me file span r during old left =
    let p = left.placed in
    let mine : (me == me) ≡ true = eq-eqb me me refl in
    let behind : own me left.earlier ≡ entry.Sync me file.stream how.Good ∷ own me left.has_done.before =
    ap (own me) left.has_done.split
    ∙ (own-append me left.has_done.after (entry.Sync me file.stream how.Good ∷ left.has_done.before) ∙ rw (own-others me left.has_done.after left.has_done.quiet, mine) refl) in (
      p.nth,
      p.stream,
      own me left.has_done.before,
      ap (own me) (placed-split me (call.Flush file span) (outcome.Done r) left.earlier during old p)
          ∙ (own-append me p.later (entry.Call me p.nth p.stream (call.Flush file span) (outcome.Done r) ∷ left.earlier) ∙ rw (own-others me p.later p.quiet, mine, behind) refl),
    )
