-- Each entry in its order; a wrong one by the calls and the record that it shows.
use Rattle.std.specs.Prelude.{◌≡◌, ℕ, true, List, [], ◌∷◌, ◌++◌, Ok, refl}
use Rattle.std.specs.declared.option.Option.TheVariants.{Some}
use Rattle.std.proofs.Common.{arith, inr}
use Rattle.cc_entry.specs.declared.place.FileState.{FileState}
use Rattle.cc_entry.specs.declared.call.Call.TheVariants as call
use Rattle.cc_entry.specs.declared.reply.Reply.TheVariants as reply
use Rattle.cc_entry.specs.declared.reply.Outcome.TheVariants as outcome
use Rattle.cc_entry.specs.declared.entry.Entry.{Entry}
use Rattle.cc_entry.specs.declared.entry.Entry.TheVariants as entry
use Rattle.cc_effects.specs.Calls.{CallLeft}
use Rattle.cc_pieces.specs.Shim.{PinnedUpdateLeft}
use Rattle.cc_effects.proofs.Starts.{begins, brings, ends_done}
use Rattle.cc_effects.proofs.Stretches.{idle-none}
use Rattle.cc_worked.specs.Values.{setup, a, page, answers, read_in}
use Rattle.cc_worked.specs.PiecesShim.{logged, logged_state, pins, pinned_and_asked, its_record, turned_record, changes, stamps, updates_with, updates_unlogged, stamps_first, stays_pinned}
use Rattle.cc_worked.proofs.PiecesOpened.{computed}
use Rattle.cc_worked.proofs.Marks.{marks}
use Rattle.cc_worked.proofs.UpdateMarks.{updated_marks, update-shown}
use Rattle.cc_worked.proofs.StateAsked.{state-told}
use Rattle.cc_worked.proofs.pieces_shim.update_has_its_record.Goals as goal

pinned : List Entry
pinned = answers 1 1 pins (reply.Hold 1) ∷ read_in 1 0 ∷ logged 8192

recorded : List Entry
recorded = entry.Append 1 0 1 its_record ∷ (pinned_and_asked (logged_state 8192) ++ logged 8192)

changed : List Entry
unfolding recorded
changed = changes 3 ∷ recorded

stamped : List Entry
unfolding changed
stamped = stamps 4 1 ∷ changed

its_pin : CallLeft setup 1 pins (outcome.Done (reply.Hold 1)) (logged 8192) pinned
unfolding computed pinned
its_pin =
    ends_done 1 1 (Some 0) pins (reply.Hold 1) (logged 8192) (read_in 1 0 ∷ logged 8192) (brings 1 pins (logged 8192) (logged 8192) (page 0) true (begins 1 pins (logged 8192)) refl refl refl) refl (λ during. tt)

its_change : CallLeft setup 1 (call.PinnedWrite 1 258 (171 ∷ [])) (outcome.Done reply.Unit) recorded changed
unfolding computed changed
its_change =
    ends_done 1 3 (Some 0) (call.PinnedWrite 1 258 (171 ∷ [])) reply.Unit recorded recorded (begins 1 (call.PinnedWrite 1 258 (171 ∷ [])) recorded) refl (λ during. tt)

its_stamp : CallLeft setup 1 (call.SetDirty 1 (Some 1)) (outcome.Done reply.Unit) changed stamped
unfolding computed stamped
its_stamp =
    ends_done 1 4 (Some 0) (call.SetDirty 1 (Some 1)) reply.Unit changed changed (begins 1 (call.SetDirty 1 (Some 1)) changed) refl (λ during. tt)

under_its_pin : PinnedUpdateLeft setup 1 a 1 258 (171 ∷ []) (Ok 1) pinned stamped
unfolding computed pinned stamped
under_its_pin =
    inr (
      pinned_and_asked (logged_state 8192) ++ logged 8192,
      logged_state 8192,
      state-told 2 (logged_state 8192) pinned,
      inr (
        omega arith,
        inr (
          recorded,
          1,
          (omega arith, record { later = []; earlier = []; grew = refl; is_own = refl; quiet_after = tt; quiet_before = tt }),
          (refl, (changed, its_change, (stamped, its_stamp, idle-none 1 stamped))),
        ),
      ),
    )

pub returns-clause-done : goal.returns-clause-done
unfolding computed stamped
returns-clause-done c =
    inr (
      1,
      pinned,
      stamped,
      its_pin,
      under_its_pin,
      ends_done 1 5 (Some 0) (call.EndHold 1) reply.Unit stamped stamped (begins 1 (call.EndHold 1) stamped) refl (λ during. tt),
    )

pub returns-clause-no_other_answer : goal.returns-clause-no_other_answer
returns-clause-no_other_answer c left =
    let shown = update-shown setup 1 a 258 (171 ∷ []) 2 (updates_with its_record 1) (logged 8192) left in
    other shown.0 shown.1 shown.2 shown.3
  where
    other : (id : ℕ) (state : FileState) (handle : ℕ) → marks 1 (updates_with its_record 1) ≡ updated_marks a 258 (171 ∷ []) id state handle 2 → ⊥
    other id state handle same = absurd (cc)

pub returns-clause-no_other_stamp : goal.returns-clause-no_other_stamp
returns-clause-no_other_stamp c left =
    let shown = update-shown setup 1 a 258 (171 ∷ []) 1 (updates_with its_record 2) (logged 8192) left in
    other shown.0 shown.1 shown.2 shown.3
  where
    other : (id : ℕ) (state : FileState) (handle : ℕ) → marks 1 (updates_with its_record 2) ≡ updated_marks a 258 (171 ∷ []) id state handle 1 → ⊥
    other id state handle same = absurd (cc)

pub returns-clause-no_other_record : goal.returns-clause-no_other_record
returns-clause-no_other_record c left =
    let shown = update-shown setup 1 a 258 (171 ∷ []) 1 (updates_with turned_record 1) (logged 8192) left in
    other shown.0 shown.1 shown.2 shown.3
  where
    other : (id : ℕ) (state : FileState) (handle : ℕ) → marks 1 (updates_with turned_record 1) ≡ updated_marks a 258 (171 ∷ []) id state handle 1 → ⊥
    other id state handle same = absurd (cc)

pub returns-clause-logged : goal.returns-clause-logged
returns-clause-logged c left =
    let shown = update-shown setup 1 a 258 (171 ∷ []) 1 updates_unlogged (logged 8192) left in
    other shown.0 shown.1 shown.2 shown.3
  where
    other : (id : ℕ) (state : FileState) (handle : ℕ) → marks 1 updates_unlogged ≡ updated_marks a 258 (171 ∷ []) id state handle 1 → ⊥
    other id state handle same = absurd (cc)

pub returns-clause-record_first : goal.returns-clause-record_first
returns-clause-record_first c left =
    let shown = update-shown setup 1 a 258 (171 ∷ []) 1 stamps_first (logged 8192) left in
    other shown.0 shown.1 shown.2 shown.3
  where
    other : (id : ℕ) (state : FileState) (handle : ℕ) → marks 1 stamps_first ≡ updated_marks a 258 (171 ∷ []) id state handle 1 → ⊥
    other id state handle same = absurd (cc)

pub returns-clause-let_go : goal.returns-clause-let_go
returns-clause-let_go c left =
    let shown = update-shown setup 1 a 258 (171 ∷ []) 1 stays_pinned (logged 8192) left in
    other shown.0 shown.1 shown.2 shown.3
  where
    other : (id : ℕ) (state : FileState) (handle : ℕ) → marks 1 stays_pinned ≡ updated_marks a 258 (171 ∷ []) id state handle 1 → ⊥
    other id state handle same = absurd (cc)
