-- Each call with its page; a wrong one by the calls whose ends it shows.
use Rattle.std.specs.Prelude.{◌≡◌, false, List, [], ◌∷◌, ◌++◌, refl}
use Rattle.std.specs.declared.option.Option.TheVariants.{Some}
use Rattle.std.proofs.Common.{arith, inr}
use Rattle.cc_entry.specs.declared.place.FileState.{FileState}
use Rattle.cc_entry.specs.declared.reply.Reply.TheVariants as reply
use Rattle.cc_entry.specs.declared.reply.Outcome.TheVariants as outcome
use Rattle.cc_entry.specs.declared.entry.Entry.{Entry}
use Rattle.cc_entry.specs.declared.entry.Entry.TheVariants as entry
use Rattle.cc_effects.specs.Calls.{CallLeft}
use Rattle.cc_pieces.specs.Shim.{write_calls}
use Rattle.cc_effects.proofs.Starts.{begins, brings, ends_done}
use Rattle.cc_effects.proofs.Stretches.{idle-none}
use Rattle.cc_worked.specs.Values.{setup, a, page, done}
use Rattle.cc_worked.specs.PiecesReads.{one_valid}
use Rattle.cc_worked.specs.PiecesShim.{one_page_valid, asked, extends, zeroes, writes, grows, stops_short, leaves_gap, zeroes_last, asks_nothing}
use Rattle.cc_worked.proofs.PiecesOpened.{computed}
use Rattle.cc_worked.proofs.Marks.{Mark, done_marks}
use Rattle.cc_worked.proofs.ShimMarks.{told_state, write-shown, write-told}
use Rattle.cc_worked.proofs.StateAsked.{state-told}
use Rattle.cc_worked.proofs.pieces_shim.write_makes_its_calls.Goals as goal

extended : List Entry
extended = done 1 2 extends ∷ (asked ++ one_valid)

zeroed : List Entry
unfolding extended
zeroed = done 1 3 zeroes ∷ entry.PageIn 1 (page 1) false ∷ extended

pub returns-clause-done : goal.returns-clause-done
unfolding computed extended zeroed
returns-clause-done c =
    inr (
      asked ++ one_valid,
      one_page_valid,
      state-told 1 one_page_valid one_valid,
      inr (
        omega arith,
        (extended, its_extension, (zeroed, its_zeroing, (grows ++ one_valid, its_write, idle-none 1 (grows ++ one_valid)))),
      ),
    )
  where
    its_extension : CallLeft setup 1 extends (outcome.Done reply.Unit) (asked ++ one_valid) extended
    its_extension =
        ends_done 1 2 (Some 0) extends reply.Unit (asked ++ one_valid) (asked ++ one_valid) (begins 1 extends (asked ++ one_valid)) refl (λ during. tt)

    its_zeroing : CallLeft setup 1 zeroes (outcome.Done reply.Unit) extended zeroed
    its_zeroing =
        ends_done 1 3 (Some 0) zeroes reply.Unit extended (entry.PageIn 1 (page 1) false ∷ extended) (brings 1 zeroes extended extended (page 1) false (begins 1 zeroes extended) refl refl refl) refl (λ during. tt)

    its_write : CallLeft setup 1 writes (outcome.Done reply.Unit) zeroed (grows ++ one_valid)
    its_write =
        ends_done 1 4 (Some 0) writes reply.Unit zeroed (entry.PageIn 1 (page 2) false ∷ zeroed) (brings 1 writes zeroed zeroed (page 2) false (begins 1 writes zeroed) refl refl refl) refl (λ during. tt)

pub returns-clause-not_short : goal.returns-clause-not_short
returns-clause-not_short c left = other (write-told setup 1 a 8192 (171 ∷ []) one_page_valid (done_marks (extends ∷ zeroes ∷ [])) stops_short one_valid refl left)
  where
    other : done_marks (extends ∷ zeroes ∷ []) ≡ done_marks (extends ∷ zeroes ∷ writes ∷ []) → ⊥
    other same = absurd (cc)

pub returns-clause-no_gap : goal.returns-clause-no_gap
returns-clause-no_gap c left = other (write-told setup 1 a 8192 (171 ∷ []) one_page_valid (done_marks (extends ∷ writes ∷ [])) leaves_gap one_valid refl left)
  where
    other : done_marks (extends ∷ writes ∷ []) ≡ done_marks (extends ∷ zeroes ∷ writes ∷ []) → ⊥
    other same = absurd (cc)

pub returns-clause-in_order : goal.returns-clause-in_order
returns-clause-in_order c left = other (write-told setup 1 a 8192 (171 ∷ []) one_page_valid (done_marks (extends ∷ writes ∷ zeroes ∷ [])) zeroes_last one_valid refl left)
  where
    other : done_marks (extends ∷ writes ∷ zeroes ∷ []) ≡ done_marks (extends ∷ zeroes ∷ writes ∷ []) → ⊥
    other same = absurd (cc)

pub returns-clause-asks_first : goal.returns-clause-asks_first
returns-clause-asks_first c left =
    let shown = write-shown setup 1 a 8192 (171 ∷ []) asks_nothing one_valid left in
    other shown.0 (done_marks (write_calls a 8192 (171 ∷ []) shown.0)) shown.1
  where
    other : (state : FileState) (rest : List Mark) → done_marks (extends ∷ zeroes ∷ writes ∷ []) ≡ told_state a state ∷ rest → ⊥
    other state rest same = absurd (cc)
