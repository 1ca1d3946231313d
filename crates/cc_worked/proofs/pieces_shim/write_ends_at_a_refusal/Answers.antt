-- The calls up to the refusal are seen by their ends, and no end stands after it.
use Rattle.std.specs.Prelude.{◌≡◌, Bool, true, false, List, [], ◌∷◌, ◌++◌, refl, if◌then◌else◌}
use Rattle.std.specs.declared.option.Option.TheVariants.{Some}
use Rattle.std.proofs.Common.{arith, inl, inr}
use Rattle.cc_entry.specs.declared.call.Call.TheVariants as call
use Rattle.cc_entry.specs.declared.query.Query.TheVariants as query
use Rattle.cc_entry.specs.declared.error.CcError.{CcError}
use Rattle.cc_entry.specs.declared.error.CcError.TheVariants as error
use Rattle.cc_entry.specs.declared.reply.Reply.TheVariants as reply
use Rattle.cc_entry.specs.declared.reply.Outcome.TheVariants as outcome
use Rattle.cc_effects.specs.Calls.{leaves_entry}
use Rattle.cc_pieces.specs.Shim.{write_calls}
use Rattle.cc_effects.proofs.Starts.{begins, ends_refused}
use Rattle.cc_worked.specs.Values.{setup, a}
use Rattle.cc_worked.specs.PiecesReads.{one_valid}
use Rattle.cc_worked.specs.PiecesShim.{one_page_valid, asked, extends, zeroes, writes, extension_is_refused, goes_on}
use Rattle.cc_worked.proofs.PiecesOpened.{computed}
use Rattle.cc_worked.proofs.Marks.{Mark, Ended, done_marks}
use Rattle.cc_worked.proofs.ShimMarks.{told_state, same_state, write-told, AfterTold, RefusedMarks, refusal-shown, cut-here}
use Rattle.cc_worked.proofs.StateAsked.{state-told}
use Rattle.cc_worked.proofs.pieces_shim.write_ends_at_a_refusal.Goals as goal

pub returns-clause-refused : goal.returns-clause-refused
unfolding computed
returns-clause-refused c =
    inr (
      asked ++ one_valid,
      one_page_valid,
      state-told 1 one_page_valid one_valid,
      inr (
        omega arith,
        inl (inl (ends_refused 1 2 (Some 0) extends (error.Held 1) (asked ++ one_valid) (asked ++ one_valid) (begins 1 extends (asked ++ one_valid)) refl refl)),
      ),
    )

pub returns-clause-not_asked : goal.returns-clause-not_asked
unfolding computed
returns-clause-not_asked c =
    inl (error.NotCached, refl, inl (ends_refused 1 1 (Some 0) (call.Query (query.State a)) error.NotCached [] [] (begins 1 (call.Query (query.State a)) []) refl refl))

-- after the question stands the refusal alone, and it is the answer
after : (e : CcError) (rest : List Mark) → RefusedMarks a 8192 (171 ∷ []) e (told_state a one_page_valid ∷ Ended extends (outcome.Failed (error.Held 1)) ∷ rest) → (rest ≡ []) × (e ≡ error.Held 1)
after e rest (inl same) = by (leaves_entry (outcome.Failed e)) same
  where
    by : (leaves : Bool) → told_state a one_page_valid ∷ Ended extends (outcome.Failed (error.Held 1)) ∷ rest ≡ (if leaves then Ended (call.Query (query.State a)) (outcome.Failed e) ∷ [] else []) → (rest ≡ []) × (e ≡ error.Held 1)
    by true same = absurd (cc)
    by false same = absurd (cc)
after e rest (inr told) =
    let same = same_state a one_page_valid told.0 (Ended extends (outcome.Failed (error.Held 1)) ∷ rest) told.1 told.2 in
    by told.1 same.1 told.3
  where
    by : (its : List Mark) → its ≡ Ended extends (outcome.Failed (error.Held 1)) ∷ rest → AfterTold a 8192 (171 ∷ []) e told.0 its → (rest ≡ []) × (e ≡ error.Held 1)
    by its is (inl gap) = let none : its ≡ [] = gap.1 in absurd (cc)
    by its is (inr cut) = cut-here (write_calls a 8192 (171 ∷ []) told.0) e extends (error.Held 1) rest (rw is at cut.1)

pub returns-clause-no_more : goal.returns-clause-no_more
returns-clause-no_more c left =
    other (after (error.Held 1) (Ended zeroes (outcome.Done reply.Unit) ∷ []) (refusal-shown setup 1 a 8192 (171 ∷ []) (error.Held 1) goes_on one_valid left)).0
  where
    other : Ended zeroes (outcome.Done reply.Unit) ∷ [] ≡ [] → ⊥
    other same = absurd (cc)

pub returns-clause-no_other : goal.returns-clause-no_other
returns-clause-no_other c left =
    other (after (error.Held 2) [] (refusal-shown setup 1 a 8192 (171 ∷ []) (error.Held 2) extension_is_refused one_valid left)).1
  where
    other : error.Held 2 ≡ error.Held 1 → ⊥
    other same = absurd (cc)

pub returns-clause-not_done : goal.returns-clause-not_done
returns-clause-not_done c left =
    other (write-told setup 1 a 8192 (171 ∷ []) one_page_valid (Ended extends (outcome.Failed (error.Held 1)) ∷ []) extension_is_refused one_valid refl left)
  where
    other : Ended extends (outcome.Failed (error.Held 1)) ∷ [] ≡ done_marks (extends ∷ zeroes ∷ writes ∷ []) → ⊥
    other same = absurd (cc)
