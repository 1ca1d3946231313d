-- The limits decide before the calls.
use Rattle.std.specs.Prelude.{◌<◌, [], ◌∷◌, ◌++◌, refl}
use Rattle.std.proofs.Common.{arith, inl, inr}
use Rattle.cc_entry.specs.declared.error.CcError.TheVariants as error
use Rattle.cc_pieces.specs.Shim.{write_calls}
use Rattle.cc_effects.proofs.Stretches.{idle-none}
use Rattle.cc_worked.specs.Values.{setup, a}
use Rattle.cc_worked.specs.PiecesReads.{one_valid}
use Rattle.cc_worked.specs.PiecesShim.{one_page_valid, asked}
use Rattle.cc_worked.proofs.ShimMarks.{told_state, same_state, AfterTold, RefusedMarks, refusal-shown, cut-some}
use Rattle.cc_worked.proofs.StateAsked.{state-told}
use Rattle.cc_worked.proofs.pieces_shim.write_keeps_to_its_limits.Goals as goal

pub returns-clause-gap_too_long : goal.returns-clause-gap_too_long
returns-clause-gap_too_long c =
    inr (asked ++ one_valid, one_page_valid, state-told 1 one_page_valid one_valid, inl (omega arith, inl refl, idle-none 1 (asked ++ one_valid)))

-- no gap is too long here, and no call was refused
none : RefusedMarks a 67112960 (171 ∷ []) (error.GapTooLong 67108864) (told_state a one_page_valid ∷ []) → ⊥
none (inl same) = absurd (cc)
none (inr told) =
    let same = same_state a one_page_valid told.0 [] told.1 told.2 in
    by (rw (same.0, same.1) at told.3)
  where
    by : AfterTold a 67112960 (171 ∷ []) (error.GapTooLong 67108864) one_page_valid [] → ⊥
    by (inl gap) = let over : 67112960 < 67112960 = gap.0 in omega (arith, over)
    by (inr cut) = cut-some (write_calls a 67112960 (171 ∷ []) one_page_valid) (error.GapTooLong 67108864) refl cut.1

pub returns-clause-not_too_long : goal.returns-clause-not_too_long
returns-clause-not_too_long c left =
    none (refusal-shown setup 1 a 67112960 (171 ∷ []) (error.GapTooLong 67108864) asked one_valid left)
