-- The calls of each write, and the zeroings of each gap, are computed from its place and length.
use Rattle.std.specs.Prelude.{◌≡◌, ℕ, [], ◌∷◌, refl}
use Rattle.std.proofs.Common.{arith}
use Rattle.cc_entry.specs.declared.call.Call.TheVariants as call
use Rattle.cc_worked.specs.Values.{a}
use Rattle.cc_worked.specs.PiecesShim.{extends, zeroes_part}
use Rattle.cc_worked.proofs.pieces_shim.write_makes_no_needless_calls.Goals as goal

pub returns-clause-within : goal.returns-clause-within
returns-clause-within c = refl

pub returns-clause-at_valid : goal.returns-clause-at_valid
returns-clause-at_valid c = refl

pub returns-clause-allocated : goal.returns-clause-allocated
returns-clause-allocated c = refl

pub returns-clause-no_gap : goal.returns-clause-no_gap
returns-clause-no_gap c = refl

pub returns-clause-one_part : goal.returns-clause-one_part
returns-clause-one_part c = refl

pub returns-clause-two_parts : goal.returns-clause-two_parts
returns-clause-two_parts c = refl

pub returns-clause-not_at_once : goal.returns-clause-not_at_once
returns-clause-not_at_once c same = other same
  where
    other : zeroes_part 4096 1052672 ∷ zeroes_part 1052672 1052673 ∷ [] ≡ zeroes_part 4096 1052673 ∷ [] → ⊥
    other parts = absurd (cc)

pub returns-clause-not_deallocated : goal.returns-clause-not_deallocated
returns-clause-not_deallocated c same = other same
  where
    other : call.SetSizes a 16384 8193 ∷ call.CopyWrite a 8192 (171 ∷ []) ∷ [] ≡ extends ∷ call.CopyWrite a 8192 (171 ∷ []) ∷ [] → ⊥
    other calls = let kept : ◌≡◌ {A = ℕ} 16384 8193 = cc in omega (arith, kept)
