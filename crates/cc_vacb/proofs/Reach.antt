-- What a walk along digits answers, by what it finds a level above.
use Rattle.std.proofs.Common.{◌≡◌, ℕ, suc, zero, ◌-◌, ◌/◌, ◌%◌, ◌<◌, ◌==◌, if◌then◌else◌, List, Some, None, refl, ap, arith}
use Rattle.std.specs.Prelude.{option_and_then}
use native.Mathlib.Numerals.{unary_clauses}
use Rattle.cc_vacb.specs.Slots.{child_of, view_of}
use Rattle.cc_vacb.specs.Block.{Block}
use Rattle.cc_vacb.specs.Index.{reach, slot_in, entry_in}

pub reach-root : (bs : List Block) (d p : ℕ) → d ≡ 0 → reach bs d p ≡ (if p == 0 then Some 0 else None)
unfolding reach
reach-root bs zero p e = refl
reach-root bs (suc d) p e = absurd (omega arith)

pub reach_below_none : (bs : List Block) (d p : ℕ) → 0 < d → reach bs (d - 1) (p / 128) ≡ None → reach bs d p ≡ None
unfolding reach
reach_below_none bs zero p l e = absurd (omega arith)
reach_below_none bs (suc d) p l e =
    let f : reach bs d (p / 128) ≡ None = simp unary_clauses at e in
    ap (λ o. option_and_then (λ node. child_of (slot_in bs node (p % 128))) o) f

pub reach_below_some : (bs : List Block) (d p node : ℕ) → 0 < d → reach bs (d - 1) (p / 128) ≡ Some node → reach bs d p ≡ child_of (slot_in bs node (p % 128))
unfolding reach
reach_below_some bs zero p node l e = absurd (omega arith)
reach_below_some bs (suc d) p node l e =
    let f : reach bs d (p / 128) ≡ Some node = simp unary_clauses at e in
    ap (λ o. option_and_then (λ n. child_of (slot_in bs n (p % 128))) o) f

pub entry_none : (bs : List Block) (d b : ℕ) → reach bs d (b / 128) ≡ None → entry_in bs d b ≡ None
unfolding entry_in
entry_none bs d b e = ap (λ o. option_and_then (λ node. view_of (slot_in bs node (b % 128))) o) e

pub entry_some : (bs : List Block) (d b node : ℕ) → reach bs d (b / 128) ≡ Some node → entry_in bs d b ≡ view_of (slot_in bs node (b % 128))
unfolding entry_in
entry_some bs d b node e = ap (λ o. option_and_then (λ node. view_of (slot_in bs node (b % 128))) o) e

pub ruleset reaching = (reach-root, reach_below_none, reach_below_some, entry_none, entry_some)
