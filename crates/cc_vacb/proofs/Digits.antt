-- The digits of a block's number lead from the root to its entry.
use Rattle.std.proofs.Common.{◌≡◌, ℕ, suc, zero, ◌*◌, ◌/◌, ◌%◌, ◌^◌, ◌<◌, ◌==◌, if◌then◌else◌, List, [], ◌∷◌, ◌++◌, Some, None, refl, ap, sym, ◌∙◌, arith}
use Rattle.std.proofs.lemmas.Nat.{div_below}
use native.Mathlib.Numerals.{unary_clauses}
use Rattle.std.specs.Prelude.{option_and_then}
use Rattle.cc_vacb.specs.declared.slots.Slot.{Slot}
use Rattle.cc_vacb.specs.declared.slots.Slot.TheVariants.{Empty, Node, View}
use Rattle.cc_vacb.specs.Slots.{child_of, view_of}
use Rattle.cc_vacb.specs.Block.{Block}
use Rattle.cc_vacb.specs.Index.{slot_in, reach, entry_in, digits_of, slot_behind, led_by}

led_by-push : (slot : ℕ → ℕ → Slot) (from : Slot) (xs : List ℕ) (d : ℕ) → led_by slot from (xs ++ (d ∷ [])) ≡ slot_behind slot (led_by slot from xs) d
unfolding led_by
led_by-push slot from [] d = refl
led_by-push slot from (x ∷ xs) d = led_by-push slot (slot_behind slot from x) xs d

behind_child : (slot : ℕ → ℕ → Slot) (s : Slot) (d : ℕ) → child_of (slot_behind slot s d) ≡ option_and_then (λ node. child_of (slot node d)) (child_of s)
behind_child slot Empty d = refl
behind_child slot (Node n) d = refl
behind_child slot (View v) d = refl

behind_view : (slot : ℕ → ℕ → Slot) (s : Slot) (d : ℕ) → view_of (slot_behind slot s d) ≡ option_and_then (λ node. view_of (slot node d)) (child_of s)
behind_view slot Empty d = refl
behind_view slot (Node n) d = refl
behind_view slot (View v) d = refl

led_to_reach : (bs : List Block) (d p : ℕ) → p < 128 ^ d → child_of (led_by (λ node i. slot_in bs node i) (Node 0) (digits_of d p)) ≡ reach bs d p
unfolding led_by digits_of reach
led_to_reach bs zero p c =
    let z : p ≡ 0 = omega (arith, simp unary_clauses at c) in
    ap (λ n. if n == 0 then Some 0 else None) (sym z)
led_to_reach bs (suc d) p c =
    let l : p < 128 ^ d * 128 = simp unary_clauses at c in
    let below : p / 128 < 128 ^ d = div_below p 128 (128 ^ d) (omega arith) l in
    ap child_of (led_by-push (λ node i. slot_in bs node i) (Node 0) (digits_of d (p / 128)) (p % 128))
    ∙ behind_child (λ node i. slot_in bs node i) (led_by (λ node i. slot_in bs node i) (Node 0) (digits_of d (p / 128))) (p % 128)
    ∙ ap (λ o. option_and_then (λ node. child_of (slot_in bs node (p % 128))) o) (led_to_reach bs d (p / 128) below)

pub led_to_entry : (bs : List Block) (top n : ℕ) → n / 128 < 128 ^ top → view_of (led_by (λ node i. slot_in bs node i) (Node 0) (digits_of (suc top) n)) ≡ entry_in bs top n
unfolding digits_of entry_in
led_to_entry bs top n c =
    ap view_of (led_by-push (λ node i. slot_in bs node i) (Node 0) (digits_of top (n / 128)) (n % 128))
    ∙ behind_view (λ node i. slot_in bs node i) (led_by (λ node i. slot_in bs node i) (Node 0) (digits_of top (n / 128))) (n % 128)
    ∙ ap (λ o. option_and_then (λ node. view_of (slot_in bs node (n % 128))) o) (led_to_reach bs top (n / 128) c)
