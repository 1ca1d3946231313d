-- The mapped blocks of a history: their order of use, and how many there are.
use Rattle.std.specs.Prelude.{◌≡◌, ℕ, ◌+◌, ◌<◌, ◌≤◌, Bool, true, false, ◌||◌, ◌==◌, nat_eq, List, [], ◌∷◌, length, map, refl}
use Rattle.std.proofs.Common.{ap, sym, ◌∙◌, arith, true≢false}
use Rattle.std.proofs.lemmas.Bool.{and_parts}
use Rattle.std.proofs.lemmas.Map.Made.{length-from_keys}
use Rattle.std.specs.Cmp.{nat_eq_equiv}
use Rattle.std.specs.List.{list_any, IsDistinct}
use Rattle.std.specs.Set.{distinct_count, is_member}
use Rattle.cc_entry.specs.Pages.{block_of}
use Rattle.cc_model.specs.Numbers.{is_among}
use Rattle.cc_model.specs.History.{Effect}
use Rattle.cc_model.specs.Touches.{is_mapped}
use Rattle.cc_model.specs.Residency.{residents, is_resident, block_is_mapped, mapped_block_count, mapped_blocks_with, used_by, used, order_of_use}
use Rattle.cc_laws.proofs.BlockLists.{same-flip, is_among-filter, IsDistinct-filter, IsDistinct-used}
use Rattle.cc_laws.proofs.BlockPages.{is_member-among}
use Rattle.cc_laws.proofs.Lists1.{count-le}
use Rattle.cc_laws.proofs.ResidencySteps.{residents-unmapped}
use Rattle.cc_content.proofs.Found.{filter-none, IsDistinct-front}

-- with no page, no block is in use
pub order_of_use-none : (h : List Effect) → residents h ≡ [] → order_of_use h ≡ []
unfolding order_of_use
order_of_use-none [] none = refl
order_of_use-none (e ∷ h) none =
    filter-none (block_is_mapped (e ∷ h)) (used (used_by e h) (order_of_use h)) (λ b. ap (list_any (λ p. block_of p == b)) none)

-- without a map there is no page and no block
pub is_resident-unmapped : (h : List Effect) (p : ℕ) → is_mapped h ≡ false → is_resident h p ≡ false
is_resident-unmapped h p unmapped = ap (is_among p) (residents-unmapped h unmapped)

pub block_is_mapped-unmapped : (h : List Effect) (b : ℕ) → is_mapped h ≡ false → block_is_mapped h b ≡ false
block_is_mapped-unmapped h b unmapped = ap (list_any (λ p. block_of p == b)) (residents-unmapped h unmapped)

pub order_of_use-unmapped : (h : List Effect) → is_mapped h ≡ false → order_of_use h ≡ []
order_of_use-unmapped h unmapped = order_of_use-none h (residents-unmapped h unmapped)

pub mapped_blocks-unmapped : (h : List Effect) → is_mapped h ≡ false → mapped_block_count h ≡ 0
mapped_blocks-unmapped h unmapped = ap (λ ps. distinct_count nat_eq (map block_of ps)) (residents-unmapped h unmapped)

-- the order of use has each block once, and mapped ones alone
pub order_of_use-distinct : (h : List Effect) → IsDistinct nat_eq (order_of_use h)
unfolding order_of_use IsDistinct
order_of_use-distinct [] = tt
order_of_use-distinct (e ∷ h) =
    IsDistinct-filter (block_is_mapped (e ∷ h)) (used (used_by e h) (order_of_use h)) (IsDistinct-used (used_by e h) (order_of_use h) (order_of_use-distinct h))

pub order_of_use-mapped : (h : List Effect) (b : ℕ) → is_among b (order_of_use h) ≡ true → block_is_mapped h b ≡ true
unfolding order_of_use
order_of_use-mapped [] b some = absurd (true≢false (sym some))
order_of_use-mapped (e ∷ h) b some =
    let order = used (used_by e h) (order_of_use h) in
    (and_parts (is_among b order) _ (sym (is_among-filter (block_is_mapped (e ∷ h)) b order) ∙ some)).1

-- a block is that of a page
member-blocks : (b : ℕ) (ps : List ℕ) → is_member nat_eq (map block_of ps) b ≡ list_any (λ p. block_of p == b) ps
member-blocks b [] = refl
member-blocks b (p ∷ ps) = rw (same-flip b (block_of p)) (ap (λ t. (block_of p == b) || t) (member-blocks b ps))

-- a list that has each mapped block once, and no other, is as long as there are mapped blocks
pub length-mapped : (h : List Effect) (order : List ℕ) → IsDistinct nat_eq order → ((b : ℕ) → is_among b order ≡ block_is_mapped h b) → length order ≡ mapped_block_count h
length-mapped h order distinct same =
    length-from_keys nat_eq_equiv order (map block_of (residents h)) distinct (λ b. is_member-among b order ∙ (same b ∙ sym (member-blocks b (residents h))))

-- a block that is not in use would be one more
pub length-with : (h : List Effect) (p : ℕ) → is_among (block_of p) (order_of_use h) ≡ false → length (order_of_use h) < mapped_blocks_with h p
length-with h p absent = one_more (length (order_of_use h)) (distinct_count nat_eq with_block) (mapped_blocks_with h p) counted few
  where
    with_block : List ℕ
    with_block = block_of p ∷ order_of_use h

    one_more : (n with_it all : ℕ) → n + 1 ≡ with_it → with_it ≤ all → n < all
    one_more n with_it all e k = omega arith

    counted : length (order_of_use h) + 1 ≡ distinct_count nat_eq with_block
    counted =
        let all : length with_block ≡ distinct_count nat_eq with_block = length-from_keys nat_eq_equiv with_block with_block (IsDistinct-front (block_of p) (order_of_use h) absent (order_of_use-distinct h)) (λ _. refl) in
        omega arith

    among : (b : ℕ) (t : Bool) → (t || is_member nat_eq (order_of_use h) b) ≡ true → (t || is_member nat_eq (map block_of (residents h)) b) ≡ true
    among b true some = refl
    among b false some = member-blocks b (residents h) ∙ order_of_use-mapped h b (sym (is_member-among b (order_of_use h)) ∙ some)

    few : distinct_count nat_eq with_block ≤ mapped_blocks_with h p
    few = count-le with_block (block_of p ∷ map block_of (residents h)) (λ b some. among b (nat_eq b (block_of p)) some)
