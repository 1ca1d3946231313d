-- How many blocks a height has, and how many of their slots are used, after a write or one more block.
use Rattle.std.proofs.Common.{◌≡◌, ◌≢◌, ℕ, suc, zero, ◌+◌, ◌<◌, ◌≤◌, ◌==◌, if◌then◌else◌, eqb, List, [], ◌∷◌, ◌++◌, length, get_or, set, replicate, count_by, sum_by, refl, ◌∙◌, arith, inl, inr}
use Rattle.std.proofs.lemmas.List.Sums.{sum_by-set, sum_by_push, get_or-le-sum_by, sum_by-cons}
use Rattle.std.proofs.lemmas.Bool.{cases_eq, cond-true, cond-false, ne_eqb, eq-eqb}
use Rattle.cc_vacb.specs.declared.slots.Slot.{Slot}
use Rattle.cc_vacb.specs.declared.slots.Slot.TheVariants.{Empty}
use Rattle.cc_vacb.specs.Slots.{is_used, weight_of}
use Rattle.cc_vacb.specs.Block.{Block, no_block, used_slots}
use Rattle.cc_vacb.specs.Index.{block_in, slot_in, entry_count_in}
use Rattle.cc_vacb.specs.Tree.{put_slot, blocks_at, used_at}

-- what a block adds at its own height alone
unfoldable pub only_at : ℕ → ℕ → ℕ → ℕ
only_at height h n = if h == height then n else 0

pub only_at_same : (height h n : ℕ) → h ≡ height → only_at height h n ≡ n
unfolding only_at
only_at_same height h n e = cond-true (eqb h height) n 0 (eq-eqb h height e)

pub only_at_other : (height h n : ℕ) → h ≢ height → only_at height h n ≡ 0
unfolding only_at
only_at_other height h n e = cond-false (eqb h height) n 0 (ne_eqb h height e)

pub only_at_is : (height h : ℕ) → only_at height h 1 ≡ (if h == height then 1 else 0)
unfolding only_at
only_at_is height h = refl

pub only_at_none : (height h n : ℕ) → n ≡ 0 → only_at height h n ≡ 0
only_at_none height h n e =
    elim (cases_eq h height) [
      | inl q ↦ only_at_same height h n q ∙ e
      | inr q ↦ only_at_other height h n q
    ]

pub used-set : (b : Block) (k : ℕ) (s : Slot) → k < length b.slots → used_slots (record b { slots = set b.slots k s }) + weight_of (get_or b.slots k Empty) ≡ used_slots b + weight_of s
used-set b k s h = sum_by-set weight_of b.slots k s Empty h

pub blocks_at-put : (height : ℕ) (bs : List Block) (i k : ℕ) (s : Slot) → i < length bs → blocks_at height (put_slot bs i k s) ≡ blocks_at height bs
unfolding blocks_at
blocks_at-put height bs i k s h =
    let e = sum_by-set (λ (b : Block). if b.height == height then 1 else 0) bs i (record (block_in bs i) { slots = set (block_in bs i).slots k s }) no_block h in
    omega (arith, e)

pub used_at-put : (height : ℕ) (bs : List Block) (i k : ℕ) (s : Slot) → i < length bs → k < length (block_in bs i).slots → used_at height (put_slot bs i k s) + only_at height (block_in bs i).height (weight_of (slot_in bs i k)) ≡ used_at height bs + only_at height (block_in bs i).height (weight_of s)
unfolding used_at only_at
used_at-put height bs i k s h w =
    let new : Block = record (block_in bs i) { slots = set (block_in bs i).slots k s } in
    let hi = (block_in bs i).height in
    let e : sum_by (λ (b : Block). if b.height == height then used_slots b else 0) (put_slot bs i k s) + only_at height hi (used_slots (block_in bs i)) ≡ sum_by (λ (b : Block). if b.height == height then used_slots b else 0) bs + only_at height hi (used_slots new) = sum_by-set (λ (b : Block). if b.height == height then used_slots b else 0) bs i new no_block h in
    let u = used-set (block_in bs i) k s w in
    elim (cases_eq hi height) [
      | inl q ↦ omega (arith, e, u, only_at_same height hi (used_slots (block_in bs i)) q, only_at_same height hi (used_slots new) q, only_at_same height hi (weight_of (slot_in bs i k)) q, only_at_same height hi (weight_of s) q)
      | inr q ↦ omega (arith, e, only_at_other height hi (used_slots (block_in bs i)) q, only_at_other height hi (used_slots new) q, only_at_other height hi (weight_of (slot_in bs i k)) q, only_at_other height hi (weight_of s) q)
    ]

pub blocks_at-push : (height : ℕ) (bs : List Block) (b : Block) → blocks_at height (bs ++ b ∷ []) ≡ blocks_at height bs + only_at height b.height 1
unfolding blocks_at only_at
blocks_at-push height bs b = sum_by_push (λ (b : Block). if b.height == height then 1 else 0) bs b

pub used_at-push : (height : ℕ) (bs : List Block) (b : Block) → used_at height (bs ++ b ∷ []) ≡ used_at height bs + only_at height b.height (used_slots b)
unfolding used_at only_at
used_at-push height bs b = sum_by_push (λ (b : Block). if b.height == height then used_slots b else 0) bs b

pub used-replicate : (n : ℕ) → count_by is_used (replicate n Empty) ≡ 0
used-replicate zero = refl
used-replicate (suc n) =
    let h = used-replicate n in
    let e : count_by is_used (Empty ∷ replicate n Empty) ≡ 0 + count_by is_used (replicate n Empty) = sum_by-cons weight_of Empty (replicate n Empty) in
    omega (arith, e, h)

pub count_in-used : (bs : List Block) → entry_count_in bs ≡ used_at 0 bs
unfolding entry_count_in used_at
count_in-used bs = refl

-- a block with a used slot
pub used_by : (b : Block) (k : ℕ) → k < length b.slots → weight_of (get_or b.slots k Empty) ≤ used_slots b
used_by b k h = get_or-le-sum_by weight_of b.slots k Empty h
