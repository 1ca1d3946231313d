-- There are at most as many index blocks as levels times entries, and the root.
use Rattle.std.proofs.Common.{◌≡◌, ◌≢◌, ℕ, suc, zero, ◌+◌, ◌*◌, ◌<◌, ◌≤◌, ◌==◌, if◌then◌else◌, List, [], ◌∷◌, length, refl, ap, arith, inl, inr}
use Rattle.std.proofs.lemmas.Bool.{cases_eq}
use Rattle.std.proofs.lemmas.List.Sums.{sum_by-cons}
use Rattle.cc_vacb.specs.Block.{Block, used_slots}
use Rattle.cc_vacb.specs.Index.{block_in}
use Rattle.cc_vacb.specs.Tree.{IsTree, FilledBut, used_at, blocks_at}
use Rattle.cc_vacb.proofs.Count.{only_at, only_at_same, only_at_other}

pub blocks_at-cons : (h : ℕ) (b : Block) (bs : List Block) → blocks_at h (b ∷ bs) ≡ only_at h b.height 1 + blocks_at h bs
unfolding blocks_at only_at
blocks_at-cons h b bs = sum_by-cons (λ (b : Block). if b.height == h then 1 else 0) b bs

pub used_at-cons : (h : ℕ) (b : Block) (bs : List Block) → used_at h (b ∷ bs) ≡ only_at h b.height (used_slots b) + used_at h bs
unfolding used_at only_at
used_at-cons h b bs = sum_by-cons (λ (b : Block). if b.height == h then used_slots b else 0) b bs

pub blocks_at-nil : (h : ℕ) → blocks_at h [] ≡ 0
unfolding blocks_at
blocks_at-nil h = refl

pub used_at-nil : (h : ℕ) → used_at h [] ≡ 0
unfolding used_at
used_at-nil h = refl

-- where no block has the height
pub none_at : (h : ℕ) (bs : List Block) → ((x : ℕ) → x < length bs → (block_in bs x).height ≢ h) → (blocks_at h bs ≡ 0) × (used_at h bs ≡ 0)
none_at h [] n = (blocks_at-nil h, used_at-nil h)
none_at h (b ∷ bs) n =
    let e : b.height ≢ h = n 0 (omega arith) in
    let r = none_at h bs (λ x l. n (suc x) (omega arith)) in (
      omega (arith, blocks_at-cons h b bs, only_at_other h b.height 1 e, r.0),
      omega (arith, used_at-cons h b bs, only_at_other h b.height (used_slots b) e, r.1),
    )

-- where each block of the height has a used slot
pub fewer_blocks : (h : ℕ) (bs : List Block) → ((x : ℕ) → x < length bs → (block_in bs x).height ≡ h → 0 < used_slots (block_in bs x)) → blocks_at h bs ≤ used_at h bs
fewer_blocks h [] f = omega (arith, blocks_at-nil h)
fewer_blocks h (b ∷ bs) f =
    let r = fewer_blocks h bs (λ x l. f (suc x) (omega arith)) in
    elim (cases_eq b.height h) [
      | inl e ↦ omega (arith, r, blocks_at-cons h b bs, used_at-cons h b bs, only_at_same h b.height 1 e, only_at_same h b.height (used_slots b) e, f 0 (omega arith) e)
      | inr e ↦ omega (arith, r, blocks_at-cons h b bs, used_at-cons h b bs, only_at_other h b.height 1 e, only_at_other h b.height (used_slots b) e)
    ]

-- how many blocks stand below a height
blocks_below : ℕ → List Block → ℕ
blocks_below zero bs = 0
blocks_below (suc h) bs = blocks_below h bs + blocks_at h bs

below-nil : (h : ℕ) → blocks_below h [] ≡ 0
unfolding blocks_below
below-nil zero = refl
below-nil (suc h) = omega (arith, below-nil h, blocks_at-nil h)

below-cons_under : (h : ℕ) (b : Block) (bs : List Block) → h ≤ b.height → blocks_below h (b ∷ bs) ≡ blocks_below h bs
unfolding blocks_below
below-cons_under zero b bs l = refl
below-cons_under (suc h) b bs l = omega (arith, below-cons_under h b bs (omega arith), blocks_at-cons h b bs, only_at_other h b.height 1 (λ e. omega arith))

below-cons : (h : ℕ) (b : Block) (bs : List Block) → b.height < h → blocks_below h (b ∷ bs) ≡ blocks_below h bs + 1
unfolding blocks_below
below-cons zero b bs l = absurd (omega arith)
below-cons (suc h) b bs l =
    elim (cases_eq b.height h) [
      | inl e ↦ omega (arith, below-cons_under h b bs (omega arith), blocks_at-cons h b bs, only_at_same h b.height 1 e)
      | inr e ↦ omega (arith, below-cons h b bs (omega arith), blocks_at-cons h b bs, only_at_other h b.height 1 e)
    ]

all_below : (h : ℕ) (bs : List Block) → ((x : ℕ) → x < length bs → (block_in bs x).height < h) → length bs ≤ blocks_below h bs
all_below h [] f = omega arith
all_below h (b ∷ bs) f = omega (arith, all_below h bs (λ x l. f (suc x) (omega arith)), below-cons h b bs (f 0 (omega arith)))

pub one_root : (top : ℕ) (bs : List Block) → ((x : ℕ) → 0 < x → x < length bs → (block_in bs x).height < top) → blocks_at top bs ≤ 1
one_root top [] f = omega (arith, blocks_at-nil top)
one_root top (b ∷ bs) f =
    let r = none_at top bs (λ x l e. omega (arith, f (suc x) (omega arith) (omega arith))) in
    elim (cases_eq b.height top) [
      | inl e ↦ omega (arith, r.0, blocks_at-cons top b bs, only_at_same top b.height 1 e)
      | inr e ↦ omega (arith, r.0, blocks_at-cons top b bs, only_at_other top b.height 1 e)
    ]

filled_at : (top : ℕ) (bs : List Block) → IsTree top bs → FilledBut 0 bs → (h : ℕ) → h < top → blocks_at h bs ≤ used_at h bs
filled_at top bs t f h l = fewer_blocks h bs (λ x q e.
    let n : x ≢ 0 = λ z. omega (arith, ap (λ y. (block_in bs y).height) z, t.root_height) in
    f x (omega arith) q n)

level_bound : (top : ℕ) (bs : List Block) → IsTree top bs → FilledBut 0 bs → (h : ℕ) → h < top → blocks_at h bs ≤ used_at 0 bs
level_bound top bs t f zero l = filled_at top bs t f 0 l
level_bound top bs t f (suc h) l = omega (arith, filled_at top bs t f (suc h) l, t.counted h (omega arith), level_bound top bs t f h (omega arith))

below_bound : (top : ℕ) (bs : List Block) → IsTree top bs → FilledBut 0 bs → (h : ℕ) → h ≤ top → blocks_below h bs ≤ h * used_at 0 bs
unfolding blocks_below
below_bound top bs t f zero l = omega arith
below_bound top bs t f (suc h) l = omega (arith, below_bound top bs t f h (omega arith), level_bound top bs t f h (omega arith))

pub blocks_bound : (top : ℕ) (bs : List Block) → IsTree top bs → FilledBut 0 bs → length bs ≤ top * used_at 0 bs + 1
unfolding blocks_below
blocks_bound top bs t f =
    let a = all_below (suc top) bs (λ x l. elim (cases_eq x 0) [
      | inl z ↦ omega (arith, ap (λ y. (block_in bs y).height) z, t.root_height)
      | inr z ↦ omega (arith, t.below_top x (omega arith) l)
    ]) in
    omega (arith, a, below_bound top bs t f top (omega arith), one_root top bs t.below_top)
