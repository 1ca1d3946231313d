-- What the calls of an index keep true, from what they leave of the tree.
use Rattle.std.proofs.Common.{◌≡◌, ℕ, suc, ◌+◌, ◌-◌, ◌*◌, ◌/◌, ◌%◌, ◌^◌, ◌<◌, ◌≤◌, if◌then◌else◌, List, Option, Some, is_some, length, refl, ap, sym, subst, ◌∙◌, arith, inl, inr, mul-le-mul_right}
use Rattle.cc_vacb.specs.Block.{Block}
use Rattle.cc_vacb.specs.Slots.{view_of}
use Rattle.cc_vacb.specs.declared.slots.Slot.TheVariants.{Node}
use Rattle.cc_vacb.specs.Index.{block_in, slot_in, entry_in, entry_count_in, width_of, StartsBelow, digits_of, led_by}
use Rattle.cc_vacb.specs.Levels.{levels_of, IsLeastLevels}
use Rattle.cc_vacb.specs.Tree.{IsTree, IsIndex, PutsView, TakesView, ChangesTop, EntriesBelow}
use Rattle.cc_vacb.proofs.Put.{Some≢None}
use Rattle.cc_vacb.proofs.Count.{count_in-used}
use Rattle.cc_vacb.proofs.Bound.{blocks_bound}
use Rattle.cc_vacb.proofs.Digits.{led_to_entry}
use Rattle.cc_vacb.proofs.Sizes.{size_in, levels_range, number_covered, prefix_covered, root_slot, least_levels, width_large, width_small, width_bound, flat_size}
use Rattle.std.proofs.lemmas.Bool.{cases_lt, cases_eq}
use Rattle.std.specs.Prelude.{IsSome}

pub top_is : (size top : ℕ) → top + 1 ≡ levels_of size → top ≡ levels_of size - 1
top_is size top e = omega arith

pub tree_at : (size top : ℕ) (bs : List Block) → top + 1 ≡ levels_of size → IsIndex size bs → IsTree top bs
tree_at size top bs e x = subst (λ n. IsTree n bs) (sym (top_is size top e)) x.tree

pub covered_at : (size top b : ℕ) → size < 2 ^ 64 → top + 1 ≡ levels_of size → StartsBelow b size → b / 128 < 128 ^ top
covered_at size top b l e s =
    let c = number_covered size (levels_of size) b l (size_in size) s in
    let r = levels_range size (levels_of size) (size_in size) in
    subst (λ n. b / 128 < 128 ^ n) (sym (top_is size top e)) (prefix_covered (levels_of size) b r.0 c)

pub root_at : (size b : ℕ) (bs : List Block) → StartsBelow b size → IsIndex size bs → b % 128 < length (block_in bs 0).slots
root_at size b bs s x = omega (arith, root_slot size b s, x.width)

pub put_index : (size top b v : ℕ) (old new : List Block) → top + 1 ≡ levels_of size → IsIndex size old → length old + top < 2 ^ 32 → StartsBelow b size → PutsView top b v old new → IsIndex size new
put_index size top b v old new e x l s p = record {
  tree = subst (λ n. IsTree n new) (top_is size top e) p.tree;
  filled = p.filled;
  width = p.root ∙ x.width;
  numbers = omega (arith, p.len);
  fits = x.fits;
  starts = λ n w f. elim (cases_eq n b) [
    | inl q ↦ omega (arith, s)
    | inr q ↦ x.starts n w (ap (λ t. entry_in old t n) (sym (top_is size top e)) ∙ sym (p.others n q) ∙ ap (λ t. entry_in new t n) (top_is size top e) ∙ f)
  ];
}

pub take_index : (size top b : ℕ) (old new : List Block) → top + 1 ≡ levels_of size → IsIndex size old → TakesView top b old new → IsIndex size new
take_index size top b old new e x p = record {
  tree = subst (λ n. IsTree n new) (top_is size top e) p.tree;
  filled = p.filled;
  width = p.root ∙ x.width;
  numbers = omega (arith, p.len, x.numbers);
  fits = x.fits;
  starts = λ n w f. elim (cases_eq n b) [
    | inl q ↦ absurd (Some≢None w (sym f ∙ ap (λ t. entry_in new t n) (sym (top_is size top e)) ∙ ap (λ k. entry_in new top k) q ∙ p.here))
    | inr q ↦ x.starts n w (ap (λ t. entry_in old t n) (sym (top_is size top e)) ∙ sym (p.others n q) ∙ ap (λ t. entry_in new t n) (top_is size top e) ∙ f)
  ];
}

pub put_count : (size top b v : ℕ) (old new : List Block) → top + 1 ≡ levels_of size → PutsView top b v old new → entry_count_in new ≡ entry_count_in old + (if is_some (entry_in old (levels_of size - 1) b) then 0 else 1)
put_count size top b v old new e p =
    omega (arith, count_in-used new, count_in-used old, p.count, ap {B = ℕ} (λ n. if is_some (entry_in old n b) then 0 else 1) (top_is size top e))

pub take_count : (top b : ℕ) (old new : List Block) (o : Option ℕ) → o ≡ entry_in old top b → TakesView top b old new → entry_count_in new + (if is_some o then 1 else 0) ≡ entry_count_in old
take_count top b old new o e p =
    omega (arith, count_in-used new, count_in-used old, p.count, ap {B = ℕ} (λ q. if is_some q then 1 else 0) e)

pub index_bound : (size : ℕ) (bs : List Block) → IsIndex size bs → length bs ≤ levels_of size * entry_count_in bs + 1
index_bound size bs x =
    let b = blocks_bound (levels_of size - 1) bs x.tree x.filled in
    let m = mul-le-mul_right (entry_count_in bs) (fewer (levels_of size)) in
    omega (arith, b, m, ap (λ n. (levels_of size - 1) * n) (count_in-used bs))
  where
    fewer : (n : ℕ) → n - 1 ≤ n
    fewer n = omega arith

pub digits_at : (size top b : ℕ) (bs : List Block) (o : Option ℕ) → size < 2 ^ 64 → top + 1 ≡ levels_of size → StartsBelow b size → o ≡ entry_in bs top b → o ≡ view_of (led_by (λ node i. slot_in bs node i) (Node 0) (digits_of (levels_of size) b))
digits_at size top b bs o l e s q =
    let d = led_to_entry bs top b (covered_at size top b l e s) in
    let n : suc top ≡ levels_of size = omega arith in
    q ∙ sym d ∙ ap (λ m. view_of (led_by (λ node i. slot_in bs node i) (Node 0) (digits_of m b))) n

-- the number of levels, as it is counted
pub levels_least : (size n : ℕ) → size < 2 ^ 64 → n ≡ levels_of size → IsLeastLevels size n
levels_least size n l e = subst (IsLeastLevels size) (sym e) (least_levels size (levels_of size) l (size_in size))

pub some_entry : (o : Option ℕ) (v : ℕ) → o ≡ Some v → IsSome o
some_entry o v e = subst (λ (p : Option ℕ). IsSome p) (sym e) refl

-- the entries stay below the new size, where it is the smaller one because that is asked
abbrev pub Stays : ℕ → ℕ → List Block → Type 0
Stays size new bs = new < size → (n : ℕ) → IsSome (entry_in bs (levels_of size - 1) n) → StartsBelow n new

stays : (size new : ℕ) (bs : List Block) → IsIndex size bs → Stays size new bs → (n v : ℕ) → entry_in bs (levels_of size - 1) n ≡ Some v → StartsBelow n new
stays size new bs x s n v e =
    elim (cases_lt new size) [
      | inl l ↦ s l n (some_entry _ v e)
      | inr l ↦ omega (arith, x.starts n v e)
    ]

pub small_at : (size top new to : ℕ) (bs : List Block) → top + 1 ≡ levels_of size → to + 1 ≡ levels_of new → IsIndex size bs → new < 2 ^ 64 → Stays size new bs → EntriesBelow top bs (128 ^ (to + 1))
small_at size top new to bs e f x l s = λ n v g.
    let h = stays size new bs x s n v (ap (λ t. entry_in bs t n) (sym (top_is size top e)) ∙ g) in
    subst (λ m. n < 128 ^ m) (sym f) (number_covered new (levels_of new) n l (size_in new) h)

pub small_flat : (size top new w : ℕ) (bs : List Block) → top + 1 ≡ levels_of size → w ≡ width_of new → w < 128 → IsIndex size bs → Stays size new bs → EntriesBelow top bs w
small_flat size top new w bs e f l x s = λ n v g.
    let h = stays size new bs x s n v (ap (λ t. entry_in bs t n) (sym (top_is size top e)) ∙ g) in
    elim (cases_lt 1048576 new) [
      | inl k ↦ absurd (omega (arith, width_large new k))
      | inr k ↦ omega (arith, width_small new k, h)
    ]

pub flat_top : (new to w : ℕ) → to + 1 ≡ levels_of new → w ≡ width_of new → w < 128 → (to ≡ 0) × (w ≡ 4)
flat_top new to w e f l =
    elim (cases_lt 1048576 new) [
      | inl k ↦ absurd (omega (arith, width_large new k))
      | inr k ↦ (omega (arith, flat_size new (levels_of new) (size_in new) k), omega (arith, width_small new k))
    ]

pub width_least : (size w : ℕ) (bs : List Block) → IsIndex size bs → w ≡ 4 → w ≤ length (block_in bs 0).slots
width_least size w bs x e = omega (arith, x.width, (width_bound size).0)

pub resized_entry : (size top new to : ℕ) (bs cs : List Block) → ChangesTop top to bs cs → top + 1 ≡ levels_of size → to + 1 ≡ levels_of new → (n : ℕ) → entry_in cs (levels_of new - 1) n ≡ entry_in bs (levels_of size - 1) n
resized_entry size top new to bs cs c e f n =
    ap (λ t. entry_in cs t n) (sym (top_is new to f)) ∙ c.entries n ∙ ap (λ t. entry_in bs t n) (top_is size top e)

pub resized : (size top new to : ℕ) (bs cs : List Block) → IsIndex size bs → top + 1 ≡ levels_of size → Stays size new bs → ChangesTop top to bs cs → to + 1 ≡ levels_of new → new < 2 ^ 64 → length cs < 2 ^ 32 → length (block_in cs 0).slots ≡ width_of new → IsIndex new cs
resized size top new to bs cs x f s c e l n w = record {
  tree = subst (λ t. IsTree t cs) (top_is new to e) c.tree;
  filled = c.filled;
  width = w;
  numbers = n;
  fits = l;
  starts = λ k v g. stays size new bs x s k v (sym (resized_entry size top new to bs cs c f e k) ∙ g);
}

pub resized_count : (top to : ℕ) (bs cs : List Block) → ChangesTop top to bs cs → entry_count_in cs ≡ entry_count_in bs
resized_count top to bs cs c = omega (arith, c.count, count_in-used bs, count_in-used cs)

-- a size that is no greater has no more levels
pub no_higher : (new size to top : ℕ) → new ≤ size → size < 2 ^ 64 → to + 1 ≡ levels_of new → top + 1 ≡ levels_of size → to ≤ top
no_higher new size to top h l e f =
    let least = least_levels new (levels_of new) (omega arith) (size_in new) in
    let most = least_levels size (levels_of size) l (size_in size) in
    omega (arith, least.least (levels_of size) most.some (omega (arith, h, most.covers)))

-- the width after the levels were lowered for a size that is no greater
pub lowered_width : (size top new to w : ℕ) (bs cs : List Block) → IsIndex size bs → ChangesTop top to bs cs → new ≤ size → w ≡ width_of new → 128 ≤ w → length (block_in bs 0).slots ≤ length (block_in cs 0).slots → length (block_in cs 0).slots ≡ width_of new
lowered_width size top new to w bs cs x c l f g h =
    elim (cases_lt 1048576 new) [
      | inl k ↦ omega (arith, x.width, width_large size (omega (arith, k, l)), c.tree.root_wide, h, (width_bound new).1)
      | inr k ↦ absurd (omega (arith, width_small new k))
    ]

pub wide_width : (new w n : ℕ) → w ≡ width_of new → 128 ≤ w → n ≡ 128 → n ≡ width_of new
wide_width new w n e l f = omega (arith, (width_bound new).1)
