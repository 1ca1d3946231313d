-- The root is taken away, and the one block below it becomes the root.
use Rattle.std.proofs.Common.{◌≡◌, ◌≢◌, ℕ, suc, zero, ◌+◌, ◌-◌, ◌*◌, ◌/◌, ◌%◌, ◌^◌, ◌<◌, ◌≤◌, ◌==◌, eqb, if◌then◌else◌, List, [], ◌∷◌, Some, None, length, get_or, set, count_by, refl, ap, sym, subst, ◌∙◌, arith, inl, inr}
use Rattle.std.proofs.lemmas.Bool.{cases_eq, cond-true, cond-false, ne_eqb, eq-eqb}
use Rattle.std.proofs.lemmas.List.{length-set, length-take, get_or-set_same, get_or-set_other, get_or_read}
use Rattle.std.proofs.lemmas.List.Sums.{sum_by-cons}
use Rattle.std.proofs.lemmas.Nat.{div_below}
use Rattle.std.proofs.Math.Nat.{div-div-eq-div-mul, one-le-pow}
use native.Mathlib.Numerals.{unary_clauses}
use Rattle.std.specs.List.{swap_remove}
use Rattle.cc_vacb.specs.declared.slots.Slot.{Slot}
use Rattle.cc_vacb.specs.declared.slots.Slot.TheVariants.{Empty, Node, View}
use Rattle.cc_vacb.specs.Slots.{is_used, weight_of, child_of}
use Rattle.cc_vacb.specs.Block.{Block, no_block, used_slots}
use Rattle.cc_vacb.specs.Index.{block_in, slot_in, entry_in}
use Rattle.cc_vacb.specs.Tree.{SamePlace, IsTree, FilledBut, used_at, blocks_at, was_at, now_at, ChangesTop, Relinked, EntriesBelow}
use Rattle.cc_vacb.proofs.Put.{node_in_range, Node≢Empty, Node≢View, View≢Empty, Some≢None}
use Rattle.cc_vacb.proofs.Count.{only_at, only_at_is, only_at_other}
use Rattle.cc_vacb.proofs.Path.{slot_is}
use Rattle.cc_vacb.proofs.Removed.{was, was_same, was_other, now, now_same, now_other, block-swap_remove, blocks_removed, used_removed}
use Rattle.cc_vacb.proofs.Raise.{blocks_at-set, used_at-set}
use Rattle.cc_vacb.proofs.Walk.{holder, entry_held, same_options, digit_in, child_is}

-- a block with a used slot
pub some_used : (xs : List Slot) → 0 < count_by is_used xs → (k : ℕ) × (get_or xs k Empty ≢ Empty)
some_used [] g = absurd (omega arith)
some_used (Empty ∷ xs) g =
    let e : count_by is_used (Empty ∷ xs) ≡ 0 + count_by is_used xs = sum_by-cons weight_of Empty xs in
    let r = some_used xs (omega (arith, e, g)) in
    (suc r.0, r.1)
some_used (Node n ∷ xs) g = (0, Node≢Empty n)
some_used (View v ∷ xs) g = (0, View≢Empty v)

-- below each block that is not the root there is an entry
pub entry_below : (top : ℕ) (bs : List Block) → IsTree top bs → FilledBut 0 bs → (h x : ℕ) → (block_in bs x).height ≡ h → 0 < x → x < length bs → (n : ℕ) × (v : ℕ) × (entry_in bs top n ≡ Some v) × (n / 128 ^ (suc h) ≡ (block_in bs x).prefix)
entry_below top bs t f zero x e g l =
    let u = some_used (block_in bs x).slots (f x g l (λ z. omega arith)) in
    let k = u.0 in
    elim (slot_is (slot_in bs x k)) [
      | inl q ↦ absurd (u.1 q)
      | inr r ↦ elim r [
        | inl q ↦ absurd (omega (arith, (t.leads x k q.0 q.1).height, e))
        | inr q ↦
            let d = digit_in top bs t x k _ q.1 (View≢Empty q.0) in
            let n = 128 * (block_in bs x).prefix + k in
            let m : n % 128 ≡ k = omega arith in
            let p : n / 128 ≡ (block_in bs x).prefix = omega arith in
            (n, q.0, entry_held top bs t n q.0 x (record { inside = l; height = e; prefix = sym p; slot = ap (λ y. slot_in bs x y) m ∙ q.1 }), p)
      ]
    ]
entry_below top bs t f (suc h) x e g l =
    let u = some_used (block_in bs x).slots (f x g l (λ z. omega arith)) in
    let k = u.0 in
    elim (slot_is (slot_in bs x k)) [
      | inl q ↦ absurd (u.1 q)
      | inr r ↦ elim r [
        | inl q ↦
            let o = t.leads x k q.0 q.1 in
            let d = digit_in top bs t x k _ q.1 (Node≢Empty q.0) in
            let b = entry_below top bs t f h q.0 (omega (arith, o.height, e)) o.not_root o.below in
            let p : b.0 / 128 ^ suc (suc h) ≡ b.0 / 128 ^ (suc h) / 128 = above b.0 (suc h) in
            (b.0, b.1, b.2, p ∙ omega (arith, b.3, o.prefix))
        | inr q ↦ absurd (omega (arith, t.views x k q.0 q.1, e))
      ]
    ]
  where
    above : (n h : ℕ) → n / 128 ^ suc h ≡ n / 128 ^ h / 128
    above n h = simp unary_clauses (sym (div-div-eq-div-mul n (128 ^ h) 128))

-- where every entry fits below the root, the root uses no slot but its first
pub root_lone : (t : ℕ) (bs : List Block) → IsTree (suc t) bs → FilledBut 0 bs → EntriesBelow (suc t) bs (128 ^ (suc t)) → (k : ℕ) → k ≢ 0 → slot_in bs 0 k ≡ Empty
root_lone t bs u f s k n =
    elim (slot_is (slot_in bs 0 k)) [
      | inl q ↦ q
      | inr r ↦ elim r [
        | inl q ↦
            let o = u.leads 0 k q.0 q.1 in
            let b = entry_below (suc t) bs u f t q.0 (omega (arith, o.height, u.root_height)) o.not_root o.below in
            let c = s b.0 b.1 b.2 in
            let z : b.0 / 128 ^ (suc t) < 1 = div_below b.0 (128 ^ (suc t)) 1 (pow_some (suc t)) (omega (arith, c)) in
            absurd (omega (arith, z, b.3, o.prefix, u.root_prefix))
        | inr q ↦ absurd (omega (arith, u.views 0 k q.0 q.1, u.root_height))
      ]
    ]
  where
    pow_some : (n : ℕ) → 0 < 128 ^ n
    pow_some n = one-le-pow n 128 (omega arith)

-- what stood where, once the root is gone: the block below it is the root now
from : ℕ → ℕ → ℕ → ℕ
from c m x = if x == 0 then c else was_at c m x

from_root : (c m x : ℕ) → x ≡ 0 → from c m x ≡ c
unfolding from
from_root c m x e = cond-true (eqb x 0) c (was_at c m x) (eq-eqb x 0 e)

from_inner : (c m x : ℕ) → x ≢ 0 → from c m x ≡ was_at c m x
unfolding from
from_inner c m x e = cond-false (eqb x 0) c (was_at c m x) (ne_eqb x 0 e)

from_in : (c m x : ℕ) → 0 < c → c ≤ m → x < m → (0 < from c m x) × (from c m x < m + 1)
from_in c m x g l q =
    elim (cases_eq x 0) [
      | inl e ↦ (omega (arith, from_root c m x e), omega (arith, from_root c m x e))
      | inr e ↦
          let w = was c m x g l q in
          let i : 0 < was_at c m x = w.inner (omega arith) in
          (omega (arith, from_inner c m x e), omega (arith, from_inner c m x e, w.below))
    ]

-- a block that is not the root has a place again
to_place : (c m w : ℕ) → 0 < c → c ≤ m → 0 < w → w < m + 1 → (x : ℕ) × (x < m) × (from c m x ≡ w)
to_place c m w g l some q =
    elim (cases_eq w c) [
      | inl e ↦ (0, omega arith, from_root c m 0 refl ∙ sym e)
      | inr e ↦
          let n = now c m w g l q e in
          let inner : now_at c m w ≢ 0 = λ z. elim (cases_eq w m) [
            | inl k ↦ omega (arith, now_same c m w k)
            | inr k ↦ omega (arith, now_other c m w k)
          ] in
          (now_at c m w, n.below, from_inner c m (now_at c m w) inner ∙ n.back)
    ]

record Lowered (t c m i : ℕ) (bs ls new : List Block) : Type 0 where
  old_len : length bs ≡ m + 1
  len : length new ≡ m
  child_in : c ≤ m
  child : slot_in bs 0 0 ≡ Node c
  lone : (k : ℕ) → k ≢ 0 → slot_in bs 0 k ≡ Empty
  links : Relinked c m i bs ls
  same : (x : ℕ) → x < m → block_in new x ≡ block_in ls (from c m x)
  blocks_sum : (h : ℕ) → blocks_at h new + only_at h (block_in ls 0).height 1 ≡ blocks_at h ls
  used_sum : (h : ℕ) → used_at h new + only_at h (block_in ls 0).height (used_slots (block_in ls 0)) ≡ used_at h ls

lowered_same : (c : ℕ) (ls : List Block) (d b : Block) → 0 < c → c < length ls → b ≡ block_in ls c → (x : ℕ) → x + 1 < length ls → block_in (set (swap_remove ls c d) 0 b) x ≡ block_in ls (from c (length ls - 1) x)
lowered_same c ls d b g l e x q =
    let m = length ls - 1 in
    let mid = swap_remove ls c d in
    let ml : length mid ≡ m = length-take m (set ls c (get_or ls m d)) ∙ omega (arith, length-set ls c (get_or ls m d)) in
    elim (cases_eq x 0) [
      | inl z ↦
          ap (λ y. block_in (set mid 0 b) y) z
          ∙ get_or-set_same mid 0 b no_block (omega arith)
          ∙ e
          ∙ ap (λ y. block_in ls y) (sym (from_root c m x z))
      | inr z ↦
          get_or-set_other mid 0 x b no_block z
          ∙ block-swap_remove ls c x d l q
          ∙ ap (λ y. block_in ls y) (sym (from_inner c m x z))
    ]

lowered : (t c i : ℕ) (bs ls : List Block) (d b : Block) → IsTree (suc t) bs → slot_in bs 0 0 ≡ Node c → ((k : ℕ) → k ≢ 0 → slot_in bs 0 k ≡ Empty) → Relinked c (length bs - 1) i bs ls → b ≡ block_in ls c → Lowered t c (length bs - 1) i bs ls (set (swap_remove ls c d) 0 b)
lowered t c i bs ls d b u e lone r be =
    let o = u.leads 0 0 c e in
    let m = length bs - 1 in
    let len : length ls ≡ length bs = r.len in
    let lm : length ls - 1 ≡ m = omega (arith, len) in
    let hc : c < length ls = omega (arith, len, o.below) in
    let mid = swap_remove ls c d in
    let ml : length mid ≡ m = length-take (length ls - 1) (set ls c (get_or ls (length ls - 1) d)) ∙ omega (arith, length-set ls c (get_or ls (length ls - 1) d), len) in
    let some : 0 < length mid = omega (arith, ml, o.below, o.not_root) in
    let head : block_in mid 0 ≡ block_in ls 0 = block-swap_remove ls c 0 d hc (omega (arith, len, o.below, o.not_root)) ∙ ap (λ y. block_in ls y) (was_other c (length ls - 1) 0 (λ z. omega (arith, o.not_root))) in
    record {
      old_len = omega (arith, o.below);
      len = length-set mid 0 b ∙ ml;
      child_in = omega (arith, o.below);
      child = e;
      lone = lone;
      links = r;
      same = λ x q. lowered_same c ls d b o.not_root hc be x (omega (arith, len)) ∙ ap (λ y. block_in ls (from c y x)) lm;
      blocks_sum = λ h. omega (arith, blocks_at-set h mid 0 b some, blocks_removed h ls c d hc, ap (λ (z : Block). only_at h z.height 1) be, ap (λ (z : Block). only_at h z.height 1) head);
      used_sum = λ h. omega (arith, used_at-set h mid 0 b some, used_removed h ls c d hc, ap (λ (z : Block). only_at h z.height (used_slots z)) be, ap (λ (z : Block). only_at h z.height (used_slots z)) head);
    }

-- the slot by which a block other than the new root is led to is no slot of the old root
inner_parent : (t c m i : ℕ) (bs ls new : List Block) → IsTree (suc t) bs → Lowered t c m i bs ls new → (w o k : ℕ) → w ≢ c → slot_in bs o k ≡ Node w → 0 < o
inner_parent t c m i bs ls new u r w o k n e =
    elim (cases_eq o 0) [
      | inl z ↦
          let e0 : slot_in bs 0 k ≡ Node w = ap (λ y. slot_in bs y k) (sym z) ∙ e in
          elim (cases_eq k 0) [
            | inl q ↦
                let f : Node w ≡ Node c = sym e0 ∙ ap (λ y. slot_in bs 0 y) q ∙ r.child in
                let g : w ≡ c = cc in
                absurd (n g)
            | inr q ↦ absurd (Node≢Empty w (sym e0 ∙ r.lone k q))
          ]
      | inr z ↦ omega arith
    ]

lowered_tree : (t c m i : ℕ) (bs ls new : List Block) → IsTree (suc t) bs → Lowered t c m i bs ls new → IsTree t new
lowered_tree t c m i bs ls new u r =
    let lc = u.leads 0 0 c r.child in
    let g : 0 < c = lc.not_root in
    let l : c ≤ m = r.child_in in
    let m_in : 0 < m = omega arith in
    let slot : (x j : ℕ) → x < m → slot_in new x j ≡ slot_in ls (from c m x) j = λ x j q. ap (λ (z : Block). get_or z.slots j Empty) (r.same x q) in
    let place : (x : ℕ) → x < m → SamePlace (block_in bs (from c m x)) (block_in new x) = λ x q.
    subst (λ (z : Block). SamePlace (block_in bs (from c m x)) z) (sym (r.same x q)) (r.links.place (from c m x)) in
    let zero : from c m 0 ≡ c = from_root c m 0 refl in
    let root = place 0 m_in in
    let at_root = ap (λ y. (block_in bs y).height) zero in
    let prefix_root = ap (λ y. (block_in bs y).prefix) zero in
    let below : (x j : ℕ) (s : Slot) → slot_in new x j ≡ s → s ≢ Empty → x < m = λ x j s e n. omega (arith, node_in_range new x j s e n, r.len) in
    let inner : (x : ℕ) → 0 < x → x < m → (from c m x ≢ c) × (from c m x ≡ was_at c m x) = λ x h q.
    let e = from_inner c m x (λ z. omega arith) in
    (λ z. (was c m x g l q).kept (sym e ∙ z), e) in
    record {
      some = omega (arith, r.len);
      root_height = omega (arith, root.height, at_root, lc.height, u.root_height);
      root_prefix = omega (arith, root.prefix, prefix_root, lc.prefix, u.root_prefix);
      below_top = λ x h k.
          let q : x < m = omega (arith, r.len) in
          let f = from_in c m x g l q in
          let o = u.has_parent (from c m x) f.0 (omega (arith, r.old_len, f.1)) in
          let p = inner_parent t c m i bs ls new u r (from c m x) o.0 _ (inner x h q).0 o.1 in
          let d = u.leads o.0 _ _ o.1 in
          omega (arith, (place x q).height, d.height, u.below_top o.0 p (node_in_range bs o.0 _ _ o.1 (Node≢Empty (from c m x))));
      leads = λ x j y e.
          let q = below x j (Node y) e (Node≢Empty y) in
          let w = from c m x in
          elim (r.links.back w j (Node y) (sym (slot x j q) ∙ e) (Node≢Empty y)) [
            | inl b ↦
                let yc : y ≡ c = cc in
                let d = u.leads w j m b.2 in
                let cm : c < m = omega (arith, l, b.0) in
                let cw : from c m c ≡ m = from_inner c m c (λ z. omega arith) ∙ was_same c m c refl in
                let p = place c cm in
                record {
                  below = omega (arith, r.len);
                  not_root = omega (arith, g);
                  height = omega (arith, ap (λ z. (block_in new z).height) yc, p.height, ap (λ z. (block_in bs z).height) cw, d.height, (place x q).height);
                  prefix = omega (arith, ap (λ z. (block_in new z).prefix) yc, p.prefix, ap (λ z. (block_in bs z).prefix) cw, d.prefix, (place x q).prefix);
                }
            | inr b ↦
                let d = u.leads w j y b.0 in
                let a = b.1 y refl in
                let ym : y < m = omega (arith, d.below, r.old_len, a.1) in
                let yw : from c m y ≡ y = from_inner c m y (λ z. omega (arith, d.not_root)) ∙ was_other c m y a.0 in
                let p = place y ym in
                record {
                  below = omega (arith, r.len);
                  not_root = d.not_root;
                  height = omega (arith, p.height, ap (λ z. (block_in bs z).height) yw, d.height, (place x q).height);
                  prefix = omega (arith, p.prefix, ap (λ z. (block_in bs z).prefix) yw, d.prefix, (place x q).prefix);
                }
          ];
      has_parent = λ y h k.
          let q : y < m = omega (arith, r.len) in
          let f = from_in c m y g l q in
          let n = inner y h q in
          let o = u.has_parent (from c m y) f.0 (omega (arith, r.old_len, f.1)) in
          let p = inner_parent t c m i bs ls new u r (from c m y) o.0 _ n.0 o.1 in
          let a = to_place c m o.0 g l p (omega (arith, node_in_range bs o.0 _ _ o.1 (Node≢Empty (from c m y)), r.old_len)) in
          let digit : (block_in new y).prefix % 128 ≡ (block_in bs (from c m y)).prefix % 128 = ap (λ z. z % 128) (place y q).prefix in
          let j = (block_in new y).prefix % 128 in
          let stood : slot_in bs o.0 j ≡ Node (from c m y) = ap (λ z. slot_in bs o.0 z) digit ∙ o.1 in
          let now_slot : slot_in new a.0 j ≡ slot_in ls o.0 j = slot a.0 j a.1 ∙ ap (λ z. slot_in ls z j) a.2 in (
            a.0,
            elim (cases_eq y c) [
              | inl e ↦
                  let last : from c m y ≡ m = n.1 ∙ was_same c m y e in
                  now_slot ∙ r.links.forth_last o.0 j (λ z. omega arith) (stood ∙ ap Node last) ∙ ap Node (sym e)
              | inr e ↦
                  let other : from c m y ≡ y = n.1 ∙ was_other c m y e in
                  now_slot ∙ r.links.forth o.0 j (Node y) (stood ∙ ap Node other) (λ z d. (let zy : y ≡ z = cc in λ w. e (zy ∙ w), let zy : y ≡ z = cc in λ w. omega arith))
            ],
          );
      views = λ x j v e.
          let q = below x j (View v) e (View≢Empty v) in
          elim (r.links.back (from c m x) j (View v) (sym (slot x j q) ∙ e) (View≢Empty v)) [
            | inl b ↦ absurd (Node≢View c v (sym b.1))
            | inr b ↦ (place x q).height ∙ u.views (from c m x) j v b.0
          ];
      wide = λ x h k.
          let q : x < m = omega (arith, r.len) in
          let f = from_in c m x g l q in
          (place x q).width ∙ u.wide (from c m x) f.0 (omega (arith, r.old_len, f.1));
      root_wide = omega (arith, root.width, ap (λ y. length (block_in bs y).slots) zero, u.wide c g lc.below);
      deep = λ _. root.width ∙ ap (λ y. length (block_in bs y).slots) zero ∙ u.wide c g lc.below;
      counted = λ h k.
          let rh : (block_in ls 0).height ≡ suc t = (r.links.place 0).height ∙ u.root_height in
          let ph : (block_in bs i).height ≡ suc t = omega (arith, r.links.parent_height, lc.height, u.root_height) in
          let n0 : (block_in ls 0).height ≢ h = λ e. omega (arith, rh) in
          let n1 : (block_in ls 0).height ≢ suc h = λ e. omega (arith, rh) in
          let n2 : (block_in bs i).height ≢ suc h = λ e. omega (arith, ph) in
          omega (
            arith,
            r.blocks_sum h,
            r.used_sum (suc h),
            r.links.blocks_sum h,
            r.links.used_sum (suc h),
            only_at_is (suc h) (block_in bs i).height,
            only_at_other h (block_in ls 0).height 1 n0,
            only_at_other (suc h) (block_in ls 0).height (used_slots (block_in ls 0)) n1,
            only_at_other (suc h) (block_in bs i).height 1 n2,
            u.counted h (omega arith),
          );
    }

pub one_down : (t c i : ℕ) (bs ls : List Block) (d b : Block) → IsTree (suc t) bs → FilledBut 0 bs → slot_in bs 0 0 ≡ Node c → ((k : ℕ) → k ≢ 0 → slot_in bs 0 k ≡ Empty) → Relinked c (length bs - 1) i bs ls → b ≡ block_in ls c → ChangesTop (suc t) t bs (set (swap_remove ls c d) 0 b)
one_down t c i bs ls d b u f e lone links be =
    let r = lowered t c i bs ls d b u e lone links be in
    let m = length bs - 1 in
    let new = set (swap_remove ls c d) 0 b in
    let v = lowered_tree t c m i bs ls new u r in
    let lc = u.leads 0 0 c e in
    let g : 0 < c = lc.not_root in
    let l : c ≤ m = r.child_in in
    let m_in : 0 < m = omega arith in
    let slot : (x j : ℕ) → x < m → slot_in new x j ≡ slot_in ls (from c m x) j = λ x j q. ap (λ (z : Block). get_or z.slots j Empty) (r.same x q) in
    let place : (x : ℕ) → x < m → SamePlace (block_in bs (from c m x)) (block_in new x) = λ x q.
    subst (λ (z : Block). SamePlace (block_in bs (from c m x)) z) (sym (r.same x q)) (links.place (from c m x)) in
    let top_parent : (x : ℕ) → 0 < x → x < length bs → x ≢ i = λ x h q z.
    omega (arith, u.below_top x h q, ap (λ y. (block_in bs y).height) z, links.parent_height, lc.height, u.root_height) in
    let used : (x : ℕ) → x < m → 0 < used_slots (block_in new x) = λ x q.
    let w = from_in c m x g l q in
    let n : from c m x < length bs = omega (arith, r.old_len, w.1) in
    omega (arith, ap used_slots (r.same x q), links.used (from c m x) (top_parent _ w.0 n), f (from c m x) w.0 n (λ z. omega (arith, w.0))) in
    let rh : (block_in ls 0).height ≢ 0 = λ z. omega (arith, (links.place 0).height, u.root_height) in
    let ph : (block_in bs i).height ≢ 0 = λ z. omega (arith, links.parent_height) in
    record {
      tree = v;
      filled = λ x h q _. used x (omega (arith, r.len));
      entries = λ n. same_options _ _
          (λ w k.
          let h = holder t new v n w k in
          let q : h.0 < m = omega (arith, h.1.inside, r.len) in
          let p = place h.0 q in
          elim (links.back (from c m h.0) (n % 128) (View w) (sym (slot h.0 (n % 128) q) ∙ h.1.slot) (View≢Empty w)) [
            | inl a ↦ absurd (Node≢View c w (sym a.1))
            | inr a ↦ entry_held (suc t) bs u n w (from c m h.0) (record {
              inside = omega (arith, r.old_len, (from_in c m h.0 g l q).1);
              height = sym p.height ∙ h.1.height;
              prefix = sym p.prefix ∙ h.1.prefix;
              slot = a.0;
            })
          ])
          (λ w k.
          let h = holder (suc t) bs u n w k in
          let inner : 0 < h.0 = elim (cases_eq h.0 0) [
            | inl z ↦ absurd (omega (arith, h.1.height, ap (λ y. (block_in bs y).height) z, u.root_height))
            | inr z ↦ omega arith
          ] in
          let a = to_place c m h.0 g l inner (omega (arith, h.1.inside, r.old_len)) in
          let p = place a.0 a.1 in
          entry_held t new v n w a.0 (record {
            inside = omega (arith, a.1, r.len);
            height = p.height ∙ ap (λ y. (block_in bs y).height) a.2 ∙ h.1.height;
            prefix = p.prefix ∙ ap (λ y. (block_in bs y).prefix) a.2 ∙ h.1.prefix;
            slot = slot a.0 (n % 128) a.1 ∙ ap (λ y. slot_in ls y (n % 128)) a.2 ∙ links.forth h.0 (n % 128) (View w) h.1.slot (λ y z. absurd (Node≢View y w (sym z)));
          }));
      count = omega (arith, r.used_sum 0, links.used_sum 0, only_at_is 0 (block_in bs i).height, only_at_other 0 (block_in ls 0).height (used_slots (block_in ls 0)) rh, only_at_other 0 (block_in bs i).height 1 ph);
      len = omega (arith, r.len, r.old_len);
      used = λ _. used 0 m_in;
    }

-- with no entry past the levels that stay, and nothing in its first slot, the root is empty
pub root_unused : (t : ℕ) (bs : List Block) → IsTree (suc t) bs → FilledBut 0 bs → EntriesBelow (suc t) bs (128 ^ (suc t)) → child_of (slot_in bs 0 0) ≡ None → used_slots (block_in bs 0) ≡ 0
root_unused t bs u f s e =
    elim (cases_eq (used_slots (block_in bs 0)) 0) [
      | inl z ↦ z
      | inr z ↦
          let o = some_used (block_in bs 0).slots (omega arith) in
          elim (cases_eq o.0 0) [
            | inl q ↦ elim (slot_is (slot_in bs 0 0)) [
              | inl r ↦ absurd (o.1 (ap (λ y. slot_in bs 0 y) q ∙ r))
              | inr r ↦ elim r [
                | inl r ↦ absurd (Some≢None r.0 (sym (ap child_of r.1) ∙ e))
                | inr r ↦ absurd (omega (arith, u.views 0 0 r.0 r.1, u.root_height))
              ]
            ]
            | inr q ↦ absurd (o.1 (root_lone t bs u f s o.0 q))
          ]
    ]

pub first_child : (bs ds : List Block) (s : Slot) (y : ℕ) → ds ≡ bs → s ≡ slot_in ds 0 0 → Some y ≡ child_of s → slot_in bs 0 0 ≡ Node y
first_child bs ds s y e f g = ap (λ (c : List Block). slot_in c 0 0) (sym e) ∙ sym f ∙ child_is s y (sym g)

pub no_child_first : (bs ds : List Block) (s : Slot) → ds ≡ bs → s ≡ slot_in ds 0 0 → None ≡ child_of s → child_of (slot_in bs 0 0) ≡ None
no_child_first bs ds s e f g = ap child_of (ap (λ (c : List Block). slot_in c 0 0) (sym e) ∙ sym f) ∙ sym g

-- the root's only child is the root, and has no fewer slots
pub lower_step : (top c i : ℕ) (bs ls mid : List Block) (b : Block) → 0 < top → IsTree top bs → FilledBut 0 bs → EntriesBelow top bs (128 ^ top) → slot_in bs 0 0 ≡ Node c → Relinked c (length bs - 1) i bs ls → b ≡ get_or ls c b → mid ≡ swap_remove ls c b → ChangesTop top (top - 1) bs (set mid 0 b) × (length (block_in bs 0).slots ≤ length (block_in (set mid 0 b) 0).slots)
lower_step zero c i bs ls mid b g u f s e r be me = absurd (omega arith)
lower_step (suc t) c i bs ls mid b g u f s e r be me =
    let l = u.leads 0 0 c e in
    let hc : c < length ls = omega (arith, r.len, l.below) in
    let q : b ≡ block_in ls c = get_or_read ls c b hc be no_block in
    let d : ChangesTop (suc t) t bs (set mid 0 b) = subst (λ (x : List Block). ChangesTop (suc t) t bs (set x 0 b)) (sym me) (one_down t c i bs ls b b u f e (root_lone t bs u f s) r q) in
    let p : t ≡ suc t - 1 = omega arith in
    let some : 0 < length mid = omega (arith, d.tree.some, length-set mid 0 b) in (
      subst (λ h. ChangesTop (suc t) h bs (set mid 0 b)) p d,
      omega (arith, u.root_wide, ap (λ (x : Block). length x.slots) (get_or-set_same mid 0 b no_block some), ap (λ (x : Block). length x.slots) q, (r.place c).width, u.wide c l.not_root l.below),
    )

pub root_unused_at : (top : ℕ) (bs : List Block) → 0 < top → IsTree top bs → FilledBut 0 bs → EntriesBelow top bs (128 ^ top) → child_of (slot_in bs 0 0) ≡ None → used_slots (block_in bs 0) ≡ 0
root_unused_at zero bs g u f s e = absurd (omega arith)
root_unused_at (suc t) bs g u f s e = root_unused t bs u f s e
