-- A block that leads nowhere is removed, and the last one takes its place.
use Rattle.std.proofs.Common.{◌≡◌, ◌≢◌, ℕ, suc, ◌+◌, ◌-◌, ◌%◌, ◌<◌, ◌≤◌, ◌==◌, eqb, if◌then◌else◌, List, length, get_or, set, take, refl, ap, sym, subst, ◌∙◌, arith, inl, inr}
use Rattle.std.proofs.lemmas.Bool.{cases_eq, cond-true, cond-false, ne_eqb, eq-eqb}
use Rattle.std.proofs.lemmas.List.{get_or-take, get_or-set_same, get_or-set_other, get_or_default, length-take, length-set}
use Rattle.std.proofs.lemmas.List.Sums.{sum_by-swap_remove}
use Rattle.std.specs.List.{swap_remove}
use Rattle.std.specs.Prelude.{◌⊎◌}
use Rattle.cc_vacb.specs.declared.slots.Slot.{Slot}
use Rattle.cc_vacb.specs.declared.slots.Slot.TheVariants.{Empty, Node, View}
use Rattle.cc_vacb.specs.Slots.{weight_of}
use Rattle.cc_vacb.specs.Block.{Block, no_block, used_slots}
use Rattle.cc_vacb.specs.Index.{block_in, slot_in}
use Rattle.cc_vacb.specs.Tree.{SamePlace, IsTree, FilledBut, used_at, blocks_at, Relinked, LeadsElsewhere, was_at, now_at, TreeKept}
use Rattle.cc_vacb.proofs.Put.{node_in_range, Node≢Empty, View≢Empty, Node≢View, slot_in_width}
use Rattle.cc_vacb.proofs.Count.{only_at, only_at_is, only_at_none, only_at_same, only_at_other, used_by}
use Rattle.cc_vacb.proofs.Path.{slot_is}
use Rattle.cc_vacb.proofs.Walk.{Holds, holder, entry_held, same_options}

pub was_same : (z m x : ℕ) → x ≡ z → was_at z m x ≡ m
unfolding was_at
was_same z m x e = cond-true (eqb x z) m x (eq-eqb x z e)

pub was_other : (z m x : ℕ) → x ≢ z → was_at z m x ≡ x
unfolding was_at
was_other z m x n = cond-false (eqb x z) m x (ne_eqb x z n)

pub now_same : (z m x : ℕ) → x ≡ m → now_at z m x ≡ z
unfolding now_at
now_same z m x e = cond-true (eqb x m) z x (eq-eqb x m e)

pub now_other : (z m x : ℕ) → x ≢ m → now_at z m x ≡ x
unfolding now_at
now_other z m x n = cond-false (eqb x m) z x (ne_eqb x m n)

-- a place below the last, and the block that stood elsewhere before
pub record Was (z m x w : ℕ) : Type 0 where
  pub below : w < m + 1
  pub kept : w ≢ z
  pub root : x ≡ 0 → w ≡ 0
  pub inner : 0 < x → 0 < w

pub was : (z m x : ℕ) → 0 < z → z ≤ m → x < m → Was z m x (was_at z m x)
was z m x g l h =
    elim (cases_eq x z) [
      | inl e ↦
          let w = was_same z m x e in
          record { below = omega (arith, w); kept = λ q. omega (arith, w); root = λ q. absurd (omega arith); inner = λ q. omega (arith, w) }
      | inr n ↦
          let w = was_other z m x n in
          record { below = omega (arith, w); kept = λ q. n (sym w ∙ q); root = λ q. w ∙ q; inner = λ q. omega (arith, w) }
    ]

pub record Now (z m x n : ℕ) : Type 0 where
  pub below : n < m
  pub back : was_at z m n ≡ x

pub now : (z m x : ℕ) → 0 < z → z ≤ m → x < m + 1 → x ≢ z → Now z m x (now_at z m x)
now z m x g l h n =
    elim (cases_eq x m) [
      | inl e ↦
          let w = now_same z m x e in
          record { below = omega (arith, w, n); back = ap (was_at z m) w ∙ was_same z m z refl ∙ sym e }
      | inr o ↦
          let w = now_other z m x o in
          record { below = omega (arith, w); back = ap (was_at z m) w ∙ was_other z m x n }
    ]

-- what is known after the removal of block z: place x has what stood at was_at z m x
pub record Moved (z m i : ℕ) (bs new : List Block) : Type 0 where
  pub freed_inner : 0 < z
  pub freed_in : z ≤ m
  pub old_len : length bs ≡ m + 1
  pub len : length new ≡ m
  pub place : (x : ℕ) → x < m → SamePlace (block_in bs (was_at z m x)) (block_in new x)
  pub back : (x j : ℕ) (s : Slot) → x < m → slot_in new x j ≡ s → s ≢ Empty → ((m ≢ z) × (s ≡ Node z) × (slot_in bs (was_at z m x) j ≡ Node m)) ⊎ ((slot_in bs (was_at z m x) j ≡ s) × LeadsElsewhere z m s)
  pub forth : (x j : ℕ) (s : Slot) → x < m → slot_in bs (was_at z m x) j ≡ s → LeadsElsewhere z m s → slot_in new x j ≡ s
  pub forth_last : (x j : ℕ) → x < m → m ≢ z → slot_in bs (was_at z m x) j ≡ Node m → slot_in new x j ≡ Node z
  pub used : (x : ℕ) → x < m → was_at z m x ≢ i → used_slots (block_in new x) ≡ used_slots (block_in bs (was_at z m x))
  pub blocks_sum : (h : ℕ) → blocks_at h new + only_at h (block_in bs z).height 1 ≡ blocks_at h bs
  pub used_sum : (h : ℕ) → used_at h new + only_at h (block_in bs i).height 1 ≡ used_at h bs
  pub parent_in : i < m + 1
  pub parent_height : (block_in bs i).height ≡ (block_in bs z).height + 1
  pub empty : (j : ℕ) → slot_in bs z j ≡ Empty

pub block-swap_remove : (xs : List Block) (z x : ℕ) (d : Block) → z < length xs → x + 1 < length xs → block_in (swap_remove xs z d) x ≡ block_in xs (was_at z (length xs - 1) x)
block-swap_remove xs z x d hz hx =
    let m = length xs - 1 in
    let l = get_or xs m d in
    let cut : block_in (take m (set xs z l)) x ≡ block_in (set xs z l) x = get_or-take m (set xs z l) x no_block (omega arith) in
    elim (cases_eq x z) [
      | inl e ↦
          cut
          ∙ ap (λ y. block_in (set xs z l) y) e
          ∙ get_or-set_same xs z l no_block hz
          ∙ get_or_default xs m d no_block (omega arith)
          ∙ ap (λ y. block_in xs y) (sym (was_same z m x e))
      | inr n ↦ cut ∙ get_or-set_other xs z x l no_block n ∙ ap (λ y. block_in xs y) (sym (was_other z m x n))
    ]

-- the block that is removed has no used slot
pub empty_block : (bs : List Block) (z j : ℕ) → used_slots (block_in bs z) ≡ 0 → slot_in bs z j ≡ Empty
empty_block bs z j e =
    elim (slot_is (slot_in bs z j)) [
      | inl q ↦ q
      | inr r ↦ elim r [
        | inl q ↦ absurd (omega (arith, used_by (block_in bs z) j (slot_in_width bs z j _ q.1 (Node≢Empty q.0)), ap weight_of q.1, e))
        | inr q ↦ absurd (omega (arith, used_by (block_in bs z) j (slot_in_width bs z j _ q.1 (View≢Empty q.0)), ap weight_of q.1, e))
      ]
    ]

pub blocks_removed : (h : ℕ) (xs : List Block) (z : ℕ) (d : Block) → z < length xs → blocks_at h (swap_remove xs z d) + only_at h (block_in xs z).height 1 ≡ blocks_at h xs
unfolding blocks_at only_at
blocks_removed h xs z d hz =
    let f = λ (b : Block). if b.height == h then 1 else 0 in
    let e = sum_by-swap_remove f xs z d hz in
    omega (arith, e, ap f (get_or_default xs z d no_block hz))

pub used_removed : (h : ℕ) (xs : List Block) (z : ℕ) (d : Block) → z < length xs → used_at h (swap_remove xs z d) + only_at h (block_in xs z).height (used_slots (block_in xs z)) ≡ used_at h xs
unfolding used_at only_at
used_removed h xs z d hz =
    let f = λ (b : Block). if b.height == h then used_slots b else 0 in
    let e = sum_by-swap_remove f xs z d hz in
    omega (arith, e, ap f (get_or_default xs z d no_block hz))

pub moved : (top : ℕ) (bs ls : List Block) (z i : ℕ) (d : Block) → 0 < z → z < length bs → used_slots (block_in bs z) ≡ 0 → Relinked z (length bs - 1) i bs ls → Moved z (length bs - 1) i bs (swap_remove ls z d)
moved top bs ls z i d g h u r =
    let m = length bs - 1 in
    let len : length ls ≡ length bs = r.len in
    let lm : length ls - 1 ≡ m = omega (arith, len) in
    let hz : z < length ls = omega (arith, len) in
    let same : (x : ℕ) → x < m → block_in (swap_remove ls z d) x ≡ block_in ls (was_at z m x) = λ x q.
    block-swap_remove ls z x d hz (omega (arith, len)) ∙ ap (λ y. block_in ls (was_at z y x)) lm in
    let slot : (x j : ℕ) → x < m → slot_in (swap_remove ls z d) x j ≡ slot_in ls (was_at z m x) j = λ x j q. ap (λ (b : Block). get_or b.slots j Empty) (same x q) in
    let zh : (block_in ls z).height ≡ (block_in bs z).height = (r.place z).height in
    record {
      freed_inner = g;
      freed_in = omega arith;
      old_len = omega arith;
      len = length-take (length ls - 1) (set ls z (get_or ls (length ls - 1) d)) ∙ omega (arith, length-set ls z (get_or ls (length ls - 1) d), len);
      place = λ x q. subst (λ (b : Block). SamePlace (block_in bs (was_at z m x)) b) (sym (same x q)) (r.place (was_at z m x));
      back = λ x j s q e n. r.back (was_at z m x) j s (sym (slot x j q) ∙ e) n;
      forth = λ x j s q e n. slot x j q ∙ r.forth (was_at z m x) j s e n;
      forth_last = λ x j q n e. slot x j q ∙ r.forth_last (was_at z m x) j n e;
      used = λ x q n. ap used_slots (same x q) ∙ r.used (was_at z m x) n;
      blocks_sum = λ k. omega (arith, blocks_removed k ls z d hz, ap (λ n. only_at k n 1) zh, r.blocks_sum k);
      used_sum = λ k.
          let zi : z ≢ i = λ e. omega (arith, r.parent_height, ap (λ y. (block_in bs y).height) e) in
          let none = only_at_none k (block_in ls z).height (used_slots (block_in ls z)) (r.used z zi ∙ u) in
          omega (arith, used_removed k ls z d hz, none, only_at_is k (block_in bs i).height, r.used_sum k);
      parent_in = omega (arith, r.parent_in);
      parent_height = r.parent_height;
      empty = λ j. empty_block bs z j u;
    }

pub moved_tree : (top z m i : ℕ) (bs new : List Block) → IsTree top bs → Moved z m i bs new → IsTree top new
moved_tree top z m i bs new t v =
    let was_is = λ (x : ℕ) (q : x < m). was z m x v.freed_inner v.freed_in q in
    let m_in : 0 < m = omega (arith, v.freed_inner, v.freed_in) in
    let zero : was_at z m 0 ≡ 0 = (was_is 0 m_in).root refl in
    let root : SamePlace (block_in bs 0) (block_in new 0) = subst (λ y. SamePlace (block_in bs y) (block_in new 0)) zero (v.place 0 m_in) in
    let below : (x j : ℕ) (s : Slot) → slot_in new x j ≡ s → s ≢ Empty → x < m = λ x j s e n. omega (arith, node_in_range new x j s e n, v.len) in
    record {
      some = omega (arith, v.len);
      root_height = root.height ∙ t.root_height;
      root_prefix = root.prefix ∙ t.root_prefix;
      below_top = λ x g l.
          let q : x < m = omega (arith, v.len) in
          let w = was_is x q in
          omega (arith, (v.place x q).height, t.below_top (was_at z m x) (w.inner g) (omega (arith, w.below, v.old_len)));
      leads = λ x j y e.
          let q = below x j (Node y) e (Node≢Empty y) in
          elim (v.back x j (Node y) q e (Node≢Empty y)) [
            | inl b ↦
                let yz : y ≡ z = cc in
                let l = t.leads (was_at z m x) j m b.2 in
                let zm : z < m = omega (arith, v.freed_in, b.0) in
                let p = subst (λ c. SamePlace (block_in bs c) (block_in new z)) (was_same z m z refl) (v.place z zm) in
                record {
                  below = omega (arith, v.len);
                  not_root = omega (arith, v.freed_inner);
                  height = omega (arith, ap (λ c. (block_in new c).height) yz, p.height, l.height, (v.place x q).height);
                  prefix = omega (arith, ap (λ c. (block_in new c).prefix) yz, p.prefix, l.prefix, (v.place x q).prefix);
                }
            | inr b ↦
                let l = t.leads (was_at z m x) j y b.0 in
                let a = b.1 y refl in
                let ym : y < m = omega (arith, l.below, v.old_len, a.1) in
                let p = subst (λ c. SamePlace (block_in bs c) (block_in new y)) (was_other z m y a.0) (v.place y ym) in
                record {
                  below = omega (arith, v.len);
                  not_root = l.not_root;
                  height = omega (arith, p.height, l.height, (v.place x q).height);
                  prefix = omega (arith, p.prefix, l.prefix, (v.place x q).prefix);
                }
          ];
      has_parent = λ y g l.
          let q : y < m = omega (arith, v.len) in
          let w = was_is y q in
          let o = t.has_parent (was_at z m y) (w.inner g) (omega (arith, w.below, v.old_len)) in
          let oz : o.0 ≢ z = λ e. Node≢Empty (was_at z m y) (sym o.1 ∙ ap (λ c. slot_in bs c ((block_in bs (was_at z m y)).prefix % 128)) e ∙ v.empty _) in
          let r = node_in_range bs o.0 _ _ o.1 (Node≢Empty (was_at z m y)) in
          let n = now z m o.0 v.freed_inner v.freed_in (omega (arith, v.old_len)) oz in
          let parent = now_at z m o.0 in
          let digit : (block_in new y).prefix % 128 ≡ (block_in bs (was_at z m y)).prefix % 128 = ap (λ c. c % 128) (v.place y q).prefix in
          let stood : slot_in bs (was_at z m parent) ((block_in new y).prefix % 128) ≡ Node (was_at z m y) = ap (λ c. slot_in bs c ((block_in new y).prefix % 128)) n.back ∙ ap (λ c. slot_in bs o.0 c) digit ∙ o.1 in (
            parent,
            elim (cases_eq y z) [
              | inl e ↦
                  let last : was_at z m y ≡ m = was_same z m y e in
                  v.forth_last parent _ n.below (λ c. omega arith) (stood ∙ ap Node last) ∙ ap Node (sym e)
              | inr e ↦
                  let other : was_at z m y ≡ y = was_other z m y e in
                  v.forth parent _ (Node y) n.below (stood ∙ ap Node other) (λ c d. (let cy : y ≡ c = cc in λ k. e (cy ∙ k), let cy : y ≡ c = cc in λ k. omega arith))
            ],
          );
      views = λ x j w e.
          let q = below x j (View w) e (View≢Empty w) in
          elim (v.back x j (View w) q e (View≢Empty w)) [
            | inl b ↦ absurd (Node≢View z w (sym b.1))
            | inr b ↦ (v.place x q).height ∙ t.views (was_at z m x) j w b.0
          ];
      wide = λ x g l.
          let q : x < m = omega (arith, v.len) in
          let w = was_is x q in
          (v.place x q).width ∙ t.wide (was_at z m x) (w.inner g) (omega (arith, w.below, v.old_len));
      root_wide = omega (arith, root.width, t.root_wide);
      deep = λ d. root.width ∙ t.deep d;
      counted = λ h l.
          let hz = (block_in bs z).height in
          let hi = (block_in bs i).height in
          elim (cases_eq hz h) [
            | inl e ↦ omega (arith, v.blocks_sum h, v.used_sum (suc h), t.counted h l, only_at_same h hz 1 e, only_at_same (suc h) hi 1 (omega (arith, v.parent_height)))
            | inr e ↦ omega (arith, v.blocks_sum h, v.used_sum (suc h), t.counted h l, only_at_other h hz 1 e, only_at_other (suc h) hi 1 (λ c. e (omega (arith, v.parent_height))))
          ];
    }

moved_holds : (z m i : ℕ) (bs new : List Block) → Moved z m i bs new → (n w x : ℕ) → Holds new n w x → Holds bs n w (was_at z m x)
moved_holds z m i bs new v n w x h =
    let q : x < m = omega (arith, h.inside, v.len) in
    let p = v.place x q in
    let below = (was z m x v.freed_inner v.freed_in q).below in
    elim (v.back x (n % 128) (View w) q h.slot (View≢Empty w)) [
      | inl b ↦ absurd (Node≢View z w (sym b.1))
      | inr b ↦ record { inside = omega (arith, v.old_len); height = sym p.height ∙ h.height; prefix = sym p.prefix ∙ h.prefix; slot = b.0 }
    ]

held_moved : (z m i : ℕ) (bs new : List Block) → Moved z m i bs new → (n w x : ℕ) → Holds bs n w x → Holds new n w (now_at z m x)
held_moved z m i bs new v n w x h =
    let xz : x ≢ z = λ e. View≢Empty w (sym h.slot ∙ ap (λ c. slot_in bs c (n % 128)) e ∙ v.empty (n % 128)) in
    let o = now z m x v.freed_inner v.freed_in (omega (arith, h.inside, v.old_len)) xz in
    let p = v.place (now_at z m x) o.below in
    record {
      inside = omega (arith, o.below, v.len);
      height = p.height ∙ ap (λ c. (block_in bs c).height) o.back ∙ h.height;
      prefix = p.prefix ∙ ap (λ c. (block_in bs c).prefix) o.back ∙ h.prefix;
      slot = v.forth (now_at z m x) (n % 128) (View w) o.below (ap (λ c. slot_in bs c (n % 128)) o.back ∙ h.slot) (λ c e. absurd (Node≢View c w (sym e)));
    }

pub moved_kept : (top z m i : ℕ) (bs new : List Block) → IsTree top bs → Moved z m i bs new → TreeKept top bs new
moved_kept top z m i bs new t v =
    let u = moved_tree top z m i bs new t v in
    let m_in : 0 < m = omega (arith, v.freed_inner, v.freed_in) in
    record {
      tree = u;
      entries = λ n. same_options _ _
          (λ w e. let h = holder top new u n w e in entry_held top bs t n w _ (moved_holds z m i bs new v n w h.0 h.1))
          (λ w e. let h = holder top bs t n w e in entry_held top new u n w _ (held_moved z m i bs new v n w h.0 h.1));
      count = omega (arith, v.used_sum 0, only_at_other 0 (block_in bs i).height 1 (λ e. omega (arith, v.parent_height)));
      len = omega (arith, v.len, v.old_len);
      root = (subst (λ y. SamePlace (block_in bs y) (block_in new 0)) ((was z m 0 v.freed_inner v.freed_in m_in).root refl) (v.place 0 m_in)).width;
    }

-- the parent alone may have lost its last used slot
pub moved_filled : (z m i : ℕ) (bs new : List Block) → Moved z m i bs new → FilledBut z bs → FilledBut (now_at z m i) new
moved_filled z m i bs new v f = λ x g l n.
    let q : x < m = omega (arith, v.len) in
    let w = was z m x v.freed_inner v.freed_in q in
    let iz : i ≢ z = λ e. omega (arith, v.parent_height, ap (λ y. (block_in bs y).height) e) in
    let o = now z m i v.freed_inner v.freed_in v.parent_in iz in
    let wi : was_at z m x ≢ i = λ e. n (same_now z m x i v.freed_inner v.freed_in q e) in
    omega (arith, v.used x q wi, f (was_at z m x) (w.inner g) (omega (arith, w.below, v.old_len)) w.kept)
  where
    same_now : (z m x i : ℕ) → 0 < z → z ≤ m → x < m → was_at z m x ≡ i → x ≡ now_at z m i
    same_now z m x i g l q e =
        elim (cases_eq x z) [
          | inl a ↦
              let im : i ≡ m = sym e ∙ was_same z m x a in
              a ∙ sym (now_same z m i im)
          | inr a ↦
              let ix : i ≡ x = sym e ∙ was_other z m x a in
              sym ix ∙ sym (now_other z m i (λ c. omega arith))
        ]

pub moved_parent_in : (z m i : ℕ) (bs new : List Block) → Moved z m i bs new → now_at z m i < length new
moved_parent_in z m i bs new v =
    let iz : i ≢ z = λ e. omega (arith, v.parent_height, ap (λ y. (block_in bs y).height) e) in
    omega (arith, (now z m i v.freed_inner v.freed_in v.parent_in iz).below, v.len)
