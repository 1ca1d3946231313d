-- One more index block, at the end, and the slot that leads to it.
use Rattle.std.proofs.Common.{◌≡◌, ◌≢◌, ℕ, suc, ◌+◌, ◌*◌, ◌%◌, ◌<◌, ◌≤◌, List, [], ◌∷◌, ◌++◌, length, replicate, get_or, refl, ap, sym, ◌∙◌, arith, inl, inr}
use Rattle.std.proofs.lemmas.Bool.{cases_eq, cases_lt}
use Rattle.std.proofs.lemmas.List.{length_push, length-replicate, get_or-replicate, get_or_past}
use Rattle.std.specs.Prelude.{◌⊎◌}
use Rattle.cc_vacb.specs.declared.slots.Slot.{Slot}
use Rattle.cc_vacb.specs.declared.slots.Slot.TheVariants.{Empty, Node, View}
use Rattle.cc_vacb.specs.Slots.{weight_of}
use Rattle.cc_vacb.specs.Block.{Block, blank_block, used_slots}
use Rattle.cc_vacb.specs.Index.{block_in, slot_in, entry_in}
use Rattle.cc_vacb.specs.Tree.{SamePlace, IsTree, put_slot, FilledBut, used_at, blocks_at}
use Rattle.cc_vacb.proofs.Put.{place-put_slot, length-put_slot, slot-put_same, slot-put_other, slot_cases, node_in_range, slot_in_width, Node≢Empty, Node≢View, View≢Empty, block-put_other, block-push_old, block-push_new}
use Rattle.cc_vacb.proofs.Count.{blocks_at-put, used_at-put, blocks_at-push, used_at-push, only_at_other, only_at_same, only_at_none, used-replicate, used_by}
use Rattle.cc_vacb.proofs.Walk.{holder, entry_held, same_options}

-- a block with no used slot
pub record IsBlank (b : Block) (h p w : ℕ) : Type 0 where
  pub height : b.height ≡ h
  pub prefix : b.prefix ≡ p
  pub width : length b.slots ≡ w
  pub empty : (k : ℕ) → get_or b.slots k Empty ≡ Empty
  pub unused : used_slots b ≡ 0

pub blank_slot : (n k : ℕ) → get_or (replicate n Empty) k Empty ≡ Empty
blank_slot n k =
    elim (cases_lt k n) [
      | inl h ↦ get_or-replicate n k Empty Empty h
      | inr h ↦ get_or_past (replicate n Empty) k Empty (omega (arith, length-replicate n Empty))
    ]

pub blank-is : (h p w : ℕ) → IsBlank (blank_block h p w) h p w
unfolding blank_block
blank-is h p w = record { height = refl; prefix = refl; width = length-replicate w Empty; empty = λ k. blank_slot w k; unused = used-replicate w }

-- the blocks with one more at the end, a child behind slot k of block i
abbrev pub with_child : List Block → ℕ → ℕ → Block → List Block
with_child bs i k b = put_slot (bs ++ b ∷ []) i k (Node (length bs))

-- where the child fits
pub record Fits (top : ℕ) (bs : List Block) (i k h p : ℕ) : Type 0 where
  pub inside : i < length bs
  pub digit : k < 128
  pub width : k < length (block_in bs i).slots
  pub free : slot_in bs i k ≡ Empty
  pub height : (block_in bs i).height ≡ suc h
  pub prefix : p ≡ 128 * (block_in bs i).prefix + k

-- what is known of the blocks with a child
pub record Added (bs : List Block) (i k : ℕ) (b : Block) (new : List Block) : Type 0 where
  pub len : length new ≡ length bs + 1
  pub place : (x : ℕ) → x < length bs → SamePlace (block_in bs x) (block_in new x)
  pub child : block_in new (length bs) ≡ b
  pub slot : slot_in new i k ≡ Node (length bs)
  pub other : (x j : ℕ) → x < length bs → (x ≡ i → j ≡ k → ⊥) → slot_in new x j ≡ slot_in bs x j
  pub empty : (j : ℕ) → slot_in new (length bs) j ≡ Empty

pub added : (top : ℕ) (bs : List Block) (i k h p : ℕ) (b : Block) → Fits top bs i k h p → IsBlank b h p 128 → Added bs i k b (with_child bs i k b)
added top bs i k h p b f blank =
    let n = length bs in
    let cs = bs ++ b ∷ [] in
    let l : length cs ≡ n + 1 = length_push bs b in
    let inside : i < length cs = omega (arith, l, f.inside) in
    let old = λ (x : ℕ) (q : x < n). block-push_old bs b x q in
    let ne : n ≢ i = λ q. omega (arith, f.inside) in
    let c : block_in (with_child bs i k b) n ≡ b = block-put_other cs i k (Node n) n ne ∙ block-push_new bs b in
    record {
      len = length-put_slot cs i k (Node n) ∙ l;
      place = λ x q.
          let s = place-put_slot cs i k (Node n) x inside in
          let o = old x q in
          record {
            height = s.height ∙ ap (λ (z : Block). z.height) o;
            prefix = s.prefix ∙ ap (λ (z : Block). z.prefix) o;
            width = s.width ∙ ap (λ (z : Block). length z.slots) o;
          };
      child = c;
      slot = slot-put_same cs i k (Node n) inside (omega (arith, f.width, ap (λ (z : Block). length z.slots) (old i f.inside)));
      other = λ x j q m. slot-put_other cs i k (Node n) x j inside m ∙ ap (λ (z : Block). get_or z.slots j Empty) (old x q);
      empty = λ j. ap (λ (z : Block). get_or z.slots j Empty) c ∙ blank.empty j;
    }

-- a slot of the new blocks that is not empty: the new one, or one of before
slot_was : (bs : List Block) (i k : ℕ) (b : Block) (new : List Block) → Added bs i k b new → (x j : ℕ) (s : Slot) → slot_in new x j ≡ s → s ≢ Empty → ((x ≡ i) × (j ≡ k)) ⊎ ((x < length bs) × (slot_in bs x j ≡ s))
slot_was bs i k b new a x j s e n =
    elim (slot_cases x i j k) [
      | inl q ↦ inl q
      | inr m ↦
          let r = node_in_range new x j s e n in
          elim (cases_eq x (length bs)) [
            | inl z ↦ absurd (n (sym e ∙ ap (λ y. slot_in new y j) z ∙ a.empty j))
            | inr z ↦
                let l : x < length bs = omega (arith, r, a.len) in
                inr (l, sym (a.other x j l m) ∙ e)
          ]
    ]

child_counted : (top : ℕ) (bs : List Block) (i k h p : ℕ) (b : Block) → IsTree top bs → Fits top bs i k h p → IsBlank b h p 128 → (g : ℕ) → g < top → blocks_at g (with_child bs i k b) ≡ used_at (suc g) (with_child bs i k b)
child_counted top bs i k h p b t f blank g l =
    let cs = bs ++ b ∷ [] in
    let len = length_push bs b in
    let inside : i < length cs = omega (arith, len, f.inside) in
    let old = block-push_old bs b i f.inside in
    let width : k < length (block_in cs i).slots = omega (arith, f.width, ap (λ (z : Block). length z.slots) old) in
    let hi : (block_in cs i).height ≡ suc h = ap (λ (z : Block). z.height) old ∙ f.height in
    let was : slot_in cs i k ≡ Empty = ap (λ (z : Block). get_or z.slots k Empty) old ∙ f.free in
    let w0 = only_at_none (suc g) (block_in cs i).height (weight_of (slot_in cs i k)) (ap weight_of was) in
    let pb = blocks_at-put g cs i k (Node (length bs)) inside in
    let pu = used_at-put (suc g) cs i k (Node (length bs)) inside width in
    let bp = blocks_at-push g bs b in
    let up = used_at-push (suc g) bs b in
    let ub = only_at_none (suc g) b.height (used_slots b) blank.unused in
    elim (cases_eq h g) [
      | inl q ↦ omega (arith, pb, pu, bp, up, ub, w0, t.counted g l, only_at_same g b.height 1 (blank.height ∙ q), only_at_same (suc g) (block_in cs i).height 1 (hi ∙ ap suc q))
      | inr q ↦ omega (arith, pb, pu, bp, up, ub, w0, t.counted g l, only_at_other g b.height 1 (λ e. q (sym blank.height ∙ e)), only_at_other (suc g) (block_in cs i).height 1 (λ e. q (omega (arith, hi))))
    ]

pub child_tree : (top : ℕ) (bs : List Block) (i k h p : ℕ) (b : Block) → IsTree top bs → Fits top bs i k h p → IsBlank b h p 128 → IsTree top (with_child bs i k b)
child_tree top bs i k h p b t f blank =
    let n = length bs in
    let new = with_child bs i k b in
    let a = added top bs i k h p b f blank in
    let zero_in : 0 < n = t.some in
    let i_height : (block_in bs i).height ≤ top = elim (cases_eq i 0) [
      | inl z ↦ omega (arith, ap (λ y. (block_in bs y).height) z, t.root_height)
      | inr z ↦ omega (arith, t.below_top i (omega arith) f.inside)
    ] in
    let ch : (block_in new n).height ≡ h = ap (λ (z : Block). z.height) a.child ∙ blank.height in
    let cp : (block_in new n).prefix ≡ p = ap (λ (z : Block). z.prefix) a.child ∙ blank.prefix in
    record {
      some = omega (arith, a.len);
      root_height = (a.place 0 zero_in).height ∙ t.root_height;
      root_prefix = (a.place 0 zero_in).prefix ∙ t.root_prefix;
      below_top = λ x g l. elim (cases_eq x n) [
        | inl z ↦ omega (arith, ap (λ y. (block_in new y).height) z, ch, f.height)
        | inr z ↦
            let q : x < n = omega (arith, a.len) in
            omega (arith, (a.place x q).height, t.below_top x g q)
      ];
      leads = λ x j y e. elim (slot_was bs i k b new a x j (Node y) e (Node≢Empty y)) [
        | inl q ↦
            let s : Node y ≡ Node n = sym e ∙ ap (λ z. slot_in new z j) q.0 ∙ ap (λ z. slot_in new i z) q.1 ∙ a.slot in
            let yn : y ≡ n = cc in
            let xh : (block_in new x).height ≡ suc h = ap (λ z. (block_in new z).height) q.0 ∙ (a.place i f.inside).height ∙ f.height in
            let xp : (block_in new x).prefix ≡ (block_in bs i).prefix = ap (λ z. (block_in new z).prefix) q.0 ∙ (a.place i f.inside).prefix in
            record {
              below = omega (arith, a.len);
              not_root = omega arith;
              height = omega (arith, xh, ap (λ z. (block_in new z).height) yn, ch);
              prefix = omega (arith, xp, ap (λ z. (block_in new z).prefix) yn, cp, f.prefix, q.1);
            }
        | inr q ↦
            let l = t.leads x j y q.1 in
            record {
              below = omega (arith, l.below, a.len);
              not_root = l.not_root;
              height = omega (arith, l.height, (a.place x q.0).height, (a.place y l.below).height);
              prefix = omega (arith, l.prefix, (a.place x q.0).prefix, (a.place y l.below).prefix);
            }
      ];
      has_parent = λ y g l. elim (cases_eq y n) [
        | inl z ↦
            let d : (block_in new y).prefix % 128 ≡ k = omega (arith, ap (λ w. (block_in new w).prefix) z, cp, f.prefix, f.digit) in
            (i, ap (λ w. slot_in new i w) d ∙ a.slot ∙ ap Node (sym z))
        | inr z ↦
            let q : y < n = omega (arith, a.len) in
            let o = t.has_parent y g q in
            let r = node_in_range bs o.0 _ _ o.1 (Node≢Empty y) in
            (o.0, ap (λ w. slot_in new o.0 (w % 128)) (a.place y q).prefix ∙ a.other o.0 _ r (λ u v. Node≢Empty y (sym o.1 ∙ ap (λ w. slot_in bs w ((block_in bs y).prefix % 128)) u ∙ ap (λ w. slot_in bs i w) v ∙ f.free)) ∙ o.1)
      ];
      views = λ x j v e. elim (slot_was bs i k b new a x j (View v) e (View≢Empty v)) [
        | inl q ↦ absurd (Node≢View n v (sym a.slot ∙ ap (λ z. slot_in new i z) (sym q.1) ∙ ap (λ z. slot_in new z j) (sym q.0) ∙ e))
        | inr q ↦ (a.place x q.0).height ∙ t.views x j v q.1
      ];
      wide = λ x g l. elim (cases_eq x n) [
        | inl z ↦ ap (λ w. length (block_in new w).slots) z ∙ ap (λ (w : Block). length w.slots) a.child ∙ blank.width
        | inr z ↦
            let q : x < n = omega (arith, a.len) in
            (a.place x q).width ∙ t.wide x g q
      ];
      root_wide = omega (arith, (a.place 0 zero_in).width, t.root_wide);
      deep = λ z. (a.place 0 zero_in).width ∙ t.deep z;
      counted = λ g l. child_counted top bs i k h p b t f blank g l;
    }

-- no entry is changed by a block with no used slot
pub child_entry : (top : ℕ) (bs : List Block) (i k h p : ℕ) (b : Block) → IsTree top bs → Fits top bs i k h p → IsBlank b h p 128 → (n : ℕ) → entry_in (with_child bs i k b) top n ≡ entry_in bs top n
child_entry top bs i k h p b t f blank n =
    let new = with_child bs i k b in
    let a = added top bs i k h p b f blank in
    let u = child_tree top bs i k h p b t f blank in
    same_options _ _
    (λ v e.
    let o = holder top new u n v e in
    elim (slot_was bs i k b new a o.0 (n % 128) (View v) o.1.slot (View≢Empty v)) [
      | inl q ↦ absurd (Node≢View (length bs) v (sym a.slot ∙ ap (λ z. slot_in new i z) (sym q.1) ∙ ap (λ z. slot_in new z (n % 128)) (sym q.0) ∙ o.1.slot))
      | inr q ↦ entry_held top bs t n v o.0 (record {
        inside = q.0;
        height = sym (a.place o.0 q.0).height ∙ o.1.height;
        prefix = sym (a.place o.0 q.0).prefix ∙ o.1.prefix;
        slot = q.1;
      })
    ])
    (λ v e.
    let o = holder top bs t n v e in
    entry_held top new u n v o.0 (record {
      inside = omega (arith, a.len, o.1.inside);
      height = (a.place o.0 o.1.inside).height ∙ o.1.height;
      prefix = (a.place o.0 o.1.inside).prefix ∙ o.1.prefix;
      slot = a.other o.0 _ o.1.inside (λ y z. View≢Empty v (sym o.1.slot ∙ ap (λ w. slot_in bs w (n % 128)) y ∙ ap (λ w. slot_in bs i w) z ∙ f.free)) ∙ o.1.slot;
    }))

pub child_count : (top : ℕ) (bs : List Block) (i k h p : ℕ) (b : Block) → Fits top bs i k h p → IsBlank b h p 128 → used_at 0 (with_child bs i k b) ≡ used_at 0 bs
child_count top bs i k h p b f blank =
    let cs = bs ++ b ∷ [] in
    let len = length_push bs b in
    let inside : i < length cs = omega (arith, len, f.inside) in
    let old = block-push_old bs b i f.inside in
    let width : k < length (block_in cs i).slots = omega (arith, f.width, ap (λ (z : Block). length z.slots) old) in
    let hi : (block_in cs i).height ≢ 0 = λ e. omega (arith, ap (λ (z : Block). z.height) old, f.height) in
    omega (arith, used_at-put 0 cs i k (Node (length bs)) inside width, used_at-push 0 bs b, only_at_none 0 b.height (used_slots b) blank.unused, only_at_other 0 (block_in cs i).height (weight_of (slot_in cs i k)) hi, only_at_other 0 (block_in cs i).height 1 hi)

-- the parent has a used slot now, and the child has none
pub child_filled : (top : ℕ) (bs : List Block) (i k h p : ℕ) (b : Block) → Fits top bs i k h p → IsBlank b h p 128 → FilledBut i bs → FilledBut (length bs) (with_child bs i k b)
child_filled top bs i k h p b f blank filled =
    let new = with_child bs i k b in
    let a = added top bs i k h p b f blank in
    let cs = bs ++ b ∷ [] in
    λ x g l n.
    let q : x < length bs = omega (arith, a.len) in
    elim (cases_eq x i) [
      | inl z ↦
          let w = slot_in_width new i k (Node (length bs)) a.slot (Node≢Empty (length bs)) in
          let u = used_by (block_in new i) k w in
          omega (arith, u, ap weight_of a.slot, ap (λ y. used_slots (block_in new y)) z)
      | inr z ↦
          let same : block_in new x ≡ block_in bs x = block-put_other cs i k (Node (length bs)) x z ∙ block-push_old bs b x q in
          omega (arith, filled x g q z, ap used_slots same)
    ]
