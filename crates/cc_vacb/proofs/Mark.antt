-- A view put into a slot of a block of height 0, or taken out of it.
use Rattle.std.proofs.Common.{◌≡◌, ◌≢◌, ℕ, suc, ◌+◌, ◌*◌, ◌/◌, ◌%◌, ◌<◌, List, Some, None, length, ap, sym, ◌∙◌, arith, inl, inr}
use Rattle.cc_vacb.specs.declared.slots.Slot.{Slot}
use Rattle.cc_vacb.specs.declared.slots.Slot.TheVariants.{Empty, Node, View}
use Rattle.cc_vacb.specs.Slots.{child_of, view_of, weight_of}
use Rattle.cc_vacb.specs.Block.{Block}
use Rattle.cc_vacb.specs.Index.{block_in, slot_in, entry_in}
use Rattle.cc_vacb.specs.Tree.{IsTree, put_slot}
use Rattle.cc_vacb.proofs.Put.{place-put_slot, length-put_slot, slot-put_same, slot-put_other, slot_cases, Node≢Empty, Node≢View, Some≢None}
use Rattle.cc_vacb.proofs.Count.{blocks_at-put, used_at-put, only_at_other}
use Rattle.cc_vacb.proofs.Walk.{holder, entry_held, same_options, entry_of_place}

no_child : (s : Slot) (y : ℕ) → child_of s ≡ None → s ≡ Node y → ⊥
no_child Empty y e f = absurd (Node≢Empty y (sym f))
no_child (Node n) y e f = let g : Some n ≡ None = e in absurd (Some≢None n g)
no_child (View v) y e f = absurd (Node≢View y v (sym f))

pub mark_tree : (top : ℕ) (bs : List Block) (i k : ℕ) (s : Slot) → IsTree top bs → i < length bs → k < length (block_in bs i).slots → (block_in bs i).height ≡ 0 → child_of s ≡ None → IsTree top (put_slot bs i k s)
mark_tree top bs i k s t hi hk h0 leaf =
    let place = λ (x : ℕ). place-put_slot bs i k s x hi in
    let len = length-put_slot bs i k s in
    let new = put_slot bs i k s in
    record {
      some = omega (arith, len, t.some);
      root_height = (place 0).height ∙ t.root_height;
      root_prefix = (place 0).prefix ∙ t.root_prefix;
      below_top = λ x a b. omega (arith, (place x).height, len, t.below_top x a (omega (arith, len)));
      leads = λ x j y e. elim (slot_cases x i j k) [
        | inl q ↦ absurd (no_child s y leaf (sym (slot-put_same bs i k s hi hk) ∙ ap (λ z. slot_in new z k) (sym q.0) ∙ ap (λ z. slot_in new x z) (sym q.1) ∙ e))
        | inr n ↦
            let l = t.leads x j y (sym (slot-put_other bs i k s x j hi n) ∙ e) in
            record {
              below = omega (arith, l.below, len);
              not_root = l.not_root;
              height = omega (arith, l.height, (place x).height, (place y).height);
              prefix = omega (arith, l.prefix, (place x).prefix, (place y).prefix);
            }
      ];
      has_parent = λ y a b.
          let h = t.has_parent y a (omega (arith, len)) in
          let l = t.leads h.0 _ y h.1 in
          (h.0, ap (λ p. slot_in new h.0 (p % 128)) (place y).prefix ∙ slot-put_other bs i k s h.0 _ hi (λ q _. omega (arith, l.height, h0, ap (λ z. (block_in bs z).height) q)) ∙ h.1);
      views = λ x j v e. elim (slot_cases x i j k) [
        | inl q ↦ (place x).height ∙ ap (λ z. (block_in bs z).height) q.0 ∙ h0
        | inr n ↦ (place x).height ∙ t.views x j v (sym (slot-put_other bs i k s x j hi n) ∙ e)
      ];
      wide = λ x a b. (place x).width ∙ t.wide x a (omega (arith, len));
      root_wide = omega (arith, (place 0).width, t.root_wide);
      deep = λ z. (place 0).width ∙ t.deep z;
      counted = λ h a.
          let n : (block_in bs i).height ≢ suc h = λ q. omega (arith, h0) in
          omega (arith, t.counted h a, blocks_at-put h bs i k s hi, used_at-put (suc h) bs i k s hi hk, only_at_other (suc h) (block_in bs i).height (weight_of s) n, only_at_other (suc h) (block_in bs i).height (weight_of (slot_in bs i k)) n);
    }

-- the entries of every other number stay
pub mark_other : (top : ℕ) (bs : List Block) (i k : ℕ) (s : Slot) (b : ℕ) → IsTree top bs → IsTree top (put_slot bs i k s) → i < length bs → (128 * (block_in bs i).prefix + k ≢ b) → entry_in (put_slot bs i k s) top b ≡ entry_in bs top b
mark_other top bs i k s b t u hi ne =
    let place = λ (x : ℕ). place-put_slot bs i k s x hi in
    let len = length-put_slot bs i k s in
    let apart : (x : ℕ) → (block_in bs x).prefix ≡ b / 128 → x ≡ i → b % 128 ≡ k → ⊥ = λ x p q r. ne (omega (arith, ap (λ z. (block_in bs z).prefix) q)) in
    same_options _ _
    (λ v e.
    let h = holder top _ u b v e in
    let n = apart h.0 (sym (place h.0).prefix ∙ h.1.prefix) in
    entry_held top bs t b v h.0 (record {
      inside = omega (arith, h.1.inside, len);
      height = sym (place h.0).height ∙ h.1.height;
      prefix = sym (place h.0).prefix ∙ h.1.prefix;
      slot = sym (slot-put_other bs i k s h.0 (b % 128) hi n) ∙ h.1.slot;
    }))
    (λ v e.
    let h = holder top bs t b v e in
    entry_held top _ u b v h.0 (record {
      inside = omega (arith, h.1.inside, len);
      height = (place h.0).height ∙ h.1.height;
      prefix = (place h.0).prefix ∙ h.1.prefix;
      slot = slot-put_other bs i k s h.0 (b % 128) hi (apart h.0 h.1.prefix) ∙ h.1.slot;
    }))

-- the entry at its own number
pub mark_here : (top : ℕ) (bs : List Block) (i k : ℕ) (s : Slot) (b : ℕ) → IsTree top (put_slot bs i k s) → i < length bs → k < length (block_in bs i).slots → k < 128 → (block_in bs i).height ≡ 0 → 128 * (block_in bs i).prefix + k ≡ b → entry_in (put_slot bs i k s) top b ≡ view_of s
mark_here top bs i k s b u hi hk hd h0 e =
    let place = place-put_slot bs i k s i hi in
    let q : b % 128 ≡ k = omega arith in
    entry_of_place top _ u b i (omega (arith, length-put_slot bs i k s)) (place.height ∙ h0) (place.prefix ∙ omega arith)
    ∙ ap view_of (ap (λ z. slot_in (put_slot bs i k s) i z) q ∙ slot-put_same bs i k s hi hk)
