-- The slots around a block that is to be removed.
use Rattle.std.proofs.Common.{◌≡◌, ◌≢◌, ℕ, ◌<◌, List, length, refl, ap, sym, ◌∙◌, arith, inl, inr}
use Rattle.std.proofs.lemmas.Bool.{cases_eq}
use Rattle.cc_vacb.specs.declared.slots.Slot.{Slot}
use Rattle.cc_vacb.specs.declared.slots.Slot.TheVariants.{Empty, Node}
use Rattle.cc_vacb.specs.Slots.{weight_of}
use Rattle.cc_vacb.specs.Block.{Block, used_slots}
use Rattle.cc_vacb.specs.Index.{block_in, slot_in}
use Rattle.cc_vacb.specs.Tree.{SamePlace, IsTree, put_slot, Relinked}
use Rattle.cc_vacb.proofs.Put.{place-put_slot, length-put_slot, slot-put_same, slot-put_other, slot_cases, node_in_range, slot_in_width, Node≢Empty, block-put_same, block-put_other}
use Rattle.cc_vacb.proofs.Count.{blocks_at-put, used_at-put, only_at, only_at_none, only_at_is, used-set}
use Rattle.cc_vacb.proofs.Walk.{same_parent, digit_in}

pub place_then : (a b c : Block) → SamePlace a b → SamePlace b c → SamePlace a c
place_then a b c p q = record { height = q.height ∙ p.height; prefix = q.prefix ∙ p.prefix; width = q.width ∙ p.width }

pub used-put_other : (bs : List Block) (i k : ℕ) (s : Slot) (x : ℕ) → x ≢ i → used_slots (block_in (put_slot bs i k s) x) ≡ used_slots (block_in bs x)
used-put_other bs i k s x n = ap used_slots (block-put_other bs i k s x n)

-- a write of a slot that is used over one that is used
pub used-put_used : (bs : List Block) (i k : ℕ) (s : Slot) (x : ℕ) → i < length bs → k < length (block_in bs i).slots → weight_of (slot_in bs i k) ≡ weight_of s → used_slots (block_in (put_slot bs i k s) x) ≡ used_slots (block_in bs x)
used-put_used bs i k s x h w e =
    elim (cases_eq x i) [
      | inl q ↦
          ap (λ z. used_slots (block_in (put_slot bs i k s) z)) q
          ∙ ap used_slots (block-put_same bs i k s h)
          ∙ omega (arith, used-set (block_in bs i) k s w)
          ∙ ap (λ z. used_slots (block_in bs z)) (sym q)
      | inr n ↦ used-put_other bs i k s x n
    ]

two_nodes : (s : Slot) (y z : ℕ) → s ≡ Node y → s ≡ Node z → y ≡ z
two_nodes s y z e f = cc

-- the freed block is the last
pub unlinked_last : (top : ℕ) (bs : List Block) (z i k : ℕ) → IsTree top bs → slot_in bs i k ≡ Node z → Relinked z z i bs (put_slot bs i k Empty)
unlinked_last top bs z i k t e =
    let hi = node_in_range bs i k _ e (Node≢Empty z) in
    let hk = slot_in_width bs i k _ e (Node≢Empty z) in
    let d = digit_in top bs t i k _ e (Node≢Empty z) in
    let l = t.leads i k z e in
    record {
      len = length-put_slot bs i k Empty;
      place = λ x. place-put_slot bs i k Empty x hi;
      back = λ x j s f n. elim (slot_cases x i j k) [
        | inl q ↦ absurd (n (sym f ∙ ap (λ y. slot_in (put_slot bs i k Empty) y j) q.0 ∙ ap (λ y. slot_in (put_slot bs i k Empty) i y) q.1 ∙ slot-put_same bs i k Empty hi hk))
        | inr m ↦
            let g : slot_in bs x j ≡ s = sym (slot-put_other bs i k Empty x j hi m) ∙ f in
            let apart : (y : ℕ) → s ≡ Node y → y ≢ z = λ y sy yz.
            let c : slot_in bs x j ≡ Node z = g ∙ sy ∙ ap Node yz in
            let p = same_parent top bs t x j i k z c e (digit_in top bs t x j _ c (Node≢Empty z)) d in
            m p.0 p.1 in
            inr (g, λ y sy. (apart y sy, apart y sy))
      ];
      forth = λ x j s f n. slot-put_other bs i k Empty x j hi (λ p q. (n z (sym f ∙ ap (λ y. slot_in bs y j) p ∙ ap (λ y. slot_in bs i y) q ∙ e)).0 refl) ∙ f;
      forth_last = λ x j n f. absurd (n refl);
      used = λ x n. used-put_other bs i k Empty x n;
      blocks_sum = λ h. blocks_at-put h bs i k Empty hi;
      used_sum = λ h.
          let hh = (block_in bs i).height in
          let u = used_at-put h bs i k Empty hi hk in
          let w : weight_of (slot_in bs i k) ≡ 1 = ap weight_of e in
          omega (arith, u, only_at_is h hh, ap (only_at h hh) w, only_at_none h hh (weight_of Empty) refl);
      parent_in = hi;
      parent_height = sym l.height;
    }

-- the last block is another, and the slot that led to it leads to the freed place
pub unlinked_moved : (top : ℕ) (bs : List Block) (z i k m q l : ℕ) → IsTree top bs → m ≢ z → slot_in bs i k ≡ Node z → slot_in bs q l ≡ Node m → Relinked z m i bs (put_slot (put_slot bs i k Empty) q l (Node z))
unlinked_moved top bs z i k m q l t ne e f =
    let hi = node_in_range bs i k _ e (Node≢Empty z) in
    let hk = slot_in_width bs i k _ e (Node≢Empty z) in
    let hq = node_in_range bs q l _ f (Node≢Empty m) in
    let hl = slot_in_width bs q l _ f (Node≢Empty m) in
    let di = digit_in top bs t i k _ e (Node≢Empty z) in
    let dq = digit_in top bs t q l _ f (Node≢Empty m) in
    let ld = t.leads i k z e in
    let cs = put_slot bs i k Empty in
    let ds = put_slot cs q l (Node z) in
    let cl = length-put_slot bs i k Empty in
    let hq' : q < length cs = omega (arith, cl) in
    let pq = place-put_slot bs i k Empty q hi in
    let hl' : l < length (block_in cs q).slots = omega (arith, pq.width) in
    let apart : q ≡ i → l ≡ k → ⊥ = λ a b. ne (two_nodes (slot_in bs q l) m z f (ap (λ y. slot_in bs y l) a ∙ ap (λ y. slot_in bs i y) b ∙ e)) in
    let fc : slot_in cs q l ≡ Node m = slot-put_other bs i k Empty q l hi apart ∙ f in
    let wc : weight_of (slot_in cs q l) ≡ 1 = ap weight_of fc in
    record {
      len = length-put_slot cs q l (Node z) ∙ cl;
      place = λ x. place_then _ _ _ (place-put_slot bs i k Empty x hi) (place-put_slot cs q l (Node z) x hq');
      back = λ x j s g n. elim (slot_cases x q j l) [
        | inl p ↦
            let sz : s ≡ Node z = sym g ∙ ap (λ y. slot_in ds y j) p.0 ∙ ap (λ y. slot_in ds q y) p.1 ∙ slot-put_same cs q l (Node z) hq' hl' in
            inl (ne, sz, ap (λ y. slot_in bs y j) p.0 ∙ ap (λ y. slot_in bs q y) p.1 ∙ f)
        | inr p ↦
            let gc : slot_in cs x j ≡ s = sym (slot-put_other cs q l (Node z) x j hq' p) ∙ g in
            elim (slot_cases x i j k) [
              | inl r ↦ absurd (n (sym gc ∙ ap (λ y. slot_in cs y j) r.0 ∙ ap (λ y. slot_in cs i y) r.1 ∙ slot-put_same bs i k Empty hi hk))
              | inr r ↦
                  let gb : slot_in bs x j ≡ s = sym (slot-put_other bs i k Empty x j hi r) ∙ gc in
                  inr (
                    gb,
                    λ y sy. (
                      (λ yz.
                          let c : slot_in bs x j ≡ Node z = gb ∙ sy ∙ ap Node yz in
                          let w = same_parent top bs t x j i k z c e (digit_in top bs t x j _ c (Node≢Empty z)) di in
                          r w.0 w.1),
                      (λ ym.
                          let c : slot_in bs x j ≡ Node m = gb ∙ sy ∙ ap Node ym in
                          let w = same_parent top bs t x j q l m c f (digit_in top bs t x j _ c (Node≢Empty m)) dq in
                          p w.0 w.1),
                    ),
                  )
            ]
      ];
      forth = λ x j s g n.
          slot-put_other cs q l (Node z) x j hq' (λ a b. (n m (sym g ∙ ap (λ y. slot_in bs y j) a ∙ ap (λ y. slot_in bs q y) b ∙ f)).1 refl)
          ∙ slot-put_other bs i k Empty x j hi (λ a b. (n z (sym g ∙ ap (λ y. slot_in bs y j) a ∙ ap (λ y. slot_in bs i y) b ∙ e)).0 refl)
          ∙ g;
      forth_last = λ x j n g.
          let w = same_parent top bs t x j q l m g f (digit_in top bs t x j _ g (Node≢Empty m)) dq in
          ap (λ y. slot_in ds y j) w.0 ∙ ap (λ y. slot_in ds q y) w.1 ∙ slot-put_same cs q l (Node z) hq' hl';
      used = λ x n. used-put_used cs q l (Node z) x hq' hl' wc ∙ used-put_other bs i k Empty x n;
      blocks_sum = λ h. blocks_at-put h cs q l (Node z) hq' ∙ blocks_at-put h bs i k Empty hi;
      used_sum = λ h.
          let hh = (block_in bs i).height in
          let u = used_at-put h bs i k Empty hi hk in
          let v = used_at-put h cs q l (Node z) hq' hl' in
          let w : weight_of (slot_in bs i k) ≡ 1 = ap weight_of e in
          omega (arith, u, v, only_at_is h hh, ap (only_at h hh) w, ap (only_at h (block_in cs q).height) wc, only_at_none h hh (weight_of Empty) refl);
      parent_in = hi;
      parent_height = sym ld.height;
    }
