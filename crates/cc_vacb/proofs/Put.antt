-- What a write to one slot, or one more block at the end, leaves.
use Rattle.std.proofs.Common.{◌≡◌, ◌≢◌, ℕ, ◌<◌, List, [], ◌∷◌, ◌++◌, length, get_or, set, refl, ap, sym, ◌∙◌, inl, inr, Some, None}
use Rattle.std.proofs.lemmas.List.{get_or-set_same, get_or-set_other, length-set, get_or_append_left, get_or_push, get_or_past}
use Rattle.std.proofs.lemmas.Bool.{cases_eq, cases_lt}
use Rattle.std.specs.Prelude.{◌⊎◌}
use Rattle.cc_vacb.specs.declared.slots.Slot.{Slot}
use Rattle.cc_vacb.specs.declared.slots.Slot.TheVariants.{Empty, Node, View}
use Rattle.cc_vacb.specs.Block.{Block, no_block}
use Rattle.cc_vacb.specs.Index.{block_in, slot_in}
use Rattle.cc_vacb.specs.Tree.{put_slot, SamePlace}

pub length-put_slot : (bs : List Block) (i k : ℕ) (s : Slot) → length (put_slot bs i k s) ≡ length bs
length-put_slot bs i k s = length-set bs i _

pub block-put_same : (bs : List Block) (i k : ℕ) (s : Slot) → i < length bs → block_in (put_slot bs i k s) i ≡ record (block_in bs i) { slots = set (block_in bs i).slots k s }
block-put_same bs i k s h = get_or-set_same bs i _ _ h

pub block-put_other : (bs : List Block) (i k : ℕ) (s : Slot) (x : ℕ) → x ≢ i → block_in (put_slot bs i k s) x ≡ block_in bs x
block-put_other bs i k s x n = get_or-set_other bs i x _ _ n

pub place-put_slot : (bs : List Block) (i k : ℕ) (s : Slot) (x : ℕ) → i < length bs → SamePlace (block_in bs x) (block_in (put_slot bs i k s) x)
place-put_slot bs i k s x h =
    elim (cases_eq x i) [
      | inl e ↦
          let b = block-put_same bs i k s h in
          let g : block_in (put_slot bs i k s) x ≡ record (block_in bs i) { slots = set (block_in bs i).slots k s } = ap (λ z. block_in (put_slot bs i k s) z) e ∙ b in
          let o : block_in bs x ≡ block_in bs i = ap (λ z. block_in bs z) e in
          record {
            height = ap (λ (z : Block). z.height) g ∙ sym (ap (λ (z : Block). z.height) o);
            prefix = ap (λ (z : Block). z.prefix) g ∙ sym (ap (λ (z : Block). z.prefix) o);
            width = ap (λ (z : Block). length z.slots) g ∙ length-set (block_in bs i).slots k s ∙ sym (ap (λ (z : Block). length z.slots) o);
          }
      | inr n ↦
          let g = block-put_other bs i k s x n in
          record { height = ap (λ (z : Block). z.height) g; prefix = ap (λ (z : Block). z.prefix) g; width = ap (λ (z : Block). length z.slots) g }
    ]

pub slot-put_same : (bs : List Block) (i k : ℕ) (s : Slot) → i < length bs → k < length (block_in bs i).slots → slot_in (put_slot bs i k s) i k ≡ s
slot-put_same bs i k s h w = ap (λ (z : Block). get_or z.slots k Empty) (block-put_same bs i k s h) ∙ get_or-set_same (block_in bs i).slots k s Empty w

pub slot-put_other : (bs : List Block) (i k : ℕ) (s : Slot) (x y : ℕ) → i < length bs → (x ≡ i → y ≡ k → ⊥) → slot_in (put_slot bs i k s) x y ≡ slot_in bs x y
slot-put_other bs i k s x y h n =
    elim (cases_eq x i) [
      | inl e ↦
          ap (λ z. slot_in (put_slot bs i k s) z y) e
          ∙ ap (λ (z : Block). get_or z.slots y Empty) (block-put_same bs i k s h)
          ∙ get_or-set_other (block_in bs i).slots k y s Empty (n e)
          ∙ sym (ap (λ z. slot_in bs z y) e)
      | inr m ↦ ap (λ (z : Block). get_or z.slots y Empty) (block-put_other bs i k s x m)
    ]

pub slot_cases : (x i y k : ℕ) → ((x ≡ i) × (y ≡ k)) ⊎ (x ≡ i → y ≡ k → ⊥)
slot_cases x i y k =
    elim (cases_eq x i) [
      | inl e ↦ elim (cases_eq y k) [ inl f ↦ inl (e, f) | inr m ↦ inr (λ _ g. m g) ]
      | inr m ↦ inr (λ g _. m g)
    ]

-- a slot that is not empty is the slot of a block
pub node_in_range : (bs : List Block) (x k : ℕ) (s : Slot) → slot_in bs x k ≡ s → s ≢ Empty → x < length bs
node_in_range bs x k s e n =
    elim (cases_lt x (length bs)) [
      | inl h ↦ h
      | inr h ↦ absurd (n (sym e ∙ ap (λ (z : Block). get_or z.slots k Empty) (get_or_past bs x no_block h)))
    ]

pub slot_in_width : (bs : List Block) (x k : ℕ) (s : Slot) → slot_in bs x k ≡ s → s ≢ Empty → k < length (block_in bs x).slots
slot_in_width bs x k s e n =
    elim (cases_lt k (length (block_in bs x).slots)) [
      | inl h ↦ h
      | inr h ↦ absurd (n (sym e ∙ get_or_past (block_in bs x).slots k Empty h))
    ]

pub block-push_old : (bs : List Block) (b : Block) (x : ℕ) → x < length bs → block_in (bs ++ b ∷ []) x ≡ block_in bs x
block-push_old bs b x h = get_or_append_left bs (b ∷ []) _ x h

pub block-push_new : (bs : List Block) (b : Block) → block_in (bs ++ b ∷ []) (length bs) ≡ b
block-push_new bs b = get_or_push bs b _ (length bs) refl

pub Node≢Empty : (n : ℕ) → Node n ≢ Empty
Node≢Empty n e = cc

pub View≢Empty : (n : ℕ) → View n ≢ Empty
View≢Empty n e = cc

pub Node≢View : (n v : ℕ) → Node n ≢ View v
Node≢View n v e = cc

pub Some≢None : (n : ℕ) → Some n ≡ None → ⊥
Some≢None n e = cc
