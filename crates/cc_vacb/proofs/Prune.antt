-- What the functions that remove a block find and leave.
use Rattle.std.proofs.Common.{◌≡◌, ◌≢◌, ℕ, ◌-◌, ◌/◌, ◌%◌, ◌<◌, List, Option, Some, None, length, ap, sym, subst, ◌∙◌, arith}
use Rattle.std.specs.List.{swap_remove}
use Rattle.cc_vacb.specs.declared.slots.Slot.TheVariants.{Empty, Node}
use Rattle.cc_vacb.specs.Block.{Block, used_slots}
use Rattle.cc_vacb.specs.Index.{block_in, slot_in, reach}
use Rattle.cc_vacb.specs.Tree.{IsTree, IsAt, put_slot, FilledBut, Relinked, RemovesBlock, now_at}
use Rattle.cc_vacb.proofs.Put.{node_in_range, Node≢Empty, Some≢None}
use Rattle.cc_vacb.proofs.Walk.{reach_at}
use Rattle.cc_vacb.proofs.Unlink.{unlinked_last, unlinked_moved}
use Rattle.cc_vacb.proofs.Removed.{moved, moved_kept, moved_filled, moved_parent_in}

-- the walk to the place above a block, as it is made from the block's own height and prefix
pub looked_above : (bs : List Block) (top : ℕ) (b c : Block) (h p : ℕ) (o : Option ℕ) → o ≡ reach bs (top - h - 1) (p / 128) → h ≡ b.height → p ≡ b.prefix → b ≡ c → reach bs (top - c.height - 1) (c.prefix / 128) ≡ o
looked_above bs top b c h p o e eh ep ec =
    sym (e
    ∙ ap (λ x. reach bs (top - x - 1) (p / 128)) (eh ∙ ap (λ (z : Block). z.height) ec)
    ∙ ap (λ x. reach bs (top - c.height - 1) (x / 128)) (ep ∙ ap (λ (z : Block). z.prefix) ec))

pub parent_reached : (top : ℕ) (bs : List Block) (x : ℕ) → IsTree top bs → 0 < x → x < length bs → (y : ℕ) × (reach bs (top - (block_in bs x).height - 1) ((block_in bs x).prefix / 128) ≡ Some y) × (slot_in bs y ((block_in bs x).prefix % 128) ≡ Node x)
parent_reached top bs x t g l =
    let o = t.has_parent x g l in
    let d = t.leads o.0 _ x o.1 in
    let a : IsAt top bs (top - (block_in bs x).height - 1) ((block_in bs x).prefix / 128) o.0 = record {
      inside = node_in_range bs o.0 _ _ o.1 (Node≢Empty x);
      height = omega (arith, d.height, t.below_top x g l);
      prefix = omega (arith, d.prefix);
    } in
    (o.0, reach_at top bs t _ _ o.0 a, o.1)

pub parent_some : (top : ℕ) (bs : List Block) (x : ℕ) → IsTree top bs → 0 < x → x < length bs → reach bs (top - (block_in bs x).height - 1) ((block_in bs x).prefix / 128) ≡ None → ⊥
parent_some top bs x t g l e =
    let p = parent_reached top bs x t g l in
    Some≢None p.0 (sym p.1 ∙ e)

same_some : (x y : ℕ) → Some x ≡ Some y → x ≡ y
same_some x y e = cc

pub parent_leads : (top : ℕ) (bs : List Block) (x y : ℕ) → IsTree top bs → 0 < x → x < length bs → reach bs (top - (block_in bs x).height - 1) ((block_in bs x).prefix / 128) ≡ Some y → slot_in bs y ((block_in bs x).prefix % 128) ≡ Node x
parent_leads top bs x y t g l e =
    let p = parent_reached top bs x t g l in
    ap (λ z. slot_in bs z ((block_in bs x).prefix % 128)) (same_some y p.0 (sym e ∙ p.1)) ∙ p.2

pub unlink_last : (top : ℕ) (bs ds new : List Block) (z i p m : ℕ) → IsTree top bs → ds ≡ bs → slot_in ds i ((block_in ds z).prefix % 128) ≡ Node z → p ≡ (block_in bs z).prefix → new ≡ put_slot bs i (p % 128) Empty → z ≡ m → Relinked z m i bs new
unlink_last top bs ds new z i p m t e s ep en em =
    let f : slot_in bs i (p % 128) ≡ Node z =
    ap (λ x. slot_in bs i (x % 128)) ep ∙ ap (λ (c : List Block). slot_in c i ((block_in c z).prefix % 128)) (sym e) ∙ s in
    subst (λ x. Relinked z x i bs new) em (subst (λ (c : List Block). Relinked z z i bs c) (sym en) (unlinked_last top bs z i (p % 128) t f))

pub unlink_moved : (top : ℕ) (bs ds es cs new : List Block) (z i p m n q r : ℕ) → IsTree top bs → ds ≡ bs → es ≡ bs → slot_in ds i ((block_in ds z).prefix % 128) ≡ Node z → p ≡ (block_in bs z).prefix → slot_in es q ((block_in es m).prefix % 128) ≡ Node m → r ≡ (block_in bs m).prefix → cs ≡ put_slot bs i (p % 128) Empty → new ≡ put_slot cs q (r % 128) (Node z) → z ≢ m → m ≡ n → Relinked z n i bs new
unlink_moved top bs ds es cs new z i p m n q r t e e' s ep s' er ec en ne em =
    let f : slot_in bs i (p % 128) ≡ Node z =
    ap (λ x. slot_in bs i (x % 128)) ep ∙ ap (λ (c : List Block). slot_in c i ((block_in c z).prefix % 128)) (sym e) ∙ s in
    let g : slot_in bs q (r % 128) ≡ Node m =
    ap (λ x. slot_in bs q (x % 128)) er ∙ ap (λ (c : List Block). slot_in c q ((block_in c m).prefix % 128)) (sym e') ∙ s' in
    let w : new ≡ put_slot (put_slot bs i (p % 128) Empty) q (r % 128) (Node z) = en ∙ ap (λ (c : List Block). put_slot c q (r % 128) (Node z)) ec in
    subst (λ x. Relinked z x i bs new) em (subst (λ (c : List Block). Relinked z m i bs c) (sym w) (unlinked_moved top bs z i (p % 128) m q (r % 128) t (λ k. ne (sym k)) f g))

pub removes : (top : ℕ) (bs ls new : List Block) (z i n : ℕ) (d : Block) → IsTree top bs → FilledBut z bs → 0 < z → z < length bs → used_slots (block_in bs z) ≡ 0 → Relinked z (length bs - 1) i bs ls → new ≡ swap_remove ls z d → n ≡ now_at z (length bs - 1) i → RemovesBlock top bs new n
removes top bs ls new z i n d t f g l u r e en =
    let v = moved top bs ls z i d g l u r in
    subst (λ (c : List Block). RemovesBlock top bs c n) (sym e) (subst (λ x. RemovesBlock top bs (swap_remove ls z d) x) (sym en) (record {
      kept = moved_kept top z _ i bs _ t v;
      parent_in = moved_parent_in z _ i bs _ v;
      filled = moved_filled z _ i bs _ v f;
      shorter = omega (arith, v.len, v.old_len);
    }))
