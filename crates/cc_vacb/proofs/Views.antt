-- A view is put or taken, and what its entry was.
use Rattle.std.proofs.Common.{◌≡◌, ◌≢◌, ℕ, ◌+◌, ◌*◌, ◌/◌, ◌%◌, ◌<◌, if◌then◌else◌, List, Option, Some, None, is_some, length, refl, ap, sym, subst, ◌∙◌, arith, inl, inr}
use Rattle.std.proofs.lemmas.Bool.{cases_eq}
use Rattle.cc_vacb.specs.declared.slots.Slot.{Slot}
use Rattle.cc_vacb.specs.declared.slots.Slot.TheVariants.{Empty, Node, View}
use Rattle.cc_vacb.specs.Slots.{view_of, weight_of}
use Rattle.cc_vacb.specs.Block.{Block, used_slots}
use Rattle.cc_vacb.specs.Index.{block_in, slot_in, entry_in, reach}
use Rattle.cc_vacb.specs.Tree.{IsTree, put_slot, FilledBut, used_at, ExtendsTo, TreeKept, PutsView, TakesView}
use Rattle.cc_vacb.proofs.Put.{slot-put_same, slot_in_width, length-put_slot, place-put_slot, View≢Empty, block-put_other}
use Rattle.cc_vacb.proofs.Count.{used_at-put, only_at_same, used_by}
use Rattle.cc_vacb.proofs.Reach.{entry_none, entry_some}
use Rattle.cc_vacb.proofs.Walk.{at_reach, entry_of_place, view_is}
use Rattle.cc_vacb.proofs.Mark.{mark_tree, mark_other, mark_here}

weight_leaf : (s : Slot) → ((y : ℕ) → s ≡ Node y → ⊥) → weight_of s ≡ (if is_some (view_of s) then 1 else 0)
weight_leaf Empty n = refl
weight_leaf (Node y) n = absurd (n y refl)
weight_leaf (View v) n = refl

-- the weight of a slot of a block of height 0, by the entry that it is
leaf_entry : (top : ℕ) (bs : List Block) (b x : ℕ) → IsTree top bs → x < length bs → (block_in bs x).height ≡ 0 → (block_in bs x).prefix ≡ b / 128 → weight_of (slot_in bs x (b % 128)) ≡ (if is_some (entry_in bs top b) then 1 else 0)
leaf_entry top bs b x t l h p =
    weight_leaf (slot_in bs x (b % 128)) (λ y e. omega (arith, (t.leads x (b % 128) y e).height, h))
    ∙ ap (λ o. if is_some o then 1 else 0) (sym (entry_of_place top bs t b x l h p))

one_or_none : (o : Option ℕ) → (if is_some o then 1 else 0) + (if is_some o then 0 else 1) ≡ 1
one_or_none None = refl
one_or_none (Some x) = refl

pub put_width : (top b : ℕ) (old mid : List Block) (x : ℕ) → ExtendsTo top top (b / 128) old mid x → (top ≡ 0 → b % 128 < length (block_in old 0).slots) → b % 128 < length (block_in mid x).slots
put_width top b old mid x m r =
    elim (cases_eq x 0) [
      | inl z ↦
          let h : top ≡ 0 = omega (arith, m.place.height, ap (λ y. (block_in mid y).height) z, m.tree.root_height) in
          omega (arith, r h, m.root, ap (λ y. length (block_in mid y).slots) z)
      | inr z ↦ omega (arith, m.tree.wide x (omega arith) m.place.inside)
    ]

pub put_view : (top b v : ℕ) (old mid new : List Block) (x : ℕ) → ExtendsTo top top (b / 128) old mid x → (top ≡ 0 → b % 128 < length (block_in old 0).slots) → new ≡ put_slot mid x (b % 128) (View v) → PutsView top b v old new
put_view top b v old mid new x m r e =
    let k = b % 128 in
    let l = m.place.inside in
    let w = put_width top b old mid x m r in
    let h : (block_in mid x).height ≡ 0 = omega (arith, m.place.height) in
    let t = mark_tree top mid x k (View v) m.tree l w h refl in
    let n : 128 * (block_in mid x).prefix + k ≡ b = omega (arith, m.place.prefix) in
    let u = used_at-put 0 mid x k (View v) l w in
    let one = one_or_none (entry_in mid top b) in
    subst (λ (c : List Block). PutsView top b v old c) (sym e) (record {
      tree = t;
      filled = λ y g q z. elim (cases_eq y x) [
        | inl c ↦
            let s = slot-put_same mid x k (View v) l w in
            let i = slot_in_width (put_slot mid x k (View v)) x k _ s (View≢Empty v) in
            omega (arith, used_by (block_in (put_slot mid x k (View v)) x) k i, ap weight_of s, ap (λ d. used_slots (block_in (put_slot mid x k (View v)) d)) c)
        | inr c ↦ omega (arith, m.filled y g (omega (arith, length-put_slot mid x k (View v))) c, ap used_slots (block-put_other mid x k (View v) y c))
      ];
      here = mark_here top mid x k (View v) b t l w (omega arith) h n;
      others = λ o c. mark_other top mid x k (View v) o m.tree t l (λ d. c (sym d ∙ n)) ∙ m.entries o;
      count =
          omega (arith, u, only_at_same 0 (block_in mid x).height (weight_of (slot_in mid x k)) h, only_at_same 0 (block_in mid x).height 1 h, leaf_entry top mid b x m.tree l h m.place.prefix, one, m.count)
          ∙ ap (λ o. used_at 0 old + (if is_some o then 0 else 1)) (m.entries b);
      len = omega (arith, length-put_slot mid x k (View v), m.len);
      root = (place-put_slot mid x k (View v) 0 l).width ∙ m.root;
    })

-- nothing is taken where there is no entry
pub take_none : (top b : ℕ) (bs : List Block) → IsTree top bs → FilledBut 0 bs → entry_in bs top b ≡ None → TakesView top b bs bs
take_none top b bs t f e = record {
  tree = t;
  filled = f;
  here = e;
  others = λ o c. refl;
  count = omega (arith, ap {B = ℕ} (λ o. if is_some o then 1 else 0) e);
  len = omega arith;
  root = refl;
}

-- the tree once the slot is empty
pub record Cleared (top b : ℕ) (old mid : List Block) (x : ℕ) : Type 0 where
  pub tree : IsTree top mid
  pub filled : FilledBut x mid
  pub inside : x < length mid
  pub here : entry_in mid top b ≡ None
  pub others : (o : ℕ) → o ≢ b → entry_in mid top o ≡ entry_in old top o
  pub count : used_at 0 mid + 1 ≡ used_at 0 old
  pub len : length mid ≡ length old
  pub root : length (block_in mid 0).slots ≡ length (block_in old 0).slots

pub cleared : (top b v : ℕ) (bs mid : List Block) (x : ℕ) → IsTree top bs → FilledBut 0 bs → reach bs top (b / 128) ≡ Some x → view_of (slot_in bs x (b % 128)) ≡ Some v → mid ≡ put_slot bs x (b % 128) Empty → Cleared top b bs mid x
cleared top b v bs mid x t f e s m =
    let k = b % 128 in
    let a = at_reach top bs t top (b / 128) x e in
    let l = a.inside in
    let h : (block_in bs x).height ≡ 0 = omega (arith, a.height) in
    let q : slot_in bs x k ≡ View v = view_is _ v s in
    let w = slot_in_width bs x k _ q (View≢Empty v) in
    let n : 128 * (block_in bs x).prefix + k ≡ b = omega (arith, a.prefix) in
    let u = mark_tree top bs x k Empty t l w h refl in
    let one : weight_of (slot_in bs x k) ≡ 1 = ap weight_of q in
    subst (λ (c : List Block). Cleared top b bs c x) (sym m) (record {
      tree = u;
      filled = λ y g i z. omega (arith, f y g (omega (arith, length-put_slot bs x k Empty)) (λ c. omega arith), ap used_slots (block-put_other bs x k Empty y z));
      inside = omega (arith, length-put_slot bs x k Empty);
      here = mark_here top bs x k Empty b u l w (omega arith) h n;
      others = λ o c. mark_other top bs x k Empty o t u l (λ d. c (sym d ∙ n));
      count = omega (arith, used_at-put 0 bs x k Empty l w, only_at_same 0 (block_in bs x).height (weight_of (slot_in bs x k)) h, only_at_same 0 (block_in bs x).height 0 h, one);
      len = length-put_slot bs x k Empty;
      root = (place-put_slot bs x k Empty 0 l).width;
    })

pub take_some : (top b v : ℕ) (bs mid new : List Block) (x : ℕ) → entry_in bs top b ≡ Some v → Cleared top b bs mid x → TreeKept top mid new → FilledBut 0 new → TakesView top b bs new
take_some top b v bs mid new x e c k f = record {
  tree = k.tree;
  filled = f;
  here = k.entries b ∙ c.here;
  others = λ o n. k.entries o ∙ c.others o n;
  count = omega (arith, ap {B = ℕ} (λ o. if is_some o then 1 else 0) e, k.count, c.count);
  len = omega (arith, k.len, c.len);
  root = k.root ∙ c.root;
}

-- the two looks of a take: for the block, and for its slot
pub look_none : (top b : ℕ) (bs ds : List Block) → ds ≡ bs → None ≡ reach ds top (b / 128) → entry_in bs top b ≡ None
look_none top b bs ds e f = entry_none bs top b (ap (λ (c : List Block). reach c top (b / 128)) (sym e) ∙ sym f)

pub look_some : (top b x : ℕ) (bs ds : List Block) → ds ≡ bs → Some x ≡ reach ds top (b / 128) → reach bs top (b / 128) ≡ Some x
look_some top b x bs ds e f = ap (λ (c : List Block). reach c top (b / 128)) (sym e) ∙ sym f

pub look_slot : (top b x : ℕ) (bs es : List Block) (s : Slot) (o : Option ℕ) → reach bs top (b / 128) ≡ Some x → es ≡ bs → s ≡ slot_in es x (b % 128) → o ≡ view_of s → view_of (slot_in bs x (b % 128)) ≡ o
look_slot top b x bs es s o r e f g = sym (g ∙ ap view_of (f ∙ ap (λ (c : List Block). slot_in c x (b % 128)) e))

pub look_entry : (top b x : ℕ) (bs : List Block) (o : Option ℕ) → reach bs top (b / 128) ≡ Some x → view_of (slot_in bs x (b % 128)) ≡ o → entry_in bs top b ≡ o
look_entry top b x bs o r e = entry_some bs top b x r ∙ e
