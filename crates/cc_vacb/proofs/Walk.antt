-- What a walk along digits reaches in a tree: the block of that place, and no other.
use Rattle.std.proofs.Common.{◌≡◌, ◌≢◌, ℕ, suc, zero, ◌+◌, ◌-◌, ◌/◌, ◌%◌, ◌<◌, ◌≤◌, ◌==◌, if◌then◌else◌, eqb, false, List, Option, Some, None, length, refl, ap, sym, ◌∙◌, arith, inl, inr}
use Rattle.std.proofs.lemmas.Bool.{cases_eq, cond-false, ne_eqb}
use Rattle.std.specs.Prelude.{option_and_then}
use Rattle.cc_vacb.specs.declared.slots.Slot.{Slot}
use Rattle.cc_vacb.specs.declared.slots.Slot.TheVariants.{Empty, Node, View}
use Rattle.cc_vacb.specs.Slots.{child_of, view_of}
use Rattle.cc_vacb.specs.Block.{Block}
use Rattle.cc_vacb.specs.Index.{reach, block_in, slot_in, entry_in}
use Rattle.cc_vacb.specs.Tree.{IsTree, IsAt}
use Rattle.cc_vacb.proofs.Reach.{entry_some}
use Rattle.cc_vacb.proofs.Put.{node_in_range, slot_in_width, Node≢Empty}

pub child_is : (s : Slot) (y : ℕ) → child_of s ≡ Some y → s ≡ Node y
child_is Empty y e = cc
child_is (Node n) y e = cc
child_is (View v) y e = cc

pub view_is : (s : Slot) (v : ℕ) → view_of s ≡ Some v → s ≡ View v
view_is Empty y e = cc
view_is (Node n) y e = cc
view_is (View v) y e = cc

pub and_then_some : {A B : Type 0} (o : Option A) (f : A → Option B) (y : B) → option_and_then f o ≡ Some y → (x : A) × (o ≡ Some x) × (f x ≡ Some y)
and_then_some None f y e = cc
and_then_some (Some x) f y e = (x, refl, e)

None≢Some : (x : ℕ) → None ≡ Some x → ⊥
None≢Some x e = cc

-- what the root's case of a walk says
pub root_reached : (p x : ℕ) → (if p == 0 then Some 0 else None) ≡ Some x → (p ≡ 0) × (x ≡ 0)
root_reached zero x e = (refl, cc)
root_reached (suc p) x e =
    let q : eqb (suc p) 0 ≡ false = ne_eqb (suc p) 0 (λ h. omega arith) in
    let f : None ≡ Some x = sym (cond-false (eqb (suc p) 0) (Some 0) None q) ∙ e in
    absurd (None≢Some x f)

-- a walk ends at a block of that place
pub at_reach : (top : ℕ) (bs : List Block) → IsTree top bs → (d p x : ℕ) → reach bs d p ≡ Some x → IsAt top bs d p x
unfolding reach
at_reach top bs t zero p x e =
    let r = root_reached p x e in
    let z : x ≡ 0 = r.1 in
    let i : x < length bs = omega (arith, t.some) in
    record {
      inside = i;
      height = ap (λ n. (block_in bs n).height + 0) z ∙ omega (arith, t.root_height);
      prefix = ap (λ n. (block_in bs n).prefix) z ∙ t.root_prefix ∙ sym r.0;
    }
at_reach top bs t (suc d) p x e =
    let r = and_then_some (reach bs d (p / 128)) (λ node. child_of (slot_in bs node (p % 128))) x e in
    let a = at_reach top bs t d (p / 128) r.0 r.1 in
    let l = t.leads r.0 (p % 128) x (child_is _ x r.2) in
    record {
      inside = l.below;
      height = omega (arith, l.height, a.height);
      prefix = omega (arith, l.prefix, a.prefix);
    }

-- a block is reached by its own place
pub reach_at : (top : ℕ) (bs : List Block) → IsTree top bs → (d p x : ℕ) → IsAt top bs d p x → reach bs d p ≡ Some x
unfolding reach
reach_at top bs t zero p x a =
    elim (cases_eq x 0) [
      | inl e ↦
          let p0 : p ≡ 0 = sym a.prefix ∙ ap (λ n. (block_in bs n).prefix) e ∙ t.root_prefix in
          ap (λ n. if n == 0 then Some 0 else None) p0 ∙ ap Some (sym e)
      | inr n ↦ absurd (omega (arith, t.below_top x (omega arith) a.inside, a.height))
    ]
reach_at top bs t (suc d) p x a =
    elim (cases_eq x 0) [
      | inl e ↦ absurd (omega (arith, a.height, ap (λ n. (block_in bs n).height) e, t.root_height))
      | inr n ↦
          let h = t.has_parent x (omega arith) a.inside in
          let l = t.leads h.0 ((block_in bs x).prefix % 128) x h.1 in
          let b : IsAt top bs d (p / 128) h.0 = record {
            inside = node_in_range bs h.0 _ _ h.1 (Node≢Empty x);
            height = omega (arith, l.height, a.height);
            prefix = omega (arith, l.prefix, a.prefix);
          } in
          let s : slot_in bs h.0 (p % 128) ≡ Node x = ap (λ q. slot_in bs h.0 (q % 128)) (sym a.prefix) ∙ h.1 in
          ap (λ o. option_and_then (λ node. child_of (slot_in bs node (p % 128))) o) (reach_at top bs t d (p / 128) h.0 b)
          ∙ ap child_of s
    ]

-- two blocks of one place are one
pub same_place : (top : ℕ) (bs : List Block) → IsTree top bs → (x y : ℕ) → x < length bs → y < length bs → (block_in bs x).height ≡ (block_in bs y).height → (block_in bs x).prefix ≡ (block_in bs y).prefix → x ≡ y
same_place top bs t x y hx hy h p =
    let top_x : (block_in bs x).height ≤ top = elim (cases_eq x 0) [
      | inl e ↦ omega (arith, ap (λ n. (block_in bs n).height) e, t.root_height)
      | inr n ↦ omega (arith, t.below_top x (omega arith) hx)
    ] in
    let d = top - (block_in bs x).height in
    let rx = reach_at top bs t d (block_in bs x).prefix x (record { inside = hx; height = omega arith; prefix = refl }) in
    let ry = reach_at top bs t d (block_in bs x).prefix y (record { inside = hy; height = omega arith; prefix = sym p }) in
    let e : Some x ≡ Some y = sym rx ∙ ry in
    cc

-- a block is led to by one slot
pub same_parent : (top : ℕ) (bs : List Block) → IsTree top bs → (x i y j z : ℕ) → slot_in bs x i ≡ Node z → slot_in bs y j ≡ Node z → i < 128 → j < 128 → (x ≡ y) × (i ≡ j)
same_parent top bs t x i y j z e f hi hj =
    let lx = t.leads x i z e in
    let ly = t.leads y j z f in
    let p : (block_in bs x).prefix ≡ (block_in bs y).prefix = omega (arith, lx.prefix, ly.prefix) in (
      same_place top bs t x y (node_in_range bs x i _ e (Node≢Empty z)) (node_in_range bs y j _ f (Node≢Empty z)) (omega (arith, lx.height, ly.height)) p,
      omega (arith, lx.prefix, ly.prefix),
    )

pub digit_in : (top : ℕ) (bs : List Block) → IsTree top bs → (x i : ℕ) (s : Slot) → slot_in bs x i ≡ s → s ≢ Empty → i < 128
digit_in top bs t x i s e n =
    let w = slot_in_width bs x i s e n in
    elim (cases_eq x 0) [
      | inl z ↦ omega (arith, w, t.root_wide, ap (λ m. length (block_in bs m).slots) z)
      | inr z ↦ omega (arith, w, t.wide x (omega arith) (node_in_range bs x i s e n))
    ]

-- an entry is a view in the block of height 0 that covers it
pub record Holds (bs : List Block) (b v x : ℕ) : Type 0 where
  pub inside : x < length bs
  pub height : (block_in bs x).height ≡ 0
  pub prefix : (block_in bs x).prefix ≡ b / 128
  pub slot : slot_in bs x (b % 128) ≡ View v

pub holder : (top : ℕ) (bs : List Block) → IsTree top bs → (b v : ℕ) → entry_in bs top b ≡ Some v → (x : ℕ) × Holds bs b v x
unfolding entry_in
holder top bs t b v e =
    let r = and_then_some (reach bs top (b / 128)) (λ node. view_of (slot_in bs node (b % 128))) v e in
    let a = at_reach top bs t top (b / 128) r.0 r.1 in
    (r.0, record { inside = a.inside; height = omega (arith, a.height); prefix = a.prefix; slot = view_is _ v r.2 })

pub entry_held : (top : ℕ) (bs : List Block) → IsTree top bs → (b v x : ℕ) → Holds bs b v x → entry_in bs top b ≡ Some v
unfolding entry_in
entry_held top bs t b v x h =
    ap (λ o. option_and_then (λ node. view_of (slot_in bs node (b % 128))) o) (reach_at top bs t top (b / 128) x (record { inside = h.inside; height = omega (arith, h.height); prefix = h.prefix }))
    ∙ ap view_of h.slot

pub entry_of_place : (top : ℕ) (bs : List Block) → IsTree top bs → (b x : ℕ) → x < length bs → (block_in bs x).height ≡ 0 → (block_in bs x).prefix ≡ b / 128 → entry_in bs top b ≡ view_of (slot_in bs x (b % 128))
entry_of_place top bs t b x h z p = entry_some bs top b x (reach_at top bs t top (b / 128) x (record { inside = h; height = omega (arith, z); prefix = p }))

pub same_options : (o q : Option ℕ) → ((v : ℕ) → o ≡ Some v → q ≡ Some v) → ((v : ℕ) → q ≡ Some v → o ≡ Some v) → o ≡ q
same_options None None f g = refl
same_options None (Some y) f g = g y refl
same_options (Some x) q f g = sym (f x refl)
