-- The way to a block, with what was missing on it.
use Rattle.std.proofs.Common.{◌≡◌, ℕ, suc, zero, ◌-◌, ◌*◌, ◌/◌, ◌%◌, ◌<◌, ◌≤◌, ◌^◌, ◌==◌, List, [], ◌∷◌, ◌++◌, Some, None, length, refl, ap, sym, subst, ◌∙◌, arith, inl, inr}
use Rattle.std.proofs.lemmas.Bool.{cases_eq}
use Rattle.std.proofs.lemmas.Nat.{div_below}
use Rattle.std.specs.Prelude.{◌⊎◌, if◌then◌else◌}
use native.Mathlib.Numerals.{unary_clauses}
use Rattle.cc_vacb.specs.declared.slots.Slot.{Slot}
use Rattle.cc_vacb.specs.declared.slots.Slot.TheVariants.{Empty, Node, View}
use Rattle.cc_vacb.specs.Slots.{child_of}
use Rattle.cc_vacb.specs.Block.{Block, blank_block}
use Rattle.cc_vacb.specs.Index.{block_in, slot_in, reach}
use Rattle.cc_vacb.specs.Tree.{IsTree, put_slot, FilledBut, ExtendsTo}
use Rattle.cc_vacb.proofs.Put.{Some≢None, block-push_old}
use Rattle.cc_vacb.proofs.Reach.{reach_below_some, reach-root}
use Rattle.cc_vacb.proofs.Walk.{at_reach, reach_at}
use Rattle.cc_vacb.proofs.Child.{Fits, IsBlank, blank-is, with_child, added, child_tree, child_entry, child_count, child_filled}

pub slot_is : (s : Slot) → (s ≡ Empty) ⊎ (((n : ℕ) × (s ≡ Node n)) ⊎ ((v : ℕ) × (s ≡ View v)))
slot_is Empty = inl refl
slot_is (Node n) = inr (inl (n, refl))
slot_is (View v) = inr (inr (v, refl))

pub covered_below : (d p : ℕ) → 0 < d → p < 128 ^ d → p / 128 < 128 ^ (d - 1)
covered_below zero p l c = absurd (omega arith)
covered_below (suc d) p l c =
    let e : p < 128 ^ d * 128 = simp unary_clauses at c in
    simp unary_clauses (div_below p 128 (128 ^ d) (omega arith) e)

-- at depth 0 only the root is asked for, and it is found
pub deeper : (bs : List Block) (d p : ℕ) → p < 128 ^ d → reach bs d p ≡ None → 0 < d
deeper bs zero p c e =
    let z : p ≡ 0 = omega (arith, simp unary_clauses at c) in
    let r : (if p == 0 then Some 0 else None) ≡ None = sym (reach-root bs 0 p refl) ∙ e in
    let s : (if 0 == 0 then Some 0 else None) ≡ None = sym (ap (λ n. if n == 0 then Some 0 else None) z) ∙ r in
    absurd (Some≢None 0 s)
deeper bs (suc d) p c e = omega arith

pub path_found : (top d p : ℕ) (old new : List Block) (x : ℕ) → new ≡ old → IsTree top old → FilledBut 0 old → reach old d p ≡ Some x → ExtendsTo top d p old new x
path_found top d p old new x e t f r =
    subst (λ (n : List Block). ExtendsTo top d p old n x) (sym e) (record {
      tree = t;
      place = at_reach top old t d p x r;
      entries = λ b. refl;
      count = refl;
      filled = λ y g l n. f y g l (λ z. omega arith);
      len = omega arith;
      root = refl;
      fresh = inl refl;
    })

parent_wide : (top : ℕ) (bs : List Block) (x : ℕ) → IsTree top bs → x < length bs → 0 < top → length (block_in bs x).slots ≡ 128
parent_wide top bs x t l g =
    elim (cases_eq x 0) [
      | inl z ↦ ap (λ y. length (block_in bs y).slots) z ∙ t.deep g
      | inr z ↦ t.wide x (omega arith) l
    ]

pub path_fits : (top d p : ℕ) (old mid : List Block) (x : ℕ) → 0 < d → d ≤ top → reach old d p ≡ None → ExtendsTo top (d - 1) (p / 128) old mid x → Fits top mid x (p % 128) (top - d) p
path_fits top d p old mid x g l e m =
    let a = m.place in
    let w = parent_wide top mid x m.tree a.inside (omega arith) in
    record {
      inside = a.inside;
      digit = omega arith;
      width = omega (arith, w);
      free = elim (slot_is (slot_in mid x (p % 128))) [
        | inl q ↦ q
        | inr r ↦ elim r [
          | inl q ↦ elim m.fresh [
            | inl s ↦
                let f = reach_at top mid m.tree (d - 1) (p / 128) x a in
                let h : reach mid d p ≡ Some q.0 = reach_below_some mid d p x g f ∙ ap child_of q.1 in
                absurd (Some≢None q.0 (sym h ∙ ap (λ (n : List Block). reach n d p) s ∙ e))
            | inr s ↦ s (p % 128)
          ]
          | inr q ↦ absurd (omega (arith, m.tree.views x (p % 128) q.0 q.1, a.height))
        ]
      ];
      height = omega (arith, a.height);
      prefix = omega (arith, a.prefix);
    }

pub path_added : (top d p : ℕ) (old mid new : List Block) (x : ℕ) (b : Block) → 0 < d → d ≤ top → reach old d p ≡ None → ExtendsTo top (d - 1) (p / 128) old mid x → b ≡ blank_block (top - d) p 128 → new ≡ with_child mid x (p % 128) b → ExtendsTo top d p old new (length mid)
path_added top d p old mid new x b g l e m be ne =
    let blank : IsBlank b (top - d) p 128 = subst (λ (c : Block). IsBlank c (top - d) p 128) (sym be) (blank-is (top - d) p 128) in
    let f = path_fits top d p old mid x g l e m in
    let k = p % 128 in
    let a = added top mid x k (top - d) p b f blank in
    subst (λ (n : List Block). ExtendsTo top d p old n (length mid)) (sym ne) (record {
      tree = child_tree top mid x k (top - d) p b m.tree f blank;
      place = record {
        inside = omega (arith, a.len);
        height = omega (arith, ap (λ (z : Block). z.height) a.child, blank.height);
        prefix = ap (λ (z : Block). z.prefix) a.child ∙ blank.prefix;
      };
      entries = λ n. child_entry top mid x k (top - d) p b m.tree f blank n ∙ m.entries n;
      count = child_count top mid x k (top - d) p b f blank ∙ m.count;
      filled = child_filled top mid x k (top - d) p b f blank m.filled;
      len = omega (arith, a.len, m.len);
      root = (a.place 0 m.tree.some).width ∙ m.root;
      fresh = inr a.empty;
    })

pub path_step : (top d p n : ℕ) (old mid pushed new : List Block) (x : ℕ) (b : Block) → 0 < d → d ≤ top → reach old d p ≡ None → ExtendsTo top (d - 1) (p / 128) old mid x → b ≡ blank_block (top - d) p 128 → pushed ≡ mid ++ b ∷ [] → new ≡ put_slot pushed x (p % 128) (Node n) → n ≡ length mid → ExtendsTo top d p old new n
path_step top d p n old mid pushed new x b g l e m be pe ne le =
    let q : new ≡ with_child mid x (p % 128) b = ne ∙ ap (λ (c : List Block). put_slot c x (p % 128) (Node n)) pe ∙ ap (λ z. put_slot (mid ++ b ∷ []) x (p % 128) (Node z)) le in
    subst (λ z. ExtendsTo top d p old new z) (sym le) (path_added top d p old mid new x b g l e m be q)

pub path_width : (top d p : ℕ) (old mid pushed : List Block) (x : ℕ) (b : Block) → 0 < d → d ≤ top → ExtendsTo top (d - 1) (p / 128) old mid x → pushed ≡ mid ++ b ∷ [] → p % 128 < length (block_in pushed x).slots
path_width top d p old mid pushed x b g l m pe =
    let w = parent_wide top mid x m.tree m.place.inside (omega arith) in
    let s : block_in pushed x ≡ block_in mid x = ap (λ (c : List Block). block_in c x) pe ∙ block-push_old mid b x m.place.inside in
    omega (arith, w, ap (λ (z : Block). length z.slots) s)
