-- A root with no used slot is a tree of any height.
use Rattle.std.proofs.Common.{◌≡◌, ℕ, suc, zero, ◌+◌, ◌-◌, ◌%◌, ◌^◌, ◌<◌, ◌≤◌, List, [], ◌∷◌, ◌++◌, Option, Some, None, refl, ap, sym, subst, ◌∙◌, arith}
use Rattle.cc_vacb.specs.declared.slots.Slot.TheVariants.{Empty}
use Rattle.cc_vacb.specs.Block.{Block, blank_block, used_slots}
use Rattle.cc_vacb.specs.Index.{block_in, slot_in, entry_in, entry_count_in, width_of}
use Rattle.cc_vacb.specs.Levels.{levels_of}
use Rattle.cc_vacb.specs.Tree.{IsTree, used_at, IsIndex}
use Rattle.cc_vacb.proofs.Put.{Node≢Empty, View≢Empty, Some≢None}
use Rattle.cc_vacb.proofs.Count.{only_at_none, count_in-used}
use Rattle.cc_vacb.proofs.Child.{IsBlank, blank-is}
use Rattle.cc_vacb.proofs.Bound.{none_at, used_at-cons, used_at-nil}
use Rattle.cc_vacb.proofs.Walk.{holder}
use Rattle.cc_vacb.proofs.Sizes.{width_bound, width_deep}

alone_slot : (h p w : ℕ) (b : Block) → IsBlank b h p w → (x k : ℕ) → slot_in (b ∷ []) x k ≡ Empty
alone_slot h p w b blank zero k = blank.empty k
alone_slot h p w b blank (suc x) k = refl

pub alone_used : (g h p w : ℕ) (b : Block) → IsBlank b h p w → used_at g (b ∷ []) ≡ 0
alone_used g h p w b blank = omega (arith, used_at-cons g b [], used_at-nil g, only_at_none g b.height (used_slots b) blank.unused)

pub alone_tree : (top w : ℕ) (b : Block) → IsBlank b top 0 w → w ≤ 128 → (0 < top → w ≡ 128) → IsTree top (b ∷ [])
alone_tree top w b blank l d = record {
  some = omega arith;
  root_height = blank.height;
  root_prefix = blank.prefix;
  below_top = λ x g h. absurd (omega arith);
  leads = λ x k y e. absurd (Node≢Empty y (sym e ∙ alone_slot top 0 w b blank x k));
  has_parent = λ x g h. absurd (omega arith);
  views = λ x k v e. absurd (View≢Empty v (sym e ∙ alone_slot top 0 w b blank x k));
  wide = λ x g h. absurd (omega arith);
  root_wide = omega (arith, blank.width);
  deep = λ g. blank.width ∙ d g;
  counted = λ h g.
      omega (arith, alone_used (suc h) top 0 w b blank, (none_at h (b ∷ []) (λ x q e. alone_height top w b blank h g x q e)).0);
}
  where
    alone_height : (top w : ℕ) (b : Block) → IsBlank b top 0 w → (h : ℕ) → h < top → (x : ℕ) → x < 1 → (block_in (b ∷ []) x).height ≡ h → ⊥
    alone_height top w b blank h g zero q e = omega (arith, blank.height)
    alone_height top w b blank h g (suc x) q e = omega arith

pub alone_entry : (top w : ℕ) (b : Block) → IsBlank b top 0 w → IsTree top (b ∷ []) → (n : ℕ) → entry_in (b ∷ []) top n ≡ None
alone_entry top w b blank t n = none_of (entry_in (b ∷ []) top n) (λ v e.
    let h = holder top (b ∷ []) t n v e in
    View≢Empty v (sym h.1.slot ∙ alone_slot top 0 w b blank h.0 (n % 128)))
  where
    none_of : (o : Option ℕ) → ((v : ℕ) → o ≡ Some v → ⊥) → o ≡ None
    none_of None f = refl
    none_of (Some v) f = absurd (f v refl)

pub alone_index : (size : ℕ) (b : Block) → size < 2 ^ 64 → IsBlank b (levels_of size - 1) 0 (width_of size) → IsIndex size (b ∷ [])
alone_index size b l blank = record {
  tree = alone_tree (levels_of size - 1) (width_of size) b blank (width_bound size).1 (width_deep size);
  filled = λ x g h n. absurd (omega arith);
  width = blank.width;
  numbers = omega arith;
  fits = l;
  starts = λ n v e. absurd (Some≢None v (sym e ∙ alone_entry (levels_of size - 1) (width_of size) b blank (alone_tree (levels_of size - 1) (width_of size) b blank (width_bound size).1 (width_deep size)) n));
}

-- an index with one blank root
pub record IsBlankIndex (size : ℕ) (bs : List Block) : Type 0 where
  pub index : IsIndex size bs
  pub empty : (n : ℕ) → entry_in bs (levels_of size - 1) n ≡ None
  pub count : entry_count_in bs ≡ 0

pub blank_index : (size top width : ℕ) (b : Block) (old new : List Block) → size < 2 ^ 64 → old ≡ [] → new ≡ old ++ b ∷ [] → b ≡ blank_block top 0 width → top + 1 ≡ levels_of size → width ≡ width_of size → IsBlankIndex size new
blank_index size top width b old new l oe ne be te we =
    let t : top ≡ levels_of size - 1 = omega arith in
    let blank : IsBlank b (levels_of size - 1) 0 (width_of size) =
    subst (λ (c : Block). IsBlank c (levels_of size - 1) 0 (width_of size)) (sym (be ∙ ap (λ x. blank_block x 0 width) t ∙ ap (λ x. blank_block (levels_of size - 1) 0 x) we)) (blank-is (levels_of size - 1) 0 (width_of size)) in
    let index = alone_index size b l blank in
    subst (IsBlankIndex size) (sym (ne ∙ ap (λ (c : List Block). c ++ b ∷ []) oe)) (record {
      index = index;
      empty = alone_entry (levels_of size - 1) (width_of size) b blank index.tree;
      count = count_in-used (b ∷ []) ∙ alone_used 0 (levels_of size - 1) 0 (width_of size) b blank;
    })
