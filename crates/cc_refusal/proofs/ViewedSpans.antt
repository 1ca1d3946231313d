-- The range of a read that may not wait, by its least page that is not resident.
use Rattle.std.specs.Prelude.{◌≡◌, ℕ, Bool, true, false, cond, not, ◌&&◌, List, [], ◌∷◌, if◌then◌else◌, refl}
use Rattle.std.specs.declared.option.Option.{Option}
use Rattle.std.specs.declared.option.Option.TheVariants.{Some, None}
use Rattle.std.specs.List.{find, list_all}
use Rattle.std.specs.Option.{option_map}
use Rattle.std.proofs.Common.{ap, sym, subst, ◌∙◌}
use Rattle.cc_entry.specs.Place.{File, Range}
use Rattle.cc_entry.specs.declared.call.Call.{Call}
use Rattle.cc_entry.specs.declared.call.Call.TheVariants as call
use Rattle.cc_entry.specs.Pages.{pages_of, blocks_of}
use Rattle.cc_model.specs.History.{Effect}
use Rattle.cc_model.specs.Touches.{size_of}
use Rattle.cc_model.specs.Ranges.{cut_range, range_of}
use Rattle.cc_model.specs.Residency.{is_resident, all_resident}
use Rattle.cc_model.specs.Views.{viewed}
use Rattle.cc_refusal.specs.Known.{IsLeastAbsent, HasSameBlocks}

-- whether there is no number
abbrev none_in : Option ℕ → Bool
none_in None = true
none_in (Some n) = false

-- each number passes a test exactly where no first one fails it
all_found : (test : ℕ → Bool) (ns : List ℕ) → list_all test ns ≡ none_in (find (λ n. not (test n)) ns)
all_found test [] = refl
all_found test (n ∷ ns) = go (test n) (all_found test ns)
  where
    go : (t : Bool) → list_all test ns ≡ none_in (find (λ n. not (test n)) ns) → (t && list_all test ns) ≡ none_in (cond (not t) (Some n) (find (λ n. not (test n)) ns))
    go true rest = rest
    go false rest = refl

read-viewed : (h : List Effect) (r : Range) (absent : Option ℕ) (span : Option Range) → absent ≡ find (λ p. not (is_resident h p)) (pages_of r) → (absent ≡ None → span ≡ None) → ((p : ℕ) → absent ≡ Some p → HasSameBlocks span (Some r)) → HasSameBlocks span (if all_resident h r then None else Some r)
read-viewed h r absent span is none some =
    go absent none some
    ∙ sym (ap (λ (b : Bool). option_map blocks_of (if b then None else Some r)) (all_found (is_resident h) (pages_of r) ∙ ap none_in (sym is)))
  where
    go : (o : Option ℕ) → (o ≡ None → span ≡ None) → ((p : ℕ) → o ≡ Some p → HasSameBlocks span (Some r)) → option_map blocks_of span ≡ option_map blocks_of (if none_in o then None else Some r)
    go None none some = ap (option_map blocks_of) (none refl)
    go (Some p) none some = some p refl

pub absent-viewed : (h : List Effect) (it : Call) (file : File) (size at len : ℕ) (absent : Option ℕ) (span : Option Range) → it ≡ call.CopyRead file at len false → size ≡ size_of h → IsLeastAbsent h it absent → (absent ≡ None → span ≡ None) → ((p : ℕ) → absent ≡ Some p → HasSameBlocks span (Some (cut_range size at len))) → HasSameBlocks span (viewed h it (range_of size it))
absent-viewed h it file size at len absent span is same least none some =
    let found = subst (λ (c : Call). IsLeastAbsent h c absent) is least in
    let there : absent ≡ find (λ p. not (is_resident h p)) (pages_of (cut_range size at len)) =
    found ∙ ap (λ (n : ℕ). find (λ p. not (is_resident h p)) (pages_of (cut_range n at len))) (sym same) in
    subst (λ (c : Call). HasSameBlocks span (viewed h c (range_of size c))) (sym is)
    (read-viewed h (cut_range size at len) absent span there none some)
