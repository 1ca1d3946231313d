-- The hold of an id: where it stands, and what a change of it leaves.
use Rattle.std.proofs.Common.{◌≡◌, ℕ, ◌<◌, ◌≤◌, List, None, Some, IsSome, length, get_or, set, inl, inr, ap, ◌∙◌, sym, subst, refl, arith}
use Rattle.std.proofs.lemmas.Bool.{cases_lt}
use Rattle.std.proofs.lemmas.Option.{slice_get_past, slice_get-get_or}
use Rattle.std.proofs.lemmas.List.Folds.{find_at}
use Rattle.std.specs.List.{position_or_len, find}
use Rattle.cc_holds.specs.Holds.{hold_of, has_id, Changes}
use Rattle.cc_holds.specs.declared.holds.KeptHold.{KeptHold}

pub hold-absent : (holds : List KeptHold) (id place : ℕ) → place ≡ position_or_len (has_id id) holds → length holds ≤ place → hold_of holds id ≡ None
hold-absent holds id place at past = find_at (has_id id) holds ∙ slice_get_past holds (position_or_len (has_id id) holds) (omega arith)

pub hold-present : (holds : List KeptHold) (id place : ℕ) (d : KeptHold) → place ≡ position_or_len (has_id id) holds → place < length holds → hold_of holds id ≡ Some (get_or holds place d)
hold-present holds id place d at within =
    subst (λ k. find (has_id id) holds ≡ Some (get_or holds k d)) (sym at)
    (find_at (has_id id) holds ∙ slice_get-get_or holds (position_or_len (has_id id) holds) d (omega arith))

-- a hold that is there stands before the end
place-within : (holds : List KeptHold) (id place : ℕ) → place ≡ position_or_len (has_id id) holds → IsSome (hold_of holds id) → place < length holds
place-within holds id place at there = elim (cases_lt place (length holds)) [
  | inl within ↦ within
  | inr past ↦ absurd (cc (hold-absent holds id place at past, there))
]

Changes-set : (old : List KeptHold) (id place : ℕ) (x y : KeptHold) (f : KeptHold → KeptHold) → place ≡ position_or_len (has_id id) old → place < length old → y ≡ f (get_or old place x)
    → Changes old (set old place y) id f
Changes-set old id place x y f at within is =
    rw (hold-present old id place x at within) (rw (is, at) refl)

-- the place of an open hold as it was looked up in the holds that are shown, which are those that are kept
module _ (kept shown old : List KeptHold) (id place : ℕ) (at : place ≡ position_or_len (has_id id) shown) (same : shown ≡ kept) (is : kept ≡ old) (there : IsSome (hold_of old id)) where
  found : place ≡ position_or_len (has_id id) kept
  found = at ∙ ap (position_or_len (has_id id)) same

  pub found-within : place < length kept
  found-within = place-within kept id place found (subst (λ (holds : List KeptHold). IsSome (hold_of holds id)) (sym is) there)

  pub found-changes : (x y : KeptHold) (f : KeptHold → KeptHold) → x ≡ get_or kept place x → y ≡ f x → Changes old (set kept place y) id f
  found-changes x y f read changed =
      subst (λ (holds : List KeptHold). Changes holds (set kept place y) id f) is (Changes-set kept id place x y f found found-within (changed ∙ ap f read))
