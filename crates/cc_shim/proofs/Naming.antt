-- Where a name stands among names.
use Rattle.std.specs.Prelude.{◌≡◌, ℕ, zero, suc, ◌+◌, ◌<◌, ◌≤◌, Bool, true, false, cond, List, [], ◌∷◌, map, length, bytes_eq, slice_get, IfSome, IsSome, IsTrue, ◌-◌, drop, get_or, take, ◌↔◌, refl}
use Rattle.std.specs.declared.option.Option.{Option}
use Rattle.std.specs.declared.option.Option.TheVariants.{Some, None}
use Rattle.std.specs.List.{AllByRecursion, position, position_from}
use Rattle.std.proofs.Common.{ap, sym, ◌∙◌, subst, arith}
use Rattle.std.proofs.lemmas.List.{length-map, take_all}
use Rattle.std.proofs.lemmas.Iterator.Adapters.{position_from-zero}
use Rattle.std.proofs.lemmas.Option.{slice_get_within}
use Rattle.std.proofs.lemmas.Slice.Eq.{bytes_eq-Decides}
use Rattle.cc_entry.specs.Place.{File}
use Rattle.cc_shim.specs.Names.{StreamIsNamed, are_apart}

module _ {X : Type 0} (bytes_of : X → List ℕ) (name : List ℕ) where
  abbrev is_it : X → Bool
  is_it other = bytes_eq (bytes_of other) name

  found-here : (b : Bool) (i j : ℕ) (x : X) (names : List X) → is_it x ≡ b → cond b (Some i) (position_from is_it (i + 1) names) ≡ Some j → (position_from is_it (i + 1) names ≡ Some j → (k : ℕ) × (j ≡ i + 1 + k) × (slice_get (map bytes_of names) k ≡ Some name)) → (k : ℕ) × (j ≡ i + k) × (slice_get (map bytes_of (x ∷ names)) k ≡ Some name)
  found-here true i j x names same found rest =
      let here : i ≡ j = cc in
      (0, omega (arith, here), ap Some ((bytes_eq-Decides (bytes_of x) name).0 same))
  found-here false i j x names other found rest =
      let r = rest found in
      (suc r.0, omega (arith, r.1), r.2)

  found-from : (i j : ℕ) (names : List X) → position_from is_it i names ≡ Some j → (k : ℕ) × (j ≡ i + k) × (slice_get (map bytes_of names) k ≡ Some name)
  found-from i j [] is = absurd (cc)
  found-from i j (x ∷ names) is = found-here (is_it x) i j x names refl is (λ found. found-from (i + 1) j names found)

  none-here : (b : Bool) (i : ℕ) (x : X) (names : List X) → is_it x ≡ b → cond b (Some i) (position_from is_it (i + 1) names) ≡ None → (position_from is_it (i + 1) names ≡ None → AllByRecursion (λ other. bytes_eq other name ≡ false) (map bytes_of names)) → AllByRecursion (λ other. bytes_eq other name ≡ false) (map bytes_of (x ∷ names))
  none-here true i x names same none rest = absurd (cc)
  none-here false i x names other none rest = (other, rest none)

  none-from : (i : ℕ) (names : List X) → position_from is_it i names ≡ None → AllByRecursion (λ other. bytes_eq other name ≡ false) (map bytes_of names)
  none-from i [] is = tt
  none-from i (x ∷ names) is = none-here (is_it x) i x names refl is (λ none. none-from (i + 1) names none)

  none-named : (names : List (List ℕ)) → AllByRecursion (λ other. bytes_eq other name ≡ false) names → (k : ℕ) → slice_get names k ≡ Some name → ⊥
  none-named [] all k is = absurd (cc)
  none-named (other ∷ names) all zero is =
      let same : other ≡ name = cc in
      let eq : bytes_eq other name ≡ true = subst (λ o. bytes_eq o name ≡ true) (sym same) ((bytes_eq-Decides name name).1 refl) in
      absurd (cc (eq, all.0))
  none-named (other ∷ names) all (suc k) is = none-named names all.1 k is

  -- the place that is found has the name
  pub found-named : (names : List X) (j : ℕ) → position is_it names ≡ Some j → slice_get (map bytes_of names) j ≡ Some name
  found-named names j is =
      let f = found-from 0 j names (sym (position_from-zero is_it names) ∙ is) in
      let same : f.0 ≡ j = omega (arith, f.1) in
      subst (λ (k : ℕ). slice_get (map bytes_of names) k ≡ Some name) same f.2

  pub found-within : (names : List X) (j : ℕ) → position is_it names ≡ Some j → j < length names
  found-within names j is = subst (λ (n : ℕ). j < n) (length-map names bytes_of) (slice_get_within (map bytes_of names) j name (found-named names j is))

  -- where none is found, no name is it
  pub not-found : (names : List X) → position is_it names ≡ None → AllByRecursion (λ other. bytes_eq other name ≡ false) (map bytes_of names)
  not-found names is = none-from 0 names (sym (position_from-zero is_it names) ∙ is)

  pub not-named : (names : List X) → position is_it names ≡ None → StreamIsNamed (map bytes_of names) name → ⊥
  not-named names is named = none-named (map bytes_of names) (not-found names is) named.0 named.1

  -- what an open of the place that is found answers, and where none is found
  pub opened : (names : List X) (j object : ℕ) {T : Type 0} (r : Option T) → position is_it names ≡ Some j → j < 16 → (IsSome r ↔ ((j < 16) × (object < 16))) → IsSome r ↔ (StreamIsNamed (map bytes_of names) name × (object < 16))
  opened names j object r is small range = (
    λ some. ((j, found-named names j is), (range.0 some).1),
    λ both. range.1 (small, both.1),
  )

  pub unopened : (names : List X) (object : ℕ) {T : Type 0} (r : Option T) → position is_it names ≡ None → r ≡ None → IsSome r ↔ (StreamIsNamed (map bytes_of names) name × (object < 16))
  unopened names object r is none = (λ some. absurd (some-none r none some), λ both. absurd (not-named names is both.0))
    where
      some-none : {T : Type 0} (r : Option T) → r ≡ None → IsSome r → ⊥
      some-none None none some = absurd (cc some)
      some-none (Some x) none some = absurd (cc)

-- names that have a first one
pub first-split : {X : Type 0} (names : List X) (first : X) → 1 ≤ length names → first ≡ get_or names 0 first → names ≡ first ∷ take (length names - 1) (drop 1 names)
first-split [] first some is = absurd (omega (arith, some))
first-split (x ∷ names) first some is =
    let most : length names ≤ length (x ∷ names) - 1 = omega arith in
    ap (λ y. y ∷ names) (sym is) ∙ ap (λ l. first ∷ l) (sym (take_all (length (x ∷ names) - 1) names most))

-- the names are apart where the first is none of the rest, and the rest are
module _ {X : Type 0} (bytes_of : X → List ℕ) (first : X) (names rest : List X) (is : names ≡ first ∷ rest) where
  pub apart-first : (b : Bool) → position (λ other. bytes_eq (bytes_of other) (bytes_of first)) rest ≡ None → IsTrue b ↔ are_apart (map bytes_of rest) → IsTrue b ↔ are_apart (map bytes_of names)
  apart-first b none others =
      subst (λ (l : List X). IsTrue b ↔ are_apart (map bytes_of l)) (sym is)
      (λ t. (not-found bytes_of (bytes_of first) rest none, others.0 t), λ both. others.1 both.1)

  pub twice-first : (j : ℕ) → position (λ other. bytes_eq (bytes_of other) (bytes_of first)) rest ≡ Some j → IsTrue false ↔ are_apart (map bytes_of names)
  twice-first j found =
      subst (λ (l : List X). IsTrue false ↔ are_apart (map bytes_of l)) (sym is)
      (λ t. absurd (cc t), λ both. absurd (none-named bytes_of (bytes_of first) (map bytes_of rest) both.0 j (found-named bytes_of (bytes_of first) rest j found)))

-- the stream of what was opened has the name
pub named-file : (names : List (List ℕ)) (name : List ℕ) (j : ℕ) (r : Option File) → slice_get names j ≡ Some name → IfSome r (λ file. file.stream ≡ j) → IfSome r (λ file. slice_get names file.stream ≡ Some name)
named-file names name j None has is = tt
named-file names name j (Some file) has is = subst (λ (n : ℕ). slice_get names n ≡ Some name) (sym is) has
