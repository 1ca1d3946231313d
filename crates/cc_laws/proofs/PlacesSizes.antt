-- The size and the valid data length by places.
use Rattle.std.specs.Prelude.{◌≡◌, ℕ, ◌+◌, ◌<◌, ◌≤◌, Bool, true, false, not, ◌&&◌, ◌||◌, ◌↔◌, nat_lt, nat_le, min, max, List, [], ◌∷◌, ◌++◌, length, refl}
use Rattle.std.specs.declared.option.Option.{Option}
use Rattle.std.specs.declared.option.Option.TheVariants.{Some, None}
use Rattle.std.proofs.Common.{ap, sym, ◌∙◌, arith}
use Rattle.std.proofs.lemmas.Bool.{or_parts, ltb-true, ltb-false, lt-ltb, le-ltb, le-leb, lt-leb}
use Rattle.cc_entry.specs.declared.place.FileSizes.{FileSizes}
use Rattle.cc_model.specs.History.{Effect, Did, CameIn, WentOut, Began, Ended, Synced}
use Rattle.cc_model.specs.Acts.{Act, act_of, Opens, Closes, Resizes, Writes, Zeroes, Stores, Stamps, Discards, Looks}
use Rattle.cc_model.specs.Objects.{objects, truncation}
use Rattle.cc_model.specs.Sizes.{Sizes, resized_by, stored_range}
use Rattle.cc_model.specs.Touches.{sizes, size_of, valid_of, is_mapped}
use Rattle.cc_laws.specs.ByPlaces.{some_effect, LastPlace, SincePlace}
use Rattle.cc_laws.specs.ByPlacesSizes.{act_sets, size_set, is_set, sets_size, sets_below, act_validates, validates, act_invalidates, invalidates}
use Rattle.cc_laws.proofs.ActSteps.{sizes_by, sizes-done}
use Rattle.cc_laws.proofs.PlacesLast.{some-first, since-place}

-- the size that is set, or else the one before
abbrev or_old : Option ℕ → ℕ → ℕ
or_old None old = old
or_old (Some to) old = to

step-size : (o : Option ℕ) (s : Sizes) → (resized_by o s).size ≡ or_old o s.size
step-size None s = refl
step-size (Some to) s = refl

-- the sizes after an initialise, by whether there is a map
abbrev made_by : Bool → FileSizes → Sizes → Sizes
made_by mapped given old = elim mapped [ true ↦ old | false ↦ record { size = given.size; valid = given.valid } ]

abbrev made_size : Bool → ℕ → Option ℕ
made_size mapped size = elim mapped [ true ↦ None | false ↦ Some size ]

open-size : (mapped : Bool) (given : FileSizes) (old : Sizes) → (made_by mapped given old).size ≡ or_old (made_size mapped given.size) old.size
open-size true given old = refl
open-size false given old = refl

act-size : (a : Act) (h : List Effect) → (sizes_by a h).size ≡ or_old (act_sets a h) (size_of h)
act-size (Opens file given quota temporary) h = open-size (is_mapped h) given (sizes h)
act-size (Closes file truncate) h = step-size (truncation (objects h) (size_of h) file truncate) (sizes h)
act-size (Resizes allocation size) h = refl
act-size (Writes at bytes) h = refl
act-size (Zeroes from to) h = refl
act-size (Stores page bytes) h = refl
act-size (Stamps hold lsn) h = refl
act-size (Discards span) h = refl
act-size Looks h = refl

size-effect : (e : Effect) (h : List Effect) → size_of (e ∷ h) ≡ or_old (size_set e h) (size_of h)
unfolding sizes
size-effect (Did pass call reply) h = ap (λ (s : Sizes). s.size) (sizes-done pass call reply h) ∙ act-size (act_of call) h
size-effect (CameIn pass page from_disk) h = refl
size-effect (WentOut pass page) h = refl
size-effect (Began pass page) h = refl
size-effect (Ended pass page how) h = refl
size-effect (Synced pass how) h = refl

old-kept : (o : Option ℕ) (old : ℕ) → is_set o ≡ false → or_old o old ≡ old
old-kept None old is = refl
old-kept (Some to) old is = absurd (cc)

old-set : (o : Option ℕ) (old : ℕ) → is_set o ≡ true → Some (or_old o old) ≡ o
old-set None old is = absurd (cc)
old-set (Some to) old is = refl

size-at : (later : List Effect) (e : Effect) (before : List Effect) → sets_size e before ≡ true → some_effect sets_size later (e ∷ before) ≡ false → Some (size_of (later ++ e ∷ before)) ≡ size_set e before
size-at [] e before is last = ap Some (size-effect e before) ∙ old-set (size_set e before) (size_of before) is
size-at (x ∷ later) e before is last =
    let k = or_parts (sets_size x (later ++ e ∷ before)) _ last in
    ap Some (size-effect x (later ++ e ∷ before) ∙ old-kept (size_set x (later ++ e ∷ before)) _ k.0) ∙ size-at later e before is k.1

-- the size is the last that was set
pub size-places : (h : List Effect) (k : LastPlace sets_size h) → Some (size_of h) ≡ size_set k.effect k.before
size-places h k = ap (λ (g : List Effect). Some (size_of g)) k.places ∙ size-at k.later k.effect k.before k.passes k.last

pub size-opening : (h : List Effect) → some_effect sets_size h [] ≡ false → size_of h ≡ 0
unfolding sizes
size-opening [] none = refl
size-opening (e ∷ h) none =
    let k = or_parts (sets_size e h) _ (sym (some-first sets_size e h) ∙ none) in
    size-effect e h ∙ old-kept (size_set e h) (size_of h) k.0 ∙ size-opening h k.1

-- a byte is valid since a place
lt-min : (i a b : ℕ) → nat_lt i (min a b) ≡ (not (nat_le b i) && nat_lt i a)
lt-min i a b = go (nat_lt i b) refl
  where
    go : (t : Bool) → nat_lt i b ≡ t → nat_lt i (min a b) ≡ (not (nat_le b i) && nat_lt i a)
    go true is = inner (nat_lt i a) refl ∙ sym (ap (λ t. not t && nat_lt i a) (lt-leb b i (ltb-true i b is)))
      where
        inner : (u : Bool) → nat_lt i a ≡ u → nat_lt i (min a b) ≡ nat_lt i a
        inner true low = let x : i < a = ltb-true i a low in let y : i < b = ltb-true i b is in lt-ltb i (min a b) (omega arith) ∙ sym low
        inner false high = let x : a ≤ i = ltb-false i a high in le-ltb i (min a b) (omega arith) ∙ sym high
    go false is = let x : b ≤ i = ltb-false i b is in le-ltb i (min a b) (omega arith) ∙ sym (ap (λ t. not t && nat_lt i a) (le-leb b i x))

lt-max : (i a b : ℕ) → nat_lt i (max a b) ≡ (nat_lt i b || nat_lt i a)
lt-max i a b = go (nat_lt i b) (nat_lt i a) refl refl
  where
    go : (t u : Bool) → nat_lt i b ≡ t → nat_lt i a ≡ u → nat_lt i (max a b) ≡ (t || u)
    go true u is other = let x : i < b = ltb-true i b is in lt-ltb i (max a b) (omega arith)
    go false true is other = let x : i < a = ltb-true i a other in lt-ltb i (max a b) (omega arith)
    go false false is other = let x : b ≤ i = ltb-false i b is in let y : a ≤ i = ltb-false i a other in le-ltb i (max a b) (omega arith)

step-valid : (i : ℕ) (o : Option ℕ) (s : Sizes) → nat_lt i (resized_by o s).valid ≡ (not (sets_below o i) && nat_lt i s.valid)
step-valid i None s = refl
step-valid i (Some to) s = lt-min i s.valid to

open-valid : (i : ℕ) (mapped : Bool) (given : FileSizes) (old : Sizes) → nat_lt i (made_by mapped given old).valid ≡ ((not mapped && nat_lt i given.valid) || (not (not mapped) && nat_lt i old.valid))
open-valid i true given old = refl
open-valid i false given old = go (nat_lt i given.valid)
  where
    go : (b : Bool) → b ≡ (b || false)
    go true = refl
    go false = refl

act-valid : (i : ℕ) (a : Act) (h : List Effect) → nat_lt i (sizes_by a h).valid ≡ (act_validates i a h || (not (act_invalidates i a h) && nat_lt i (valid_of h)))
act-valid i (Opens file given quota temporary) h = open-valid i (is_mapped h) given (sizes h)
act-valid i (Closes file truncate) h = step-valid i (truncation (objects h) (size_of h) file truncate) (sizes h)
act-valid i (Resizes allocation size) h = lt-min i (valid_of h) size
act-valid i (Writes at bytes) h = lt-max i (valid_of h) (at + length bytes)
act-valid i (Zeroes from to) h = lt-max i (valid_of h) to
act-valid i (Stores page bytes) h = lt-max i (valid_of h) (stored_range page (size_of h)).to
act-valid i (Stamps hold lsn) h = refl
act-valid i (Discards span) h = refl
act-valid i Looks h = refl

valid-effect : (i : ℕ) (e : Effect) (h : List Effect) → nat_lt i (valid_of (e ∷ h)) ≡ (validates i e h || (not (invalidates i e h) && nat_lt i (valid_of h)))
unfolding sizes
valid-effect i (Did pass call reply) h = ap (λ (s : Sizes). nat_lt i s.valid) (sizes-done pass call reply h) ∙ act-valid i (act_of call) h
valid-effect i (CameIn pass page from_disk) h = refl
valid-effect i (WentOut pass page) h = refl
valid-effect i (Began pass page) h = refl
valid-effect i (Ended pass page how) h = refl
valid-effect i (Synced pass how) h = refl

pub valid-places : (h : List Effect) (i : ℕ) → (i < valid_of h) ↔ SincePlace (validates i) (invalidates i) h
unfolding sizes
valid-places h i = (λ below. both.0 (lt-ltb i (valid_of h) below), λ k. ltb-true i (valid_of h) (both.1 k))
  where
    both : (nat_lt i (valid_of h) ≡ true) ↔ SincePlace (validates i) (invalidates i) h
    both = since-place (λ (g : List Effect). nat_lt i (valid_of g)) (validates i) (invalidates i) (le-ltb i (valid_of []) (omega arith)) (valid-effect i) h
