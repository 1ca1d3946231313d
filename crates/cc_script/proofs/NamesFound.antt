-- The words of a caller in a set that keeps their order.
use Rattle.std.proofs.Common.{◌≡◌, ℕ, ◌<◌, Bool, true, false, ◌&&◌, ◌||◌, ◌==◌, None, is_some, List, [], ◌∷◌, ◌++◌, length, nat_lt, suc, refl, ap, sym, ◌∙◌, arith}
use Rattle.std.specs.declared.vec.Vec.{Vec}
use Rattle.std.specs.List.{position, position_or_len, list_any}
use Rattle.std.specs.Str.{bytes_eq}
use Rattle.std.proofs.lemmas.List.{length-map, map-append}
use Rattle.std.proofs.lemmas.Bool.Decides.{nat_tests}
use Rattle.std.proofs.lemmas.Bool.{eqb-true, eqb-false, ne_eqb}
use Rattle.indexmap.specs.IndexSet.{insert_key}
use Rattle.cc_script.specs.HoldNames.{word_of, words_as_bytes}

symmetric : (a b : List ℕ) → bytes_eq a b ≡ bytes_eq b a
symmetric [] [] = refl
symmetric [] (y ∷ b) = refl
symmetric (x ∷ a) [] = refl
symmetric (x ∷ a) (y ∷ b) = rw (symmetric a b) (either (x == y) refl)
  where
    either : (t : Bool) → (x == y) ≡ t → (x == y && bytes_eq b a) ≡ (y == x && bytes_eq b a)
    either true e = let same : x ≡ y = eqb-true x y e in rw same refl
    either false e = let other : (y == x) ≡ false = ne_eqb y x (λ same. eqb-false x y e (sym same)) in rw (e, other) refl

same-place : {A : Type 0} (word : List ℕ) (words : List (Vec ℕ A)) → position_or_len (λ w. bytes_eq word w.items) words ≡ position_or_len (λ name. bytes_eq name word) (words_as_bytes words)
same-place word [] = refl
same-place word (first ∷ words) = rw (symmetric word first.items, same-place word words) refl

pub found : {A : Type 0} (word : List ℕ) (words : List (Vec ℕ A)) → position (λ w. bytes_eq word w.items) words ≡ word_of (words_as_bytes words) word
found word words =
    let len : length (words_as_bytes words) ≡ length words = length-map words (λ w. w.items) in
    rw (same-place word words, len) refl

-- a word that is not found is equal to none
some-place : {X : Type 0} (p : X → Bool) (xs : List X) → list_any p xs ≡ true → position_or_len p xs < length xs
some-place p [] e = absurd (cc)
some-place p (x ∷ xs) e = either (p x) refl e (some-place p xs)
  where
    either : (t : Bool) → p x ≡ t → (t || list_any p xs) ≡ true → (list_any p xs ≡ true → position_or_len p xs < length xs) → position_or_len p (x ∷ xs) < suc (length xs)
    either true f g more = rw f (omega arith)
    either false f g more = let low : position_or_len p xs < length xs = more g in rw f (omega (arith, low))

list_any-none : {X : Type 0} (p : X → Bool) (xs : List X) → is_some (position p xs) ≡ false → list_any p xs ≡ false
list_any-none p xs none = either (list_any p xs) refl
  where
    either : (t : Bool) → list_any p xs ≡ t → t ≡ false
    either true e =
        let low : position_or_len p xs < length xs = some-place p xs e in
        let t : nat_lt (position_or_len p xs) (length xs) ≡ true = grind (arith, nat_tests) in
        let is : is_some (position p xs) ≡ true = rw t refl in
        cc
    either false e = refl

-- and goes last
pub bound_last : {A : Type 0} (words : List (Vec ℕ A)) (word : Vec ℕ A) → word_of (words_as_bytes words) word.items ≡ None → words_as_bytes (insert_key (λ x y. bytes_eq x.items y.items) words word) ≡ words_as_bytes words ++ word.items ∷ []
bound_last words word none =
    let absent : list_any (λ w. bytes_eq word.items w.items) words ≡ false = list_any-none (λ w. bytes_eq word.items w.items) words (ap is_some (found word.items words ∙ none)) in
    rw absent (map-append (λ w. w.items) words (word ∷ []))
