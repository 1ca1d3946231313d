-- A word is read as a file exactly where it names an object of a stream.
use Rattle.std.proofs.Common.{◌≡◌, ℕ, suc, ◌+◌, ◌≤◌, ◌==◌, Bool, true, false, cond, Some, None, Option, option_map, List, [], ◌∷◌, ◌++◌, ◌↔◌, length, take, drop, nat_lt, inl, inr, refl, ap, sym, ◌∙◌, length-append, arith}
use Rattle.std.specs.List.{position, position_or_len}
use Rattle.std.specs.Fmt.{decimal}
use Rattle.std.proofs.Math.Seq.{take-append_seam, drop-append-add}
use Rattle.std.proofs.lemmas.List.{take-append-drop, drop_more, take_all}
use Rattle.std.proofs.lemmas.List.Quantifiers.{position-Some}
use Rattle.std.proofs.lemmas.Bool.{eqb-true}
use Rattle.std.proofs.lemmas.Bool.Decides.{nat_tests}
use Rattle.cc_entry.specs.Place.{File}
use Rattle.cc_script.specs.declared.script.StreamLine.{StreamLine}
use Rattle.cc_script.specs.Words.{number_between}
use Rattle.cc_script.specs.Actions.{stream_named, object_named, file_at, parsed_file}
use Rattle.cc_script.specs.Laws.{has_no_colon, SpellsObject, IsFileSpelling}
use Rattle.cc_script.proofs.Numbers.{decimal-number_of}
use Rattle.cc_script.proofs.Steps.{then-gives, between-gives}
use Rattle.cc_script.proofs.LineWords.{between-decimal}

one-more : (n : ℕ) → 1 + n ≡ suc n
one-more n = omega arith

-- what stands before the first colon has none
before-plain : (xs : List ℕ) → has_no_colon (take (position_or_len (λ b. b == 58) xs) xs) ≡ true
before-plain [] = refl
before-plain (x ∷ xs) = either (x == 58) refl (before-plain xs)
  where
    either : (t : Bool) → (x == 58) ≡ t → has_no_colon (take (position_or_len (λ b. b == 58) xs) xs) ≡ true → has_no_colon (take (position_or_len (λ b. b == 58) (x ∷ xs)) (x ∷ xs)) ≡ true
    either true e more = simp e
    either false e more =
        let at : position_or_len (λ b. b == 58) (x ∷ xs) ≡ suc (position_or_len (λ b. b == 58) xs) = simp e (one-more _) in
        rw at (simp (e, more))

-- a word without a colon has no place of one
plain-whole : (xs : List ℕ) → has_no_colon xs ≡ true → position_or_len (λ b. b == 58) xs ≡ length xs
plain-whole [] plain = refl
plain-whole (x ∷ xs) plain = either (x == 58) refl plain (plain-whole xs)
  where
    either : (t : Bool) → (x == 58) ≡ t → has_no_colon (x ∷ xs) ≡ true → (has_no_colon xs ≡ true → position_or_len (λ b. b == 58) xs ≡ length xs) → position_or_len (λ b. b == 58) (x ∷ xs) ≡ length (x ∷ xs)
    either true e p more = absurd (let bad : has_no_colon (x ∷ xs) ≡ false = simp e in cc)
    either false e p more =
        let rest : has_no_colon xs ≡ true = sym (let same : has_no_colon (x ∷ xs) ≡ has_no_colon xs = simp e in same) ∙ p in
        simp (e, more rest) (one-more (length xs))

-- and in a name, a colon and more, the first colon stands behind the name
plain-cut : (xs rest : List ℕ) → has_no_colon xs ≡ true → position_or_len (λ b. b == 58) (xs ++ 58 ∷ rest) ≡ length xs
plain-cut [] rest plain = refl
plain-cut (x ∷ xs) rest plain = either (x == 58) refl plain (plain-cut xs rest)
  where
    either : (t : Bool) → (x == 58) ≡ t → has_no_colon (x ∷ xs) ≡ true → (has_no_colon xs ≡ true → position_or_len (λ b. b == 58) (xs ++ 58 ∷ rest) ≡ length xs) → position_or_len (λ b. b == 58) (x ∷ xs ++ 58 ∷ rest) ≡ length (x ∷ xs)
    either true e p more = absurd (let bad : has_no_colon (x ∷ xs) ≡ false = simp e in cc)
    either false e p more =
        let rest_plain : has_no_colon xs ≡ true = sym (let same : has_no_colon (x ∷ xs) ≡ has_no_colon xs = simp e in same) ∙ p in
        simp (e, more rest_plain) (one-more (length xs))

none-found : (xs : List ℕ) → has_no_colon xs ≡ true → position (λ b. b == 58) xs ≡ None
none-found xs plain =
    let past : position_or_len (λ b. b == 58) xs ≡ length xs = plain-whole xs plain in
    let low : nat_lt (position_or_len (λ b. b == 58) xs) (length xs) ≡ false = grind (arith, nat_tests, past) in
    simp low

colon-found : (xs rest : List ℕ) → has_no_colon xs ≡ true → position (λ b. b == 58) (xs ++ 58 ∷ rest) ≡ Some (length xs)
colon-found xs rest plain =
    let at : position_or_len (λ b. b == 58) (xs ++ 58 ∷ rest) ≡ length xs = plain-cut xs rest plain in
    let len : length (xs ++ 58 ∷ rest) ≡ length xs + length (58 ∷ rest) = length-append xs (58 ∷ rest) in
    let low : nat_lt (position_or_len (λ b. b == 58) (xs ++ 58 ∷ rest)) (length (xs ++ 58 ∷ rest)) ≡ true = grind (arith, nat_tests, at, len) in
    ap (λ (t : Bool). cond t (Some (position_or_len (λ b. b == 58) (xs ++ 58 ∷ rest))) None) low ∙ ap Some at

-- a word in which no colon is found has none
plain-none : (word : List ℕ) → position (λ b. b == 58) word ≡ None → has_no_colon word ≡ true
plain-none word e = either (nat_lt (position_or_len (λ b. b == 58) word) (length word)) refl e
  where
    either : (t : Bool) → nat_lt (position_or_len (λ b. b == 58) word) (length word) ≡ t → cond t (Some (position_or_len (λ b. b == 58) word)) None ≡ None → has_no_colon word ≡ true
    either true f g = absurd (cc)
    either false f g =
        let past : length word ≤ position_or_len (λ b. b == 58) word = grind (arith, nat_tests, f) in
        sym (ap has_no_colon (take_all (position_or_len (λ b. b == 58) word) word past)) ∙ before-plain word

-- and one in which it is found is the part before it, the colon, and the part behind it
colon-cuts : (word : List ℕ) (colon : ℕ) → position (λ b. b == 58) word ≡ Some colon → (has_no_colon (take colon word) ≡ true) × (word ≡ take colon word ++ 58 ∷ drop (colon + 1) word)
colon-cuts word colon e =
    let found = position-Some (λ (b : ℕ). b == 58) word colon 0 e in
    let is = eqb-true _ 58 found.1 in
    let parts = ap (take colon word ++◌) (drop_more word colon 0 found.0 ∙ ap (λ (b : ℕ). b ∷ drop (colon + 1) word) is) in
    (either (nat_lt (position_or_len (λ b. b == 58) word) (length word)) e, sym (take-append-drop colon word) ∙ parts)
  where
    either : (t : Bool) → cond t (Some (position_or_len (λ b. b == 58) word)) None ≡ Some colon → has_no_colon (take colon word) ≡ true
    either true g =
        let same : position_or_len (λ b. b == 58) word ≡ colon = cc in
        sym (ap (λ (n : ℕ). has_no_colon (take n word)) same) ∙ before-plain word
    either false g = absurd (cc)

-- the object of a stream that is named
object-spelled : (streams : List StreamLine) (name : List ℕ) (number : ℕ) (file : File) → object_named streams name number ≡ Some file → (stream_named streams name ≡ Some file.stream) × (number ≡ file.object)
object-spelled streams name number file e = either (stream_named streams name) refl e
  where
    either : (o : Option ℕ) → stream_named streams name ≡ o → option_map (λ (s : ℕ). let f : File = record { stream = s; object = number } in f) o ≡ Some file → (stream_named streams name ≡ Some file.stream) × (number ≡ file.object)
    either (Some s) f g =
        let same : (let made : File = record { stream = s; object = number } in made) ≡ file = cc in
        (f ∙ ap Some (ap (λ (made : File). made.stream) same), ap (λ (made : File). made.object) same)
    either None f g = absurd (cc)

at-spelled : (streams : List StreamLine) (word : List ℕ) (cut : Option ℕ) (file : File) → position (λ b. b == 58) word ≡ cut → file_at streams word cut ≡ Some file → IsFileSpelling streams word file
unfolding file_at
at-spelled streams word None file by e =
    let named = object-spelled streams word 0 file e in
    record { name = word; plain = plain-none word by; named = named.0; text = inl (sym named.1, refl) }
at-spelled streams word (Some colon) file by e =
    let number = then-gives (number_between 0 15 (drop (colon + 1) word)) _ file e in
    let b = between-gives 0 15 (drop (colon + 1) word) number.0 number.1 in
    let named = object-spelled streams (take colon word) number.0 file number.2 in
    let text : drop (colon + 1) word ≡ decimal number.0 = (decimal-number_of (drop (colon + 1) word) number.0 b.number).1 in
    let cut = colon-cuts word colon by in
    let most = b.most in
    let same = named.1 in
    record {
      name = take colon word;
      plain = cut.0;
      named = named.0;
      text = inr (omega (arith, most, same), cut.1 ∙ ap (take colon word ++◌) (ap (58 ∷◌) (text ∙ ap decimal same)));
    }

file-spelled : (streams : List StreamLine) (word : List ℕ) (file : File) → parsed_file streams word ≡ Some file → IsFileSpelling streams word file
unfolding parsed_file
file-spelled streams word file e = at-spelled streams word (position (λ b. b == 58) word) file refl e

file-read : (streams : List StreamLine) (word : List ℕ) (file : File) → IsFileSpelling streams word file → parsed_file streams word ≡ Some file
unfolding parsed_file file_at
file-read streams word file s = either s.text
  where
    made : (number : ℕ) → number ≡ file.object → object_named streams s.name number ≡ Some file
    made number same = rw (s.named, same) refl

    either : SpellsObject s.name file.object word → file_at streams word (position (λ b. b == 58) word) ≡ Some file
    either (inl alone) =
        let none : position (λ b. b == 58) s.name ≡ None = none-found s.name s.plain in
        rw (alone.1, none) (made 0 (sym alone.0))
    either (inr said) =
        let few = said.0 in
        let at : position (λ b. b == 58) (s.name ++ 58 ∷ decimal file.object) ≡ Some (length s.name) = colon-found s.name (decimal file.object) s.plain in
        let before : take (length s.name) (s.name ++ 58 ∷ decimal file.object) ≡ s.name = take-append_seam s.name (58 ∷ decimal file.object) in
        let behind : drop (length s.name + 1) (s.name ++ 58 ∷ decimal file.object) ≡ decimal file.object = drop-append-add s.name (58 ∷ decimal file.object) 1 in
        let read : number_between 0 15 (decimal file.object) ≡ Some file.object = between-decimal 0 15 file.object (omega arith) (omega (arith, few)) (omega arith) in
        rw (said.1, at, behind, read, before) (made file.object refl)

pub files_spell : (streams : List StreamLine) (word : List ℕ) (file : File) → (parsed_file streams word ≡ Some file) ↔ IsFileSpelling streams word file
files_spell streams word file = (file-spelled streams word file, file-read streams word file)
