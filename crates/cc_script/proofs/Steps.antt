-- What a step of the grammar says of the words that it takes, where it gives something.
use Rattle.std.proofs.Common.{◌≡◌, ℕ, ◌+◌, ◌<◌, ◌≤◌, ◌==◌, Bool, true, false, ◌&&◌, cond, Some, None, Option, option_map, List, [], ◌∷◌, length, take, drop, nat_lt, nat_le, if◌then◌else◌, inl, inr, refl, ap, ◌∙◌, subst, arith}
use Rattle.std.specs.List.{position, position_or_len}
use Rattle.std.specs.Str.{bytes_eq}
use Rattle.std.proofs.lemmas.Bool.Decides.{nat_tests}
use Rattle.cc_entry.specs.Place.{File}
use Rattle.cc_script.specs.declared.script.StreamLine.{StreamLine}
use Rattle.cc_script.specs.declared.script.Mode.{Mode}
use Rattle.cc_script.specs.declared.verb.Verb.{Verb}
use Rattle.cc_script.specs.Outcome.{◌>>=◌}
use Rattle.cc_script.specs.Modes.{stands, verb_modes}
use Rattle.cc_script.specs.Verbs.{verb_of, verb_in}
use Rattle.cc_script.specs.Words.{parsed_number, number_between, is_name, name_of_word, parsed_bytes, parsed_caller}
use Rattle.cc_script.specs.Laws.{SpellsBytes}
use Rattle.cc_script.specs.Actions.{next, ended, stream_named, object_named, file_at, parsed_file}
use Rattle.cc_script.specs.Within.{IsFileWithin}
use Rattle.cc_script.proofs.Spelled.{words_spell}

-- a step after another gives something only where both do
pub then-gives : {A B : Type 0} (o : Option A) (f : A → Option B) (b : B) → (o >>= f) ≡ Some b → (a : A) × (o ≡ Some a) × (f a ≡ Some b)
then-gives None f b e = absurd (cc)
then-gives (Some a) f b e = (a, refl, e)

-- a step under a test gives something only where the test holds
pub if-gives : {A : Type 0} (t : Bool) (o : Option A) (a : A) → (if t then o else None) ≡ Some a → (t ≡ true) × (o ≡ Some a)
if-gives true o a e = (refl, e)
if-gives false o a e = absurd (cc)

-- both tests hold
pub both : (s t : Bool) → (s && t) ≡ true → (s ≡ true) × (t ≡ true)
both true true e = (refl, refl)
both true false e = absurd (cc)
both false t e = absurd (cc)

-- a word in a form, and those behind it
pub record Word {A : Type 0} (form : List ℕ → Option A) (ws : List (List ℕ)) (a : A) (more : List (List ℕ)) : Type 0 where
  pub word : List ℕ
  pub words : ws ≡ word ∷ more
  pub reads : form word ≡ Some a

pub next-gives : {A : Type 0} (form : List ℕ → Option A) (ws : List (List ℕ)) (a : A) (more : List (List ℕ)) → next form ws ≡ Some (a, more) → Word form ws a more
next-gives form [] a more e = absurd (cc)
next-gives {A} form (word ∷ behind) a more e = either (form word) refl e
  where
    either : (o : Option A) → form word ≡ o → option_map {U = A × List (List ℕ)} (λ found. (found, behind)) o ≡ Some (a, more) → Word form (word ∷ behind) a more
    either (Some found) f g =
        let pair : (let it : A × List (List ℕ) = (found, behind) in it) ≡ (a, more) = cc in
        let same : found ≡ a = ap (λ (it : A × List (List ℕ)). it.0) pair in
        let left : behind ≡ more = ap (λ (it : A × List (List ℕ)). it.1) pair in
        record { word = word; words = ap (word ∷◌) left; reads = f ∙ ap Some same }
    either None f g = absurd (cc)

-- no words are left behind a line
pub ended-gives : {A : Type 0} (left : List (List ℕ)) (a b : A) → ended left a ≡ Some b → (left ≡ []) × (a ≡ b)
ended-gives [] a b e = (refl, cc)
ended-gives (word ∷ more) a b e = either (length (word ∷ more) == 0) refl e
  where
    either : (t : Bool) → (length (word ∷ more) == 0) ≡ t → (if t then Some a else None) ≡ Some b → (word ∷ more ≡ []) × (a ≡ b)
    either true f g = absurd (grind (arith, nat_tests))
    either false f g = absurd (cc)

-- a number of a range
pub record IsBetween (low high : ℕ) (word : List ℕ) (n : ℕ) : Type 0 where
  pub number : parsed_number word ≡ Some n
  pub least : low ≤ n
  pub most : n ≤ high

pub between-gives : (low high : ℕ) (word : List ℕ) (n : ℕ) → number_between low high word ≡ Some n → IsBetween low high word n
unfolding number_between
between-gives low high word n e =
    let m = then-gives (parsed_number word) (λ m. if nat_le low m && nat_le m high then Some m else None) n e in
    let t = if-gives (nat_le low m.0 && nat_le m.0 high) (Some m.0) n m.2 in
    let same : m.0 ≡ n = cc in
    let tests = both (nat_le low m.0) (nat_le m.0 high) t.0 in
    let least : low ≤ m.0 = grind (arith, nat_tests, tests.0) in
    let most : m.0 ≤ high = grind (arith, nat_tests, tests.1) in
    record { number = m.1 ∙ ap Some same; least = omega (arith, same, least); most = omega (arith, same, most) }

-- a verb stands in the mode that it is read in
pub verb-gives : (m : Mode) (word : List ℕ) (v : Verb) → verb_in m word ≡ Some v → stands (verb_modes v) m ≡ true
unfolding verb_in
verb-gives m word v e =
    let found = then-gives (verb_of word) (λ w. if stands (verb_modes w) m then Some w else None) v e in
    let t = if-gives (stands (verb_modes found.0) m) (Some found.0) v found.2 in
    let same : found.0 ≡ v = cc in
    subst (λ (v : Verb). stands (verb_modes v) m ≡ true) same t.0

-- a name is the word that it is read from
pub name_gives : (word name : List ℕ) → name_of_word word ≡ Some name → name ≡ word
unfolding name_of_word
name_gives word name e = let t = if-gives (is_name word) (Some word) name e in cc

-- a caller is one of 16
pub caller-gives : (word : List ℕ) (n : ℕ) → parsed_caller word ≡ Some n → (1 ≤ n) × (n ≤ 16)
unfolding parsed_caller
caller-gives [] n e = absurd (cc)
caller-gives (c ∷ number) n e =
    let b = between-gives 1 16 number n (if-gives (c == 116) (number_between 1 16 number) n e).1 in (b.least, b.most)

-- a place that is found is one of the list
pub position-below : {X : Type 0} (p : X → Bool) (xs : List X) (i : ℕ) → position p xs ≡ Some i → i < length xs
position-below p xs i e = either (nat_lt (position_or_len p xs) (length xs)) refl e
  where
    either : (t : Bool) → nat_lt (position_or_len p xs) (length xs) ≡ t → cond t (Some (position_or_len p xs)) None ≡ Some i → i < length xs
    either true f g =
        let same : position_or_len p xs ≡ i = cc in grind (arith, nat_tests, same)
    either false f g = absurd (cc)

-- an object that is named is one of a stream of the script
object-gives : (streams : List StreamLine) (name : List ℕ) (number : ℕ) (file : File) → number < 16 → object_named streams name number ≡ Some file → IsFileWithin streams file
object-gives streams name number file few e = either (stream_named streams name) refl e
  where
    either : (o : Option ℕ) → stream_named streams name ≡ o → option_map (λ (s : ℕ). let f : File = record { stream = s; object = number } in f) o ≡ Some file → IsFileWithin streams file
    either (Some s) f g =
        let same : (let made : File = record { stream = s; object = number } in made) ≡ file = cc in
        let low : s < length streams = position-below (λ stream. bytes_eq stream.name name) streams s f in
        record {
          stream = omega (arith, ap (λ (made : File). made.stream) same, low);
          object = omega (arith, ap (λ (made : File). made.object) same, few);
        }
    either None f g = absurd (cc)

at-gives : (streams : List StreamLine) (word : List ℕ) (cut : Option ℕ) (file : File) → file_at streams word cut ≡ Some file → IsFileWithin streams file
unfolding file_at
at-gives streams word None file e = object-gives streams word 0 file (omega arith) e
at-gives streams word (Some colon) file e =
    let number = then-gives (number_between 0 15 (drop (colon + 1) word)) _ file e in
    let b = between-gives 0 15 (drop (colon + 1) word) number.0 number.1 in
    let most = b.most in
    object-gives streams (take colon word) number.0 file (omega (arith, most)) number.2

-- so a file that is read is within
pub file-gives : (streams : List StreamLine) (word : List ℕ) (file : File) → parsed_file streams word ≡ Some file → IsFileWithin streams file
unfolding parsed_file
file-gives streams word file e = at-gives streams word (position (λ b. b == 58) word) file e

-- a word spells no more bytes than one may
pub bytes-give : (word bytes : List ℕ) → parsed_bytes word ≡ Some bytes → length bytes ≤ 2097152
bytes-give word bytes e = most ((words_spell word bytes).0 e)
  where
    most : SpellsBytes word bytes → length bytes ≤ 2097152
    most (inl none) = rw none.1 (omega arith)
    most (inr items) = items.1.most
