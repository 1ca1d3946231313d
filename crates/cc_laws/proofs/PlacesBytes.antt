-- A byte of a stream, said of places: the last effect that gave it, or the disk's opening byte.
use Rattle.std.specs.Prelude.{◌≡◌, ℕ, ◌-◌, ◌*◌, ◌/◌, ◌%◌, ◌<◌, ◌≤◌, true, false, List, [], ◌∷◌, ◌++◌, slice_index, refl}
use Rattle.std.specs.declared.option.Option.TheVariants.{Some}
use Rattle.std.proofs.Common.{ap, sym, ◌∙◌}
use Rattle.std.proofs.lemmas.Bool.{or_parts, cond-true, cond-false, lt-ltb, le-ltb}
use Rattle.cc_model.specs.History.{Effect, Did, CameIn, WentOut, Began, Ended, Synced}
use Rattle.cc_model.specs.Acts.{Act, act_of, Opens, Closes, Resizes, Writes, Zeroes, Stores, Stamps, Discards, Looks}
use Rattle.cc_model.specs.Touches.{valid_of}
use Rattle.cc_model.specs.Bytes.{content, byte_of}
use Rattle.cc_model.specs.Images.{image}
use Rattle.cc_laws.specs.ByPlaces.{some_effect, act_changes, changes_byte, byte_given, act_discards, discards_page, decides_byte, LastPlace}
use Rattle.cc_laws.proofs.ByteSteps.{byte_of-below, byte_of-above}
use Rattle.cc_laws.proofs.DiskBytes.{on_disk-image}
use Rattle.cc_laws.proofs.PlacesSteps.{byte_decided, content-effect}
use Rattle.cc_laws.proofs.PlacesLast.{some-first}

content-last : (pages : ℕ → List ℕ) (later : List Effect) (e : Effect) (before : List Effect) (i : ℕ) → decides_byte i e before ≡ true → some_effect (decides_byte i) later (e ∷ before) ≡ false → content pages (later ++ e ∷ before) i ≡ byte_decided pages i e before
content-last pages [] e before i decides last = content-effect pages e before i ∙ cond-true (decides_byte i e before) _ _ decides
content-last pages (x ∷ later) e before i decides last =
    let k = or_parts (decides_byte i x (later ++ e ∷ before)) _ last in
    content-effect pages x (later ++ e ∷ before) i ∙ cond-false (decides_byte i x (later ++ e ∷ before)) _ _ k.0 ∙ content-last pages later e before i decides k.1

content-opening : (pages : ℕ → List ℕ) (h : List Effect) (i : ℕ) → some_effect (decides_byte i) h [] ≡ false → content pages h i ≡ slice_index (pages (i / 4096)) (i % 4096)
unfolding content
content-opening pages [] i none = refl
content-opening pages (e ∷ h) i none =
    let k = or_parts (decides_byte i e h) _ (sym (some-first (decides_byte i) e h) ∙ none) in
    content-effect pages e h i ∙ cond-false (decides_byte i e h) _ _ k.0 ∙ content-opening pages h i k.1

-- what the last effect that decides the byte gave
byte_of-decided : (pages : ℕ → List ℕ) (h : List Effect) (i : ℕ) → i < valid_of h → (k : LastPlace (decides_byte i) h) → byte_of pages h i ≡ byte_decided pages i k.effect k.before
byte_of-decided pages h i valid k =
    byte_of-below pages h i (lt-ltb i (valid_of h) valid) ∙ ap (λ (g : List Effect). content pages g i) k.places
    ∙ content-last pages k.later k.effect k.before i k.passes k.last

-- a change gave it
pub byte_of-changed : (pages : ℕ → List ℕ) (h : List Effect) (i : ℕ) → i < valid_of h → (k : LastPlace (decides_byte i) h) → changes_byte i k.effect k.before ≡ true → byte_of pages h i ≡ byte_given i k.effect
byte_of-changed pages h i valid k changes = byte_of-decided pages h i valid k ∙ cond-true (changes_byte i k.effect k.before) _ _ changes

-- a discard changes no byte
act-discards : (a : Act) (h : List Effect) (i p : ℕ) → act_discards a p ≡ true → act_changes a h i ≡ false
act-discards (Opens file given quota temporary) h i p is = refl
act-discards (Closes file truncate) h i p is = refl
act-discards (Resizes allocation size) h i p is = refl
act-discards (Writes at bytes) h i p is = absurd (cc)
act-discards (Zeroes from to) h i p is = absurd (cc)
act-discards (Stores page bytes) h i p is = absurd (cc)
act-discards (Stamps hold lsn) h i p is = refl
act-discards (Discards span) h i p is = refl
act-discards Looks h i p is = refl

discards-no_change : (e : Effect) (h : List Effect) (i p : ℕ) → discards_page p e ≡ true → changes_byte i e h ≡ false
discards-no_change (Did pass call reply) h i p is = act-discards (act_of call) h i p is
discards-no_change (CameIn pass page from_disk) h i p is = refl
discards-no_change (WentOut pass page) h i p is = refl
discards-no_change (Began pass page) h i p is = refl
discards-no_change (Ended pass page how) h i p is = refl
discards-no_change (Synced pass how) h i p is = refl

-- a discard left it as the page's image has it
pub byte_of-discarded : (pages : ℕ → List ℕ) (h : List Effect) (i : ℕ) → i < valid_of h → (k : LastPlace (decides_byte i) h) → discards_page (i / 4096) k.effect ≡ true → (bytes : List ℕ) → image pages k.before (i / 4096) ≡ Some bytes → byte_of pages h i ≡ slice_index bytes (i - 4096 * (i / 4096))
byte_of-discarded pages h i valid k discards bytes known =
    byte_of-decided pages h i valid k
    ∙ cond-false (changes_byte i k.effect k.before) _ _ (discards-no_change k.effect k.before i (i / 4096) discards)
    ∙ on_disk-image pages k.before i bytes known

pub byte_of-opening : (pages : ℕ → List ℕ) (h : List Effect) (i : ℕ) → i < valid_of h → some_effect (decides_byte i) h [] ≡ false → byte_of pages h i ≡ slice_index (pages (i / 4096)) (i % 4096)
byte_of-opening pages h i valid none = byte_of-below pages h i (lt-ltb i (valid_of h) valid) ∙ content-opening pages h i none

pub byte_of-zero : (pages : ℕ → List ℕ) (h : List Effect) (i : ℕ) → valid_of h ≤ i → byte_of pages h i ≡ 0
byte_of-zero pages h i past = byte_of-above pages h i (le-ltb i (valid_of h) past)
