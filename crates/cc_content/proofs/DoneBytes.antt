-- What a kept byte is after a done call.
use Rattle.std.proofs.Common.{◌≡◌, ℕ, ◌<◌, ◌≤◌, Bool, true, false, nat_lt, List, Option, None, Some, max, refl, sym, ap, ◌∙◌, arith}
use Rattle.std.proofs.lemmas.Bool.{ltb-true, ltb-false, lt-ltb, le-ltb}
use Rattle.std.proofs.lemmas.Bool.Decides.{nat_tests}
use Rattle.cc_entry.specs.Pages.{has_byte}
use Rattle.cc_entry.specs.Place.{Range}
use Rattle.cc_model.specs.Bytes.{content, byte_of}
use Rattle.cc_model.specs.History.{Effect}
use Rattle.cc_model.specs.Touches.{sizes, valid_of}
use Rattle.cc_laws.proofs.ByteSteps.{byte_of-below, byte_of-above, byte_of-same}
use Rattle.cc_content.specs.Contents.{IsByteOfContents}

pub has_byte-true : (r : Range) (i : ℕ) → has_byte r i ≡ true → (r.from ≤ i) × (i < r.to)
has_byte-true r i h = (grind (arith, nat_tests), grind (arith, nat_tests))

pub has_byte-false : (r : Range) (i : ℕ) → has_byte r i ≡ false → r.from ≤ i → r.to ≤ i
has_byte-false r i h low = grind (arith, nat_tests)

-- what changes neither the sizes nor the content
pub IsByteOf-same : (opening : Option (ℕ → List ℕ)) (h g : List Effect) → sizes g ≡ sizes h
    → ((pages : ℕ → List ℕ) (i : ℕ) → content pages g i ≡ content pages h i)
    → (i byte : ℕ) → IsByteOfContents opening h i byte → IsByteOfContents opening g i byte
IsByteOf-same None h g same_sizes same_content i byte is =
    let valid : valid_of g ≡ valid_of h = ap (λ s. s.valid) same_sizes in
    λ past. is (omega (arith, valid, past))
IsByteOf-same (Some pages) h g same_sizes same_content i byte is =
    is ∙ sym (byte_of-same pages g h i same_sizes (same_content pages i))

-- a byte that is 0 at the valid data length or past it
pub IsByteOf-zero : (opening : Option (ℕ → List ℕ)) (g : List Effect) (i byte : ℕ) → valid_of g ≤ i → byte ≡ 0
    → IsByteOfContents opening g i byte
IsByteOf-zero None g i byte past zeroed = λ _. zeroed
IsByteOf-zero (Some pages) g i byte past zeroed =
    zeroed ∙ sym (byte_of-above pages g i (le-ltb i (valid_of g) past))

-- a byte on the same side of the valid data length, with the same content
pub IsByteOf-agree : (opening : Option (ℕ → List ℕ)) (h g : List Effect) (i byte : ℕ)
    → (valid_of g ≤ i → valid_of h ≤ i) → (valid_of h ≤ i → valid_of g ≤ i)
    → ((pages : ℕ → List ℕ) → content pages g i ≡ content pages h i) → IsByteOfContents opening h i byte
    → IsByteOfContents opening g i byte
IsByteOf-agree None h g i byte back on same is = λ past. is (back past)
IsByteOf-agree (Some pages) h g i byte back on same is =
    is ∙ by (nat_lt i (valid_of h)) refl (nat_lt i (valid_of g)) refl
  where
    by : (t : Bool) → nat_lt i (valid_of h) ≡ t → (u : Bool) → nat_lt i (valid_of g) ≡ u
        → byte_of pages h i ≡ byte_of pages g i
    by true t true u = byte_of-below pages h i t ∙ sym (byte_of-below pages g i u ∙ same pages)
    by true t false u = absurd (apart (ltb-true i (valid_of h) t) (back (ltb-false i (valid_of g) u)))
      where
        apart : i < valid_of h → valid_of h ≤ i → ⊥
        apart a b = omega arith
    by false t true u = absurd (apart (ltb-true i (valid_of g) u) (on (ltb-false i (valid_of h) t)))
      where
        apart : i < valid_of g → valid_of g ≤ i → ⊥
        apart a b = omega arith
    by false t false u = byte_of-above pages h i t ∙ sym (byte_of-above pages g i u)

-- A change of a range that begins at the valid data length or below it: it gives the bytes of the range, and
-- what lies outside is as it was.
module _ (opening : Option (ℕ → List ℕ)) (h g : List Effect) (r : Range) (given : ℕ → ℕ)
    (valid : valid_of g ≡ max (valid_of h) r.to) (starts : r.from ≤ valid_of h)
    (covered : (pages : ℕ → List ℕ) (i : ℕ) → has_byte r i ≡ true → content pages g i ≡ given i)
    (past : (pages : ℕ → List ℕ) (i : ℕ) → has_byte r i ≡ false → content pages g i ≡ content pages h i)
  where
    inside : (o : Option (ℕ → List ℕ)) (i byte : ℕ) → has_byte r i ≡ true → byte ≡ given i
        → IsByteOfContents o g i byte
    inside None i byte has is =
        let within = has_byte-true r i has in
        λ above. absurd (omega (arith, valid, above, within.1))
    inside (Some pages) i byte has is =
        let within = has_byte-true r i has in
        is
        ∙ sym (byte_of-below pages g i (lt-ltb i (valid_of g) (omega (arith, valid, within.1))) ∙ covered pages i has)

    outside : (i byte : ℕ) → has_byte r i ≡ false → IsByteOfContents opening h i byte → IsByteOfContents opening g i byte
    outside i byte out is =
        IsByteOf-agree opening h g i byte (λ above. omega (arith, valid, above)) on
        (λ pages. past pages i out) is
      where
        on : valid_of h ≤ i → valid_of g ≤ i
        on above =
            let end : r.to ≤ i = has_byte-false r i out (omega (arith, above, starts)) in
            omega (arith, valid, above, end)

    pub IsByteOf-changed : (i byte : ℕ) → (has_byte r i ≡ true → byte ≡ given i)
        → (has_byte r i ≡ false → IsByteOfContents opening h i byte) → IsByteOfContents opening g i byte
    IsByteOf-changed i byte new old = by (has_byte r i) refl
      where
        by : (t : Bool) → has_byte r i ≡ t → IsByteOfContents opening g i byte
        by true has = inside opening i byte has (new has)
        by false out = outside i byte out (old out)
