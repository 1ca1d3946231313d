-- Which bytes of a page a range leaves alone that does not touch the page.
use Rattle.std.specs.Prelude.{◌≡◌, ℕ, ◌+◌, ◌*◌, ◌<◌, ◌≤◌, Bool, true, false, nat_lt, List, [], max, refl}
use Rattle.std.proofs.Common.{arith}
use Rattle.std.proofs.lemmas.Bool.{ltb-true, ltb-false, leb-true, lt-ltb, le-leb, and_parts, and_from}
use Rattle.std.specs.declared.option.Option.{Option}
use Rattle.cc_entry.specs.Place.{Range}
use Rattle.cc_entry.specs.Pages.{has_byte, has_page}
use Rattle.cc_model.specs.Sizes.{Touch, touched_if}

-- a range that has a byte of the page has the page
pub has_page-byte : (r : Range) (p i : ℕ) → 4096 * p ≤ i → i < 4096 * p + 4096 → has_byte r i ≡ true → has_page r p ≡ true
has_page-byte r p i low high has =
    let parts = and_parts _ _ has in
    let a : r.from ≤ i = leb-true r.from i parts.0 in
    let b : i < r.to = ltb-true i r.to parts.1 in
    and_from _ _ (lt-ltb r.from r.to (omega arith)) (and_from _ _ (lt-ltb r.from (4096 * p + 4096) (omega arith)) (lt-ltb (4096 * p) r.to (omega arith)))

pub has_byte-between : (r : Range) (i : ℕ) → r.from ≤ i → i < r.to → has_byte r i ≡ true
has_byte-between r i low high = and_from _ _ (le-leb r.from i low) (lt-ltb i r.to high)

-- what a change gives of a byte of a page that it does not touch
pub record IsUncovered (r : Range) (i valid : ℕ) : Type 0 where
  pub other : has_byte r i ≡ false
  pub below : i < valid

pub IsUncovered-page : (r : Range) (p i valid : ℕ) → r.from ≤ valid → has_page r p ≡ false → 4096 * p ≤ i → i < 4096 * p + 4096 → i < max valid r.to → IsUncovered r i valid
IsUncovered-page r p i valid within apart low high below = go (has_byte r i) refl
  where
    go : (b : Bool) → has_byte r i ≡ b → IsUncovered r i valid
    go true is = absurd (cc (has_page-byte r p i low high is))
    go false is = record { other = is; below = under (nat_lt i valid) refl }
      where
        under : (b : Bool) → nat_lt i valid ≡ b → i < valid
        under true k = ltb-true i valid k
        under false k =
            let above : valid ≤ i = ltb-false i valid k in
            absurd (cc (has_byte-between r i (omega arith) (omega arith)))

-- a change past the end of the valid data that brings bytes of the page touches it
pub has_page-raised : (r : Range) (p valid : ℕ) → r.from ≤ valid → valid ≤ 4096 * p → 4096 * p < max valid r.to → has_page r p ≡ true
has_page-raised r p valid within above raised =
    and_from _ _ (lt-ltb r.from r.to (omega arith)) (and_from _ _ (lt-ltb r.from (4096 * p + 4096) (omega arith)) (lt-ltb (4096 * p) r.to (omega arith)))

-- nothing touches a page of which nothing is left
pub record IsUntouched (b : Bool) (rest : List Touch) : Type 0 where
  pub apart : b ≡ false
  pub none : rest ≡ []

pub IsUntouched-none : (b : Bool) (place : ℕ) (lsn : Option ℕ) (rest : List Touch) → touched_if b place lsn rest ≡ [] → IsUntouched b rest
IsUntouched-none true place lsn rest e = absurd (cc)
IsUntouched-none false place lsn rest e = record { apart = refl; none = e }
