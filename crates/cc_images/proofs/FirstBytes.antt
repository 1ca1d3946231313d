-- The first byte of a page that has grown, as the valid data length and its least one change.
use Rattle.std.specs.Prelude.{◌≡◌, ℕ, ◌+◌, ◌*◌, ◌/◌, ◌<◌, ◌≤◌, Bool, true, false, nat_lt, min, max, List, refl}
use Rattle.std.proofs.Common.{ap, sym, subst, ◌∙◌, arith}
use Rattle.std.proofs.lemmas.Bool.{and_parts, and_from, eqb-true, eq-eqb, ltb-true, lt-ltb}
use Rattle.cc_model.specs.History.{Effect}
use Rattle.cc_model.specs.Touches.{valid_of}
use Rattle.cc_model.specs.Discards.{low_of, has_grown}
use Rattle.cc_images.specs.Images.{is_first_grown}

-- two tests that imply each other are the same
pub same_tests : (a b : Bool) → (a ≡ true → b ≡ true) → (b ≡ true → a ≡ true) → a ≡ b
same_tests true b to from = sym (to refl)
same_tests false true to from = from refl
same_tests false false to from = refl

-- a byte is the first of its page that is not below this least valid data length, and is valid
pub record IsFirst (low valid byte : ℕ) : Type 0 where
  pub is : byte ≡ max (4096 * (byte / 4096)) low
  pub below : byte < valid

pub IsFirst-grown : (h : List Effect) (byte : ℕ) → is_first_grown h byte ≡ true → IsFirst (low_of h (byte / 4096)) (valid_of h) byte
IsFirst-grown h byte is =
    let parts = and_parts _ _ is in
    record { is = eqb-true _ _ parts.0; below = ltb-true _ _ parts.1 }

pub grown-IsFirst : (h : List Effect) (byte : ℕ) → IsFirst (low_of h (byte / 4096)) (valid_of h) byte → is_first_grown h byte ≡ true
grown-IsFirst h byte first = and_from _ _ (eq-eqb _ _ first.is) (lt-ltb _ _ first.below)

-- its page has grown
pub has-grown : (h : List Effect) (byte : ℕ) → IsFirst (low_of h (byte / 4096)) (valid_of h) byte → has_grown h (byte / 4096) ≡ true
has-grown h byte first =
    let is : byte ≡ max (4096 * (byte / 4096)) (low_of h (byte / 4096)) = first.is in
    let below : byte < valid_of h = first.below in
    lt-ltb _ _ (less (byte / 4096) (low_of h (byte / 4096)) (valid_of h) (omega arith) (omega arith))
  where
    less : (p low valid : ℕ) → max (4096 * p) low < 4096 * p + 4096 → max (4096 * p) low < valid → max (4096 * p) low < min (4096 * p + 4096) valid
    less p low valid a b = omega arith

-- and a page that has grown has one
pub record HasFirst (h : List Effect) (p : ℕ) : Type 0 where
  pub byte : ℕ
  pub of_page : byte / 4096 ≡ p
  pub first : IsFirst (low_of h (byte / 4096)) (valid_of h) byte

pub HasFirst-grown : (h : List Effect) (p : ℕ) → has_grown h p ≡ true → HasFirst h p
HasFirst-grown h p grown =
    let byte : ℕ = max (4096 * p) (low_of h p) in
    let some : byte < min (4096 * p + 4096) (valid_of h) = ltb-true _ _ grown in
    let page : byte / 4096 ≡ p = omega arith in
    record {
      byte = byte;
      of_page = page;
      first = subst (λ q. IsFirst (low_of h q) (valid_of h) byte) (sym page) (record { is = place byte p (low_of h p) page refl; below = omega arith });
    }
  where
    place : (byte p low : ℕ) → byte / 4096 ≡ p → byte ≡ max (4096 * p) low → byte ≡ max (4096 * (byte / 4096)) low
    place byte p low page is = is ∙ ap (λ q. max (4096 * q) low) (sym page)

-- the valid data length falls
pub first-fallen : (low was now byte : ℕ) → low ≤ was → now ≤ was → IsFirst low was byte → byte < now → IsFirst (min now low) now byte
first-fallen low was now byte within falls first less =
    let is : byte ≡ max (4096 * (byte / 4096)) low = first.is in
    let same : min now low ≡ low = omega arith in
    record { is = is ∙ ap (max (4096 * (byte / 4096))) (sym same); below = less }

pub fallen-first : (low was now byte : ℕ) → now ≤ was → IsFirst (min now low) now byte → IsFirst low was byte
fallen-first low was now byte falls first =
    let is : byte ≡ max (4096 * (byte / 4096)) (min now low) = first.is in
    let below : byte < now = first.below in
    let same : min now low ≡ low = omega arith in
    record { is = is ∙ ap (max (4096 * (byte / 4096))) same; below = omega arith }

-- it rises: what was a first byte stays one
pub first-kept : (low was now byte : ℕ) → was < now → IsFirst low was byte → IsFirst low now byte
first-kept low was now byte rises first =
    let below : byte < was = first.below in
    record { is = first.is; below = omega arith }

-- the place up to which it was valid becomes one where the page had none
pub first-here : (low was now : ℕ) → low ≤ was → was < now → ((byte : ℕ) → byte / 4096 ≡ was / 4096 → IsFirst low was byte → ⊥) → IsFirst low now was
first-here low was now within rises none =
    let byte : ℕ = max (4096 * (was / 4096)) low in
    let page : byte / 4096 ≡ was / 4096 = omega arith in
    record { is = go (nat_lt byte was) refl; below = rises }
  where
    go : (b : Bool) → nat_lt (max (4096 * (was / 4096)) low) was ≡ b → was ≡ max (4096 * (was / 4096)) low
    go true less =
        let byte : ℕ = max (4096 * (was / 4096)) low in
        let page : byte / 4096 ≡ was / 4096 = omega arith in
        let below : byte < was = ltb-true _ _ less in
        absurd (none byte page (record { is = ap (λ q. max (4096 * q) low) (sym page); below = below }))
    go false not_less =
        let least : was ≤ max (4096 * (was / 4096)) low = ltb-no _ _ not_less in
        omega arith
      where
        ltb-no : (a b : ℕ) → nat_lt a b ≡ false → b ≤ a
        ltb-no a b is = grind (arith, ltb-true, lt-ltb)

-- and so does the start of each later page
pub first-start : (low was now p : ℕ) → low ≤ was → was / 4096 < p → 4096 * p < now → IsFirst low now (4096 * p)
first-start low was now p within later below =
    let page : 4096 * p / 4096 ≡ p = omega arith in
    let least : low ≤ 4096 * p = omega arith in
    record { is = most p low least ∙ ap (λ q. max (4096 * q) low) (sym page); below = below }
  where
    most : (q low : ℕ) → low ≤ 4096 * q → 4096 * q ≡ max (4096 * q) low
    most q low within = omega arith

-- a first byte after that
pub data Risen (low was now byte : ℕ) : Type 0 where
  AsBefore : (first : IsFirst low was byte) → Risen low was now byte
  Here : (is : byte ≡ was) → Risen low was now byte
  Start : (is : byte ≡ 4096 * (byte / 4096)) → (later : was / 4096 < byte / 4096) → Risen low was now byte

pub risen : (low was now byte : ℕ) → low ≤ was → was < now → IsFirst low now byte → Risen low was now byte
risen low was now byte within rises first = go (nat_lt byte was) refl (nat_lt was byte) refl
  where
    is : byte ≡ max (4096 * (byte / 4096)) low
    is = first.is

    go : (b : Bool) → nat_lt byte was ≡ b → (c : Bool) → nat_lt was byte ≡ c → Risen low was now byte
    go true less c k = AsBefore (record { is = is; below = ltb-true _ _ less })
    go false apart true more =
        let past : was < byte = ltb-true _ _ more in
        let same : byte ≡ max (4096 * (byte / 4096)) low = is in
        Start (omega arith) (omega arith)
    go false apart false none = Here (both byte was apart none)
      where
        both : (a b : ℕ) → nat_lt a b ≡ false → nat_lt b a ≡ false → a ≡ b
        both a b x y = grind (arith, lt-ltb)
