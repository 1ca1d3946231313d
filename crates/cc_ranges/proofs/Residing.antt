-- Which pages can be resident: those of mapped blocks, below the size.
use Rattle.std.specs.Prelude.{◌≡◌, ℕ, ◌+◌, ◌*◌, ◌/◌, ◌<◌, ◌≤◌, ◌==◌, Bool, true, false, min, refl}
use Rattle.std.specs.declared.option.Option.TheVariants.{Some}
use Rattle.std.specs.Prelude.{List, nat_lt}
use Rattle.std.specs.Int.{div_ceil}
use Rattle.std.proofs.Common.{arith}
use Rattle.std.proofs.lemmas.Bool.{and_parts, eq-eqb, ltb-true}
use Rattle.cc_entry.specs.Pages.{block_of}
use Rattle.cc_entry.specs.Place.{Range}
use Rattle.cc_laws.proofs.Lists1.{among-any}
use Rattle.cc_model.specs.History.{Effect}
use Rattle.cc_model.specs.Ranges.{span_has}
use Rattle.cc_model.specs.Residency.{residents, is_resident, block_is_mapped}

pub unmapped-out : (h : List Effect) (block p : ℕ) → block_is_mapped h block ≡ false → block_of p ≡ block → is_resident h p ≡ false
unmapped-out h block p unmapped here = go (is_resident h p) refl
  where
    go : (b : Bool) → is_resident h p ≡ b → is_resident h p ≡ false
    go true is = absurd (cc (among-any (λ q. block_of q == block) p (residents h) is (eq-eqb (block_of p) block here), unmapped))
    go false out = out

-- a page of a span has a byte of it
pub after-first : (span : Range) (p : ℕ) → span_has (Some span) p ≡ true → span.from < 4096 * p + 4096
after-first span p has = ltb-true span.from (4096 * p + 4096) (and_parts (nat_lt span.from (4096 * p + 4096)) _ (and_parts (nat_lt span.from span.to) _ has).1).0

pub before-end : (span : Range) (p : ℕ) → span_has (Some span) p ≡ true → 4096 * p < span.to
before-end span p has = ltb-true (4096 * p) span.to (and_parts (nat_lt span.from (4096 * p + 4096)) _ (and_parts (nat_lt span.from span.to) _ has).1).1

pub block-from : (p from : ℕ) → from < 4096 * p + 4096 → from / 262144 ≤ p / 64
block-from p from after = omega (arith, after)

pub block-below : (p end : ℕ) → 4096 * p < end → p / 64 < div_ceil end 262144
block-below p end before = omega (arith, before)

pub below-both : (n a b : ℕ) → n < a → n < b → n < min a b
below-both n a b one other = omega (arith, one, other)
