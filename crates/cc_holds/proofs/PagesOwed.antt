-- The pages to which a hold owes a stamp.
use Rattle.std.specs.Prelude.{◌≡◌, ℕ, zero, suc, ◌+◌, ◌-◌, ◌*◌, ◌/◌, Bool, true, false, ◌&&◌, ◌||◌, ◌==◌, nat_lt, nat_le, List, [], ◌∷◌, ◌++◌, if◌then◌else◌, refl}
use Rattle.std.specs.List.{list_any, range_with_len}
use Rattle.std.proofs.Common.{ap, sym, ◌∙◌, arith}
use Rattle.std.proofs.lemmas.Bool.{eqb-true}
use Rattle.std.proofs.lemmas.Bool.Decides.{nat_tests}
use Rattle.std.proofs.lemmas.List.Folds.{list_any-append}
use Rattle.cc_entry.specs.Place.{Range}
use Rattle.cc_entry.specs.Pages.{has_page, last_page, pages_of}
use Rattle.cc_model.specs.Numbers.{is_among}
use Rattle.cc_holds.specs.Touched.{has_touched, with_page, with_pages}

pub among-range : (first n p : ℕ) → is_among p (range_with_len first n) ≡ (nat_le first p && nat_lt p (first + n))
among-range first zero p = grind (arith, nat_tests)
among-range first (suc n) p =
    let rest = among-range (first + 1) n p in
    grind (arith, nat_tests, rest)

-- a page is among those of a range where the range has a byte in it
pub among-pages_of : (r : Range) (p : ℕ) → is_among p (pages_of r) ≡ has_page r p
among-pages_of r p = go (nat_lt r.from r.to) refl
  where
    go : (b : Bool) → nat_lt r.from r.to ≡ b → is_among p (if b then range_with_len (r.from / 4096) ((last_page r + 1) - r.from / 4096) else []) ≡ (b && (nat_lt r.from (4096 * p + 4096) && nat_lt (4096 * p) r.to))
    go true is =
        let within = among-range (r.from / 4096) ((last_page r + 1) - r.from / 4096) p in
        grind (arith, nat_tests, within, is)
    go false is = refl

touched-one : (touched : List ℕ) (q p : ℕ) → has_touched (with_page touched q) p ≡ (has_touched touched p || (q == p))
touched-one touched q p = go (has_touched touched q) refl
  where
    again : (b : Bool) → (q == p) ≡ b → has_touched touched q ≡ true → has_touched touched p ≡ (has_touched touched p || b)
    again true same there = rw (sym (eqb-true q p same), there) refl
    again false other there = grind (arith, nat_tests)

    go : (b : Bool) → has_touched touched q ≡ b → has_touched (if b then touched else touched ++ q ∷ []) p ≡ (has_touched touched p || (q == p))
    go true there = again (q == p) refl there
    go false there =
        let both = list_any-append (λ m. m == p) touched (q ∷ []) in
        both ∙ ap (λ b. has_touched touched p || b) (or_none (q == p))
      where
        or_none : (b : Bool) → (b || false) ≡ b
        or_none true = refl
        or_none false = refl

or_assoc : (a b c : Bool) → ((a || b) || c) ≡ (a || (b || c))
or_assoc true b c = refl
or_assoc false b c = refl

-- the pages that were touched before, and those that are touched now
pub touched-with : (touched pages : List ℕ) (p : ℕ) → has_touched (with_pages touched pages) p ≡ (has_touched touched p || is_among p pages)
touched-with touched [] p = go (has_touched touched p)
  where
    go : (b : Bool) → b ≡ (b || false)
    go true = refl
    go false = refl
touched-with touched (q ∷ pages) p =
    touched-with (with_page touched q) pages p
    ∙ (ap (λ b. b || is_among p pages) (touched-one touched q p)
    ∙ or_assoc (has_touched touched p) (q == p) (is_among p pages))

or_flip : (a b : Bool) → (a || b) ≡ (b || a)
or_flip true true = refl
or_flip true false = refl
or_flip false true = refl
or_flip false false = refl

-- a further range for which a stamp is owed
pub touched-further : (touched : List ℕ) (r : Range) (owed : List Range) (p : ℕ) → has_touched touched p ≡ list_any (λ r. has_page r p) owed → has_touched (with_pages touched (pages_of r)) p ≡ list_any (λ r. has_page r p) (r ∷ owed)
touched-further touched r owed p same =
    touched-with touched (pages_of r) p
    ∙ (rw (same, among-pages_of r p) (or_flip (list_any (λ r. has_page r p) owed) (has_page r p)))
