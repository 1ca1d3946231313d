-- The touches of a page that came after the front of a journal, by the place of the oldest.
use Rattle.std.specs.Prelude.{◌≡◌, ℕ, suc, ◌<◌, ◌≤◌, Bool, true, false, ◌&&◌, nat_le, nat_lt, min, List, [], ◌∷◌, ◌++◌, length, Option, None, Some, cond, refl}
use Rattle.std.specs.List.{cons_option, list_all}
use Rattle.std.proofs.Common.{ap, sym, ◌∙◌, arith}
use Rattle.std.proofs.lemmas.Bool.{and_parts, ltb-true, leb-true}
use Rattle.std.proofs.lemmas.Bool.Decides.{nat_tests}
use Rattle.cc_entry.specs.declared.entry.Entry.{Entry}
use Rattle.cc_dirty.specs.Unwritten.{lower}
use Rattle.cc_model.specs.History.{Effect, effect_of, history}
use Rattle.cc_model.specs.Sizes.{Touch}
use Rattle.cc_model.specs.Touches.{touches}
use Rattle.cc_journal.specs.Rows.{journal_place, oldest_among}
use Rattle.cc_journal.specs.Since.{is_past, is_settled_page}
use Rattle.cc_journal.proofs.RowSteps.{AreBelow, touches-below}

-- a longer journal has no fewer effects of a stream
more-effects : (later front : List Entry) (s : ℕ) → length (history front s) ≤ length (history (later ++ front) s)
unfolding history
more-effects [] front s = omega arith
more-effects (e ∷ later) front s = go (effect_of e s) (more-effects later front s)
  where
    go : (o : Option Effect) → length (history front s) ≤ length (history (later ++ front) s) → length (history front s) ≤ length (cons_option o (history (later ++ front) s))
    go None le = le
    go (Some x) le = omega (arith, le)

-- no place is past the last entry
place-within : (past : List Entry) (s k : ℕ) → journal_place past s k ≤ length past
place-within [] s k = omega arith
place-within (e ∷ past) s k = go (nat_le k (length (history past s))) (place-within past s k)
  where
    go : (b : Bool) → journal_place past s k ≤ length past → cond b (journal_place past s k) (suc (length past)) ≤ suc (length past)
    go true le = omega (arith, le)
    go false le = omega arith

-- an effect came after a front where its place did
pub place-since : (later front : List Entry) (s k : ℕ) → k ≤ length (history (later ++ front) s) → nat_lt (length (history front s)) k ≡ nat_lt (length front) (journal_place (later ++ front) s k)
place-since [] front s k within = neither (length (history front s)) (length front) (journal_place front s k) within (place-within front s k)
  where
    neither : (seen n at : ℕ) → k ≤ seen → at ≤ n → nat_lt seen k ≡ nat_lt n at
    neither seen n at a b = grind (arith, nat_tests)
place-since (e ∷ later) front s k within = go (nat_le k (length (history (later ++ front) s))) refl (place-since later front s k)
  where
    both : (seen all : ℕ) → seen ≤ all → nat_le k all ≡ false → nat_lt seen k ≡ true
    both seen all le above = grind (arith, nat_tests)

    last : (n all : ℕ) → n ≤ all → nat_lt n (suc all) ≡ true
    last n all le = grind (arith, nat_tests)

    go : (b : Bool) → nat_le k (length (history (later ++ front) s)) ≡ b → (k ≤ length (history (later ++ front) s) → nat_lt (length (history front s)) k ≡ nat_lt (length front) (journal_place (later ++ front) s k))
        → nat_lt (length (history front s)) k ≡ nat_lt (length front) (cond b (journal_place (later ++ front) s k) (suc (length (later ++ front))))
    go true low rest = rest (leb-true k (length (history (later ++ front) s)) low)
    go false above rest =
        both (length (history front s)) (length (history (later ++ front) s)) (more-effects later front s) above
        ∙ sym (last (length front) (length (later ++ front)) (longer later))
      where
        longer : (l : List Entry) → length front ≤ length (l ++ front)
        longer [] = omega arith
        longer (x ∷ l) = omega (arith, longer l)

past-lower : (n a : ℕ) (o : Option ℕ) → is_past n (lower (Some a) o) ≡ (nat_lt n a && is_past n o)
past-lower n a None = go (nat_lt n a)
  where
    go : (b : Bool) → b ≡ (b && true)
    go true = refl
    go false = refl
past-lower n a (Some b) = both a b
  where
    both : (a b : ℕ) → nat_lt n (min a b) ≡ (nat_lt n a && nat_lt n b)
    both a b = grind (arith, nat_tests)

all-since : (later front : List Entry) (s : ℕ) (ts : List Touch) → AreBelow (suc (length (history (later ++ front) s))) ts → is_past (length front) (oldest_among (journal_place (later ++ front) s) ts) ≡ list_all (λ (t : Touch). nat_lt (length (history front s)) t.place) ts
all-since later front s [] below = refl
all-since later front s (t ∷ ts) below =
    let parts = and_parts (nat_lt t.place (suc (length (history (later ++ front) s)))) _ below in
    let low : t.place < suc (length (history (later ++ front) s)) = ltb-true t.place _ parts.0 in
    past-lower (length front) (journal_place (later ++ front) s t.place) (oldest_among (journal_place (later ++ front) s) ts)
    ∙ (ap (λ b. b && is_past (length front) (oldest_among (journal_place (later ++ front) s) ts)) (sym (place-since later front s t.place (omega (arith, low))))
    ∙ ap (λ b. nat_lt (length (history front s)) t.place && b) (all-since later front s ts parts.1))

-- each unwritten touch of a page came after a front where the oldest did
pub touches-since : (later front : List Entry) (s p : ℕ) → is_past (length front) (oldest_among (journal_place (later ++ front) s) (touches false (history (later ++ front) s) p)) ≡ is_settled_page (length (history front s)) (history (later ++ front) s) p
touches-since later front s p = all-since later front s (touches false (history (later ++ front) s) p) (touches-below false (history (later ++ front) s) p)
