-- The pages that a scan picks: no two are the same, and they are no more than the cache may have dirty.
use Rattle.std.specs.Prelude.{◌≡◌, ℕ, zero, suc, ◌+◌, ◌-◌, ◌<◌, ◌≤◌, Bool, true, false, not, cond, ◌&&◌, ◌==◌, List, [], ◌∷◌, ◌++◌, length, map, take, refl}
use Rattle.std.specs.List.{AllByRecursion, IsDistinct, filter, flat_map, list_all, range_with_len, sum_by}
use Rattle.std.specs.Prelude.{nat_eq, None}
use Rattle.std.proofs.Common.{ap, sym, ◌∙◌, subst, arith, length-append}
use Rattle.std.proofs.lemmas.Bool.{eq-eqb, eqb-true, ne_eqb}
use Rattle.std.proofs.lemmas.List.Sums.{sum_by-cons}
use Rattle.cc_entry.specs.Place.{Page}
use Rattle.cc_entry.specs.declared.entry.Entry.{Entry}
use Rattle.cc_entry.specs.declared.entry.Entry.TheVariants as entry
use Rattle.cc_journal.proofs.GoodEntries.{MayBePushed-good}
use Rattle.cc_journal.specs.Journal.{MayBePushed}
use Rattle.cc_laws.proofs.BlockLists.{IsDistinct-filter}
use Rattle.cc_laws.proofs.BlockPages.{IsDistinct-ascending}
use Rattle.cc_laws.proofs.HistorySteps.{history-scan}
use Rattle.cc_model.specs.Allowed.{IsAllowed, IsAllowedSoFar, IsOwed, owed_begin}
use Rattle.cc_model.specs.Cache.{all_streams, dirty_count, dirty_total, lazy_pages, written_behind}
use Rattle.cc_model.specs.Covered.{IsCovered, IsCoveredEntry}
use Rattle.cc_model.specs.Good.{IsGood}
use Rattle.cc_model.specs.History.{Effect, history}
use Rattle.cc_model.specs.Legal.{IsLegal, IsLegalEntry}
use Rattle.cc_model.specs.Passes.{is_same_page}
use Rattle.cc_model.specs.Pick.{cursor, is_after, last_total, pick, pick_count}
use Rattle.cc_model.specs.Settings.{has_no_write_behind, is_temporary}
use Rattle.cc_model.specs.Setup.{Setup}
use Rattle.cc_model.specs.Touches.{dirty_pages, is_dirty, touched}
use Rattle.cc_step.proofs.Placed.{so-far}
use Rattle.cc_calls.specs.Ticks.{ArePicked, has_disk}

abbrev AreApart : List Page → Type 0
AreApart pages = IsDistinct is_same_page pages

-- What is said of each element of a list is said of those of its parts, and of two lists put together.
module _ {X : Type 0} (P : X → Type 0) where
  every-append : (xs ys : List X) → AllByRecursion P xs → AllByRecursion P ys → AllByRecursion P (xs ++ ys)
  every-append [] ys a b = b
  every-append (x ∷ xs) ys a b = (a.0, every-append xs ys a.1 b)

  every-take : (n : ℕ) (xs : List X) → AllByRecursion P xs → AllByRecursion P (take n xs)
  every-take zero xs all = tt
  every-take (suc n) [] all = tt
  every-take (suc n) (x ∷ xs) all = (all.0, every-take n xs all.1)

  every-filter : (test : X → Bool) (xs : List X) → AllByRecursion P xs → AllByRecursion P (filter test xs)
  every-filter test [] all = tt
  every-filter test (x ∷ xs) all = go (test x) (every-filter test xs all.1)
    where
      go : (b : Bool) → AllByRecursion P (filter test xs) → AllByRecursion P (cond b (x ∷ filter test xs) (filter test xs))
      go true rest = (all.0, rest)
      go false rest = rest

  every-implies : (Q : X → Type 0) → ((x : X) → P x → Q x) → (xs : List X) → AllByRecursion P xs → AllByRecursion Q xs
  every-implies Q implies [] all = tt
  every-implies Q implies (x ∷ xs) all = (implies x all.0, every-implies Q implies xs all.1)

passes-filter : (test : Page → Bool) (xs : List Page) → AllByRecursion (λ x. test x ≡ true) (filter test xs)
passes-filter test [] = tt
passes-filter test (x ∷ xs) = go (test x) refl (passes-filter test xs)
  where
    go : (b : Bool) → test x ≡ b → AllByRecursion (λ y. test y ≡ true) (filter test xs) → AllByRecursion (λ y. test y ≡ true) (cond b (x ∷ filter test xs) (filter test xs))
    go true is rest = (is, rest)
    go false is rest = rest

-- Pages that are apart.
apart-filter : (test : Page → Bool) (xs : List Page) → AreApart xs → AreApart (filter test xs)
unfolding IsDistinct
apart-filter test [] apart = tt
apart-filter test (x ∷ xs) apart = go (test x) (every-filter (λ y. is_same_page x y ≡ false) test xs apart.0) (apart-filter test xs apart.1)
  where
    go : (b : Bool) → AllByRecursion (λ y. is_same_page x y ≡ false) (filter test xs) → AreApart (filter test xs) → AreApart (cond b (x ∷ filter test xs) (filter test xs))
    go true others rest = (others, rest)
    go false others rest = rest

apart-take : (n : ℕ) (xs : List Page) → AreApart xs → AreApart (take n xs)
unfolding IsDistinct
apart-take zero xs apart = tt
apart-take (suc n) [] apart = tt
apart-take (suc n) (x ∷ xs) apart = (every-take (λ y. is_same_page x y ≡ false) n xs apart.0, apart-take n xs apart.1)

apart-append : (xs ys : List Page) → AreApart xs → AreApart ys → AllByRecursion (λ x. AllByRecursion (λ y. is_same_page x y ≡ false) ys) xs → AreApart (xs ++ ys)
unfolding IsDistinct
apart-append [] ys a b across = b
apart-append (x ∷ xs) ys a b across = (every-append (λ y. is_same_page x y ≡ false) xs ys a.0 across.0, apart-append xs ys a.1 b across.1)

same-is : (a b : Page) → is_same_page a b ≡ true → a ≡ b
same-is a b same = go (a.stream == b.stream) refl (a.page == b.page) refl same
  where
    go : (s : Bool) → (a.stream == b.stream) ≡ s → (p : Bool) → (a.page == b.page) ≡ p → (s && p) ≡ true → a ≡ b
    go true streams true pages both = rw (eqb-true a.stream b.stream streams, eqb-true a.page b.page pages) refl
    go true streams false pages both = absurd (cc)
    go false streams p pages both = absurd (cc)

-- pages at which a test differs
apart-test : (test : Page → Bool) (a b : Page) → test a ≡ true → not (test b) ≡ true → is_same_page a b ≡ false
apart-test test a b passes fails = go (is_same_page a b) refl
  where
    go : (s : Bool) → is_same_page a b ≡ s → s ≡ false
    go true same = let is = same-is a b same in let other : not (test a) ≡ true = rw is fails in absurd (cc (passes, other))
    go false other = refl

-- those that pass a test, and then those that do not
apart-round : (test : Page → Bool) (xs : List Page) → AreApart xs → AreApart (filter test xs ++ filter (λ x. not (test x)) xs)
apart-round test xs apart =
    apart-append (filter test xs) (filter (λ x. not (test x)) xs) (apart-filter test xs apart) (apart-filter (λ x. not (test x)) xs apart)
    (every-implies (λ x. test x ≡ true) (λ x. AllByRecursion (λ y. is_same_page x y ≡ false) (filter (λ z. not (test z)) xs))
    (λ x passes. every-implies (λ y. not (test y) ≡ true) (λ y. is_same_page x y ≡ false) (λ y fails. apart-test test x y passes fails) (filter (λ z. not (test z)) xs) (passes-filter (λ z. not (test z)) xs))
    (filter test xs) (passes-filter test xs))

-- the pages of one stream
abbrev page_in : ℕ → ℕ → Page
page_in s p = record { stream = s; page = p }

apart-numbers : (s : ℕ) (ps : List ℕ) → IsDistinct nat_eq ps → AreApart (map (page_in s) ps)
unfolding IsDistinct
apart-numbers s [] distinct = tt
apart-numbers s (p ∷ ps) distinct = (others ps distinct.0, apart-numbers s ps distinct.1)
  where
    others : (qs : List ℕ) → AllByRecursion (λ q. nat_eq p q ≡ false) qs → AllByRecursion (λ y. is_same_page (page_in s p) y ≡ false) (map (page_in s) qs)
    others [] all = tt
    others (q ∷ qs) all = (rw (eq-eqb s s refl) all.0, others qs all.1)

in-stream : (s : ℕ) (ps : List ℕ) → AllByRecursion (λ page. page.stream ≡ s) (map (page_in s) ps)
in-stream s [] = tt
in-stream s (p ∷ ps) = (refl, in-stream s ps)

apart-behind : (past : List Entry) (s : ℕ) → AreApart (written_behind past s)
unfolding IsDistinct
apart-behind past s = go (not (is_temporary (history past s)) && not (has_no_write_behind (history past s)))
  where
    go : (b : Bool) → AreApart (cond b (map (page_in s) (dirty_pages (history past s))) [])
    go true = apart-numbers s (dirty_pages (history past s)) (IsDistinct-filter (is_dirty (history past s)) _ (IsDistinct-ascending (touched (history past s))))
    go false = tt

behind-stream : (past : List Entry) (s : ℕ) → AllByRecursion (λ page. page.stream ≡ s) (written_behind past s)
behind-stream past s = go (not (is_temporary (history past s)) && not (has_no_write_behind (history past s)))
  where
    go : (b : Bool) → AllByRecursion (λ page. page.stream ≡ s) (cond b (map (page_in s) (dirty_pages (history past s))) [])
    go true = in-stream s (dirty_pages (history past s))
    go false = tt

-- those of streams from one on
from-stream : (past : List Entry) (from n : ℕ) → AllByRecursion (λ page. from ≤ page.stream) (flat_map (written_behind past) (range_with_len from n))
from-stream past from zero = tt
from-stream past from (suc n) =
    every-append (λ page. from ≤ page.stream) (written_behind past from) (flat_map (written_behind past) (range_with_len (from + 1) n))
    (every-implies (λ page. page.stream ≡ from) (λ page. from ≤ page.stream) (λ page is. omega (arith, is)) (written_behind past from) (behind-stream past from))
    (every-implies (λ page. from + 1 ≤ page.stream) (λ page. from ≤ page.stream) (λ page more. omega (arith, more)) (flat_map (written_behind past) (range_with_len (from + 1) n)) (from-stream past (from + 1) n))

other-stream : (from : ℕ) (a b : Page) → a.stream ≡ from → from + 1 ≤ b.stream → is_same_page a b ≡ false
other-stream from a b here above = rw (ne_eqb a.stream b.stream (λ is. omega (arith, is, here, above))) refl

apart-streams : (past : List Entry) (from n : ℕ) → AreApart (flat_map (written_behind past) (range_with_len from n))
unfolding IsDistinct
apart-streams past from zero = tt
apart-streams past from (suc n) =
    apart-append (written_behind past from) (flat_map (written_behind past) (range_with_len (from + 1) n)) (apart-behind past from) (apart-streams past (from + 1) n)
    (every-implies (λ page. page.stream ≡ from) (λ x. AllByRecursion (λ y. is_same_page x y ≡ false) (flat_map (written_behind past) (range_with_len (from + 1) n)))
    (λ x here.
    every-implies (λ page. from + 1 ≤ page.stream) (λ y. is_same_page x y ≡ false) (λ y above. other-stream from x y here above)
    (flat_map (written_behind past) (range_with_len (from + 1) n)) (from-stream past (from + 1) n))
    (written_behind past from) (behind-stream past from))

pub apart-pick : (u : Setup) (past : List Entry) → AreApart (pick u past)
unfolding pick lazy_pages
apart-pick u past = apart-take _ _ (apart-round (is_after (cursor past)) _ (apart-streams past 0 16))

-- How many they are.
length-take-most : (n : ℕ) (xs : List Page) → length (take n xs) ≤ length xs
length-take-most zero xs = omega arith
length-take-most (suc n) [] = omega arith
length-take-most (suc n) (x ∷ xs) = let rest = length-take-most n xs in omega (arith, rest)

length-round : (test : Page → Bool) (xs : List Page) → length (filter test xs ++ filter (λ x. not (test x)) xs) ≡ length xs
length-round test [] = refl
length-round test (x ∷ xs) = go (test x) (length-round test xs)
  where
    go : (b : Bool) → length (filter test xs ++ filter (λ y. not (test y)) xs) ≡ length xs → length (cond b (x ∷ filter test xs) (filter test xs) ++ cond (not b) (x ∷ filter (λ y. not (test y)) xs) (filter (λ y. not (test y)) xs)) ≡ suc (length xs)
    go true rest = ap suc rest
    go false rest =
        let one = length-append (filter test xs) (x ∷ filter (λ y. not (test y)) xs) in
        let both = length-append (filter test xs) (filter (λ y. not (test y)) xs) in
        omega (arith, one, both, rest)

length-map-page : (s : ℕ) (ps : List ℕ) → length (map (page_in s) ps) ≡ length ps
length-map-page s [] = refl
length-map-page s (p ∷ ps) = ap suc (length-map-page s ps)

few-behind : (past : List Entry) (s : ℕ) → length (written_behind past s) ≤ dirty_count (history past s)
few-behind past s = go (not (is_temporary (history past s)) && not (has_no_write_behind (history past s)))
  where
    go : (b : Bool) → length (cond b (map (page_in s) (dirty_pages (history past s))) []) ≤ dirty_count (history past s)
    go true = omega (arith, length-map-page s (dirty_pages (history past s)))
    go false = omega arith

few-streams : (past : List Entry) (ss : List ℕ) → length (flat_map (written_behind past) ss) ≤ sum_by (λ s. dirty_count (history past s)) ss
few-streams past [] = omega arith
few-streams past (s ∷ ss) =
    let rest = few-streams past ss in
    let here = few-behind past s in
    let all = length-append (written_behind past s) (flat_map (written_behind past) ss) in
    let sum = sum_by-cons (λ s. dirty_count (history past s)) s ss in
    omega (arith, rest, here, all, sum)

few-lazy : (past : List Entry) → length (lazy_pages past) ≤ dirty_total past
unfolding lazy_pages dirty_total
few-lazy past = few-streams past all_streams

few-picked : (u : Setup) (past : List Entry) → length (pick u past) ≤ length (lazy_pages past)
unfolding pick
few-picked u past =
    let most = length-take-most (pick_count u.threshold (length (lazy_pages past)) (last_total past)) (filter (is_after (cursor past)) (lazy_pages past) ++ filter (λ page. not (is_after (cursor past) page)) (lazy_pages past)) in
    let all = length-round (is_after (cursor past)) (lazy_pages past) in
    omega (arith, most, all)

-- The entry of a scan may stand where it picked those.
nothing_owed : (e : Entry) (past : List Entry) → owed_begin past ≡ None → IsOwed (owed_begin past) e
nothing_owed e past none = rw none tt

pub good-scan : (u : Setup) (past : List Entry) (pass : ℕ) (picked : List Page) → picked ≡ pick u past → IsGood u past → IsGood u (entry.Scan pass picked ∷ past)
unfolding IsLegal IsLegalEntry IsAllowed IsAllowedSoFar IsCovered IsCoveredEntry
good-scan u past pass picked is good = record {
  legal = (tt, good.legal);
  allowed = ((nothing_owed _ past good.allowed.1, is, good.allowed.0), refl);
  covered = (tt, good.covered);
}

pub pushed-scan : (u : Setup) (past : List Entry) (pass : ℕ) (picked : List Page) → picked ≡ pick u past → IsGood u past → MayBePushed past (entry.Scan pass picked)
pushed-scan u past pass picked is good = MayBePushed-good u past (entry.Scan pass picked) (so-far u (entry.Scan pass picked ∷ past) (good-scan u past pass picked is good))

dirty-scan : (past : List Entry) (pass : ℕ) (picked : List Page) (ss : List ℕ) → sum_by (λ s. dirty_count (history (entry.Scan pass picked ∷ past) s)) ss ≡ sum_by (λ s. dirty_count (history past s)) ss
dirty-scan past pass picked [] = refl
dirty-scan past pass picked (s ∷ ss) =
    sum_by-cons (λ s. dirty_count (history (entry.Scan pass picked ∷ past) s)) s ss
    ∙ (rw (history-scan pass picked past s) (ap (λ n. dirty_count (history past s) + n) (dirty-scan past pass picked ss)) ∙ sym (sum_by-cons (λ s. dirty_count (history past s)) s ss))

total-scan : (past : List Entry) (pass : ℕ) (picked : List Page) → dirty_total (entry.Scan pass picked ∷ past) ≡ dirty_total past
unfolding dirty_total
total-scan past pass picked = dirty-scan past pass picked all_streams

pub few-pick : (u : Setup) (past : List Entry) → IsGood u past → length (pick u past) ≤ 16384
few-pick u past good =
    let few = (pushed-scan u past 0 (pick u past) refl good).few in
    omega (arith, few, total-scan past 0 (pick u past), few-lazy past, few-picked u past)

-- what is known of them
pub are-picked : (u : Setup) (past : List Entry) (streams : ℕ) (pages : List Page) → IsGood u past → pages ≡ pick u past → list_all (has_disk streams) pages ≡ true → ArePicked streams pages
are-picked u past streams pages good is known = record {
  known = known;
  distinct = subst (λ (l : List Page). IsDistinct is_same_page l) (sym is) (apart-pick u past);
  few = omega (arith, ap length is, few-pick u past good);
}
