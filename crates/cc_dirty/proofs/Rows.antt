-- The row of a page, and what the edits leave.
use Rattle.std.proofs.Common.{◌≡◌, ◌≢◌, ℕ, ◌<◌, ◌≤◌, Bool, true, false, not, List, Option, None, Some, length, get_or, set, insert, remove, inl, inr, refl, ap, ◌∙◌, sym, subst, arith}
use Rattle.std.proofs.lemmas.Bool.{cases_lt}
use Rattle.std.proofs.lemmas.Bool.Decides.{nat_tests}
use Rattle.std.proofs.lemmas.List.Elements.{All-set}
use Rattle.std.proofs.lemmas.List.Quantifiers.{all_pairs_remove}
use Rattle.std.proofs.lemmas.Option.{slice_get_within, slice_get-get_or}
use Rattle.std.proofs.lemmas.List.Elements.{All-filter}
use Rattle.std.proofs.lemmas.List.Kept.{AllPairs-filter}
use Rattle.std.specs.List.{slice_get, filter, find}
use Rattle.std.specs.Option.{IsSomeAnd}
use Rattle.cc_entry.specs.Place.{Page}
use Rattle.cc_dirty.specs.Order.{precedes, same_page, RowsAscend, SplitsAt, is_from, is_between}
use Rattle.cc_dirty.specs.Unwritten.{is_touched}
use Rattle.cc_dirty.specs.Table.{row_of, KeepsOtherRows, DropsPages, Sound}
use Rattle.cc_dirty.specs.declared.row.Row.{Row}
use Rattle.cc_dirty.proofs.Search.{read-at}
use Rattle.cc_dirty.proofs.Lookup.{find-none, find-at, find-insert, find-insert-other, find-remove, find-remove-other, find-set, find-set-other, fails-from_none, find-filter_kept, find-filter_cut}
use Rattle.cc_dirty.proofs.Edits.{All-insert, All-remove, AllPairs-insert, AllPairs-set}

is_row : Page → Row → Bool
is_row page r = same_page r.page page

differs-before : (a b : Page) → precedes a b ≡ true → same_page a b ≡ false
differs-before a b h = grind (arith, nat_tests)

-- what follows a page that doesn't precede a third one isn't the third one
differs-after : (a b c : Page) → precedes a c ≡ true → precedes a b ≡ false → same_page c b ≡ false
differs-after a b c ac ab = grind (arith, nat_tests)

same-differs : (a b q : Page) → same_page a b ≡ true → same_page q b ≡ false → same_page a q ≡ false
same-differs a b q ab qb = grind (arith, nat_tests)

same-not_before : (a b : Page) → same_page a b ≡ true → precedes a b ≡ false
same-not_before a b ab = grind (arith, nat_tests)

differs-sym : (a b : Page) → same_page a b ≡ false → same_page b a ≡ false
differs-sym a b h = grind (arith, nat_tests)

same-refl : (a : Page) → same_page a a ≡ true
same-refl a = grind (arith, nat_tests)

-- The first row whose page is picked, where no page is picked that precedes the place's page.
module _ (rows : List Row) (page : Page) (place : ℕ) (split : SplitsAt rows page place) (picks : Page → Bool) (before : (q : Page) → precedes q page ≡ true → picks q ≡ false) where
  fails-before : (k : ℕ) (d : Row) → k < place → picks (get_or rows k d).page ≡ false
  fails-before k d lt = before (get_or rows k d).page (split.before k d lt)

  pub first-at : (r : Row) → slice_get rows place ≡ Some r → picks r.page ≡ true → find (λ x. picks x.page) rows ≡ Some r
  first-at r at pass = find-at (λ x. picks x.page) rows place r at pass fails-before

  pub first-past : length rows ≤ place → find (λ x. picks x.page) rows ≡ None
  first-past past = find-none (λ x. picks x.page) rows (λ k d lt. fails-before k d (omega arith))

  -- the row at the place is not picked, nor is a page that it precedes
  pub first-none : (r : Row) → RowsAscend rows → r ≡ get_or rows place r → place < length rows → picks r.page ≡ false
      → ((q : Page) → precedes r.page q ≡ true → picks q ≡ false) → find (λ x. picks x.page) rows ≡ None
  first-none r up at within other after = find-none (λ x. picks x.page) rows fails
    where
      here : (k : ℕ) (d : Row) → k ≡ place → get_or rows k d ≡ r
      here k d e = read-at rows k place r d at within e

      fails : (k : ℕ) (d : Row) → k < length rows → picks (get_or rows k d).page ≡ false
      fails k d lt = elim (cases_lt k place) [
        | inl less ↦ fails-before k d less
        | inr from ↦ elim (cases_lt place k) [
          | inl more ↦ after (get_or rows k d).page (subst (λ (x : Row). precedes x.page (get_or rows k d).page ≡ true) (here place d refl) (up place k d more lt))
          | inr same ↦ subst (λ (x : Row). picks x.page ≡ false) (sym (here k d (omega arith))) other
        ]
      ]

pub row-present : (rows : List Row) (page : Page) (place : ℕ) (r : Row) → SplitsAt rows page place → slice_get rows place ≡ Some r → same_page r.page page ≡ true → row_of rows page ≡ Some r
row-present rows page place r split = first-at rows page place split (λ q. same_page q page) (λ q h. differs-before q page h) r

pub row-past : (rows : List Row) (page : Page) (place : ℕ) → SplitsAt rows page place → length rows ≤ place → row_of rows page ≡ None
row-past rows page place split = first-past rows page place split (λ q. same_page q page) (λ q h. differs-before q page h)

not-before : (rows : List Row) (page : Page) (place : ℕ) (r : Row) → SplitsAt rows page place → r ≡ get_or rows place r → place < length rows → precedes r.page page ≡ false
not-before rows page place r split at within = subst (λ (x : Row). precedes x.page page ≡ false) (read-at rows place place r r at within refl) (split.after place r (omega arith) within)

pub row-absent : (rows : List Row) (page : Page) (place : ℕ) (r : Row) → RowsAscend rows → SplitsAt rows page place → r ≡ get_or rows place r → place < length rows
    → same_page r.page page ≡ false → row_of rows page ≡ None
row-absent rows page place r up split at within other =
    first-none rows page place split (λ q. same_page q page) (λ q h. differs-before q page h) r up at within other
    (λ q h. differs-after r.page page q h (not-before rows page place r split at within))

-- the first row of a stream's pages from a number on
before-from : (q : Page) (stream from : ℕ) → precedes q (record { stream = stream; page = from }) ≡ true → is_from stream from q ≡ false
before-from q stream from h = grind (arith, nat_tests)

after-from : (p q : Page) (stream from : ℕ) → precedes p (record { stream = stream; page = from }) ≡ false → is_from stream from p ≡ false → precedes p q ≡ true → is_from stream from q ≡ false
after-from p q stream from place other h = grind (arith, nat_tests)

module _ (rows : List Row) (stream from place : ℕ) (split : SplitsAt rows (record { stream = stream; page = from }) place) where
  pub from-at : (r : Row) → slice_get rows place ≡ Some r → is_from stream from r.page ≡ true → find (λ x. is_from stream from x.page) rows ≡ Some r
  from-at = first-at rows (record { stream = stream; page = from }) place split (is_from stream from) (λ q h. before-from q stream from h)

  pub from-past : length rows ≤ place → find (λ x. is_from stream from x.page) rows ≡ None
  from-past = first-past rows (record { stream = stream; page = from }) place split (is_from stream from) (λ q h. before-from q stream from h)

  pub from-none : (r : Row) → RowsAscend rows → r ≡ get_or rows place r → place < length rows → is_from stream from r.page ≡ false → find (λ x. is_from stream from x.page) rows ≡ None
  from-none r up at within other =
      first-none rows (record { stream = stream; page = from }) place split (is_from stream from) (λ q h. before-from q stream from h) r up at within other
      (λ q h. after-from r.page q stream from (not-before rows (record { stream = stream; page = from }) place r split at within) other h)

-- the first of them below another number
before-between : (q : Page) (stream from to : ℕ) → precedes q (record { stream = stream; page = from }) ≡ true → is_between stream from to q ≡ false
before-between q stream from to h = grind (arith, nat_tests)

after-between : (p q : Page) (stream from to : ℕ) → precedes p (record { stream = stream; page = from }) ≡ false → is_between stream from to p ≡ false → precedes p q ≡ true → is_between stream from to q ≡ false
after-between p q stream from to place other h = grind (arith, nat_tests)

module _ (rows : List Row) (stream from to place : ℕ) (split : SplitsAt rows (record { stream = stream; page = from }) place) where
  pub between-at : (r : Row) → slice_get rows place ≡ Some r → is_between stream from to r.page ≡ true → find (λ x. is_between stream from to x.page) rows ≡ Some r
  between-at = first-at rows (record { stream = stream; page = from }) place split (is_between stream from to) (λ q h. before-between q stream from to h)

  pub between-past : length rows ≤ place → find (λ x. is_between stream from to x.page) rows ≡ None
  between-past = first-past rows (record { stream = stream; page = from }) place split (is_between stream from to) (λ q h. before-between q stream from to h)

  pub between-none : (r : Row) → RowsAscend rows → r ≡ get_or rows place r → place < length rows → is_between stream from to r.page ≡ false → find (λ x. is_between stream from to x.page) rows ≡ None
  between-none r up at within other =
      first-none rows (record { stream = stream; page = from }) place split (is_between stream from to) (λ q h. before-between q stream from to h) r up at within other
      (λ q h. after-between r.page q stream from to (not-before rows (record { stream = stream; page = from }) place r split at within) other h)

some-of : {X : Type 0} (o : Option X) (P : X → Type 0) → IsSomeAnd o P → (x : X) × (o ≡ Some x) × P x
some-of None P h = absurd h
some-of (Some x) P h = (x, refl, h)

before-same : (a b c : Page) → same_page b c ≡ true → precedes a b ≡ true → precedes a c ≡ true
before-same a b c e h = grind (arith, nat_tests)

same-before : (a b c : Page) → same_page a b ≡ true → precedes a c ≡ true → precedes b c ≡ true
same-before a b c e h = grind (arith, nat_tests)

after-same : (a b c : Page) → same_page a b ≡ true → precedes a c ≡ true → same_page c b ≡ false
after-same a b c e h = grind (arith, nat_tests)

precedes-total : (a b : Page) → precedes a b ≡ false → same_page a b ≡ false → precedes b a ≡ true
precedes-total a b h e = grind (arith, nat_tests)

module _ (rows : List Row) (place : ℕ) (sound : Sound rows) where
  module _ (row : Row) (split : SplitsAt rows row.page place) where
    fails : (k : ℕ) (d : Row) → k < place → same_page (get_or rows k d).page row.page ≡ false
    fails k d lt = differs-before (get_or rows k d).page row.page (split.before k d lt)

    pub row_of-set : IsSomeAnd (slice_get rows place) (λ r. same_page r.page row.page ≡ true) → row_of (set rows place row) row.page ≡ Some row
    row_of-set at =
        let r = some-of (slice_get rows place) (λ x. same_page x.page row.page ≡ true) at in
        find-set (λ x. same_page x.page row.page) rows place r.0 row r.1 (same-refl row.page) fails

    pub KeepsOthers-set : IsSomeAnd (slice_get rows place) (λ r. same_page r.page row.page ≡ true) → KeepsOtherRows rows (set rows place row) row.page
    KeepsOthers-set at q other =
        let r = some-of (slice_get rows place) (λ x. same_page x.page row.page ≡ true) at in
        find-set-other (λ x. same_page x.page q) rows place r.0 row r.1 (same-differs r.0.page row.page q r.2 other) (differs-sym q row.page other)

    pub Sound-set : IsSomeAnd (slice_get rows place) (λ r. same_page r.page row.page ≡ true) → is_touched row ≡ true → row.page.stream < 16 → Sound (set rows place row)
    Sound-set at dirty within =
        let r = some-of (slice_get rows place) (λ x. same_page x.page row.page ≡ true) at in
        record {
          ascending = AllPairs-set (λ a b. precedes a.page b.page ≡ true) rows place r.0 row r.1
              (λ a h. before-same a.page r.0.page row.page r.2 h) (λ a h. same-before r.0.page row.page a.page r.2 h) sound.ascending;
          touched = All-set (λ x. is_touched x ≡ true) rows place row dirty sound.touched;
          numbered = All-set (λ x. x.page.stream < 16) rows place row within sound.numbered;
        }

    pub row_of-insert : place ≤ length rows → row_of (insert rows place row) row.page ≡ Some row
    row_of-insert le = find-insert (λ x. same_page x.page row.page) rows place row (same-refl row.page) le fails

    pub KeepsOthers-insert : KeepsOtherRows rows (insert rows place row) row.page
    KeepsOthers-insert q other = find-insert-other (λ x. same_page x.page q) rows place row (differs-sym q row.page other)

    pub Sound-insert : row_of rows row.page ≡ None → is_touched row ≡ true → row.page.stream < 16 → Sound (insert rows place row)
    Sound-insert absent dirty within = record {
      ascending = AllPairs-insert (λ a b. precedes a.page b.page ≡ true) rows place row sound.ascending (λ k d lt below. split.before k d lt)
          (λ k d le lt. precedes-total (get_or rows k d).page row.page (split.after k d le lt) (fails-from_none (λ x. same_page x.page row.page) rows absent k d lt));
      touched = All-insert (λ x. is_touched x ≡ true) rows place row dirty sound.touched;
      numbered = All-insert (λ x. x.page.stream < 16) rows place row within sound.numbered;
    }

  module _ (page : Page) (split : SplitsAt rows page place) (at : IsSomeAnd (slice_get rows place) (λ r. same_page r.page page ≡ true)) where
    pub row_of-remove : row_of (remove rows place) page ≡ None
    row_of-remove = find-remove (λ x. same_page x.page page) rows place differs
      where
        r : (x : Row) × (slice_get rows place ≡ Some x) × (same_page x.page page ≡ true)
        r = some-of (slice_get rows place) (λ x. same_page x.page page ≡ true) at

        later : (k : ℕ) (d : Row) → place < k → k < length rows → same_page (get_or rows k d).page page ≡ false
        later k d lt within =
            let some : Some (get_or rows place d) ≡ Some r.0 = sym (slice_get-get_or rows place d (omega arith)) ∙ r.1 in
            let is : get_or rows place d ≡ r.0 = cc in
            after-same r.0.page page (get_or rows k d).page r.2 (subst (λ (x : Row). precedes x.page (get_or rows k d).page ≡ true) is (sound.ascending place k d lt within))

        differs : (k : ℕ) (d : Row) → k < length rows → k ≢ place → same_page (get_or rows k d).page page ≡ false
        differs k d lt ne = elim (cases_lt k place) [
          | inl less ↦ differs-before (get_or rows k d).page page (split.before k d less)
          | inr from ↦ later k d (omega arith) lt
        ]

    pub KeepsOthers-remove : KeepsOtherRows rows (remove rows place) page
    KeepsOthers-remove q other =
        let r = some-of (slice_get rows place) (λ x. same_page x.page page ≡ true) at in
        find-remove-other (λ x. same_page x.page q) rows place r.0 r.1 (same-differs r.0.page page q r.2 other)

    pub Sound-remove : Sound (remove rows place)
    Sound-remove =
        let r = some-of (slice_get rows place) (λ x. same_page x.page page ≡ true) at in
        record {
          ascending = all_pairs_remove (λ a b. precedes a.page b.page ≡ true) rows place (slice_get_within rows place r.0 r.1) sound.ascending;
          touched = All-remove (λ x. is_touched x ≡ true) rows place sound.touched;
          numbered = All-remove (λ x. x.page.stream < 16) rows place sound.numbered;
        }

-- the rows that a filter keeps
pub Sound-filter : (keep : Row → Bool) (rows : List Row) → Sound rows → Sound (filter keep rows)
Sound-filter keep rows sound = record {
  ascending = AllPairs-filter (λ a b. precedes a.page b.page ≡ true) keep rows sound.ascending;
  touched = All-filter keep (λ x. is_touched x ≡ true) rows sound.touched;
  numbered = All-filter keep (λ x. x.page.stream < 16) rows sound.numbered;
}

from-same : (stream page : ℕ) (a b : Page) → same_page a b ≡ true → is_from stream page a ≡ is_from stream page b
from-same stream page a b e = grind (arith, nat_tests)

between-same : (stream from to : ℕ) (a b : Page) → same_page a b ≡ true → is_between stream from to a ≡ is_between stream from to b
between-same stream from to a b e = grind (arith, nat_tests)

-- a filter on the pages of the rows, by a test that answers alike for the same page
DropsPages-filter : (picks : Page → Bool) → ((a b : Page) → same_page a b ≡ true → picks a ≡ picks b) → (rows new : List Row)
    → new ≡ filter (λ r. not (picks r.page)) rows → DropsPages picks rows new
DropsPages-filter picks alike rows new is = record {
  rows = is;
  dropped = λ q picked. ap (λ rs. row_of rs q) is ∙ find-filter_cut (λ x. same_page x.page q) (λ r. not (picks r.page)) (λ x same. ap not (alike x.page q same ∙ picked)) rows;
  others = λ q left. ap (λ rs. row_of rs q) is ∙ find-filter_kept (λ x. same_page x.page q) (λ r. not (picks r.page)) (λ x same. ap not (alike x.page q same ∙ left)) rows;
}

pub DropsPages-from : (stream page : ℕ) (rows new : List Row) → new ≡ filter (λ r. not (is_from stream page r.page)) rows → DropsPages (is_from stream page) rows new
DropsPages-from stream page = DropsPages-filter (is_from stream page) (from-same stream page)

pub DropsPages-between : (stream from to : ℕ) (rows new : List Row) → new ≡ filter (λ r. not (is_between stream from to r.page)) rows → DropsPages (is_between stream from to) rows new
DropsPages-between stream from to = DropsPages-filter (is_between stream from to) (between-same stream from to)
