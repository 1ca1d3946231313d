-- The first row of the dirty page table that is of a span from a page on, and the span's dirty pages.
use Rattle.std.specs.Prelude.{◌≡◌, ℕ, suc, ◌<◌, ◌≤◌, ◌⊎◌, ◌+◌, ◌-◌, ◌/◌, max, Bool, true, false, cond, ◌&&◌, ◌==◌, nat_le, nat_lt, if◌then◌else◌, is_some, List, [], ◌∷◌, Option, None, Some, refl}
use Rattle.std.specs.List.{find, All, AllPairs}
use Rattle.std.specs.Option.{option_map}
use Rattle.std.proofs.Common.{ap, sym, subst, ◌∙◌, arith, inl, inr}
use Rattle.std.proofs.lemmas.Bool.{and_parts, and_from, eqb-true, eq-eqb, leb-true, le-leb}
use Rattle.std.proofs.lemmas.Bool.Decides.{nat_tests}
use Rattle.cc_entry.specs.Pages.{has_page}
use Rattle.cc_entry.specs.Place.{Page, Range}
use Rattle.cc_entry.specs.declared.entry.Entry.{Entry}
use Rattle.cc_book.proofs.DirtyRows.{dirty-follows}
use Rattle.cc_dirty.specs.Order.{same_page, precedes, is_from, is_between}
use Rattle.cc_dirty.specs.Table.{row_of, Sound}
use Rattle.cc_dirty.specs.declared.row.Row.{Row}
use Rattle.cc_images.proofs.Found.{found-passes, found-too, none-fails, all-found}
use Rattle.cc_images.specs.Dirty.{AreDirty}
use Rattle.cc_journal.specs.Rows.{Follows}
use Rattle.cc_model.specs.History.{history}
use Rattle.cc_model.specs.Ranges.{span_has}
use Rattle.cc_model.specs.Touches.{is_dirty}
use Rattle.cc_ranges.specs.Dirty.{is_of_span, pages_end, IsNextDirty}

heads : {X : Type 0} (R : X → X → Type 0) (x : X) (xs : List X) → AllPairs R (x ∷ xs) → All (R x) xs
heads R x xs pairs = λ k d lt. pairs 0 (suc k) d (omega arith) (omega arith)

tails : {X : Type 0} (R : X → X → Type 0) (x : X) (xs : List X) → AllPairs R (x ∷ xs) → AllPairs R xs
tails R x xs pairs = λ i j d a b. pairs (suc i) (suc j) d (omega arith) (omega arith)

-- what another test finds and this one passes is what this one finds, or stands after it
pub found-order : {X : Type 0} (R : X → X → Type 0) (test other : X → Bool) (xs : List X) (x y : X) → AllPairs R xs → find test xs ≡ Some x → find other xs ≡ Some y → test y ≡ true → (x ≡ y) ⊎ R x y
found-order R test other [] x y pairs found also passes = absurd (cc)
found-order {X} R test other (z ∷ xs) x y pairs found also passes =
    go (test z) refl found (other z) also (found-order R test other xs x y (tails R z xs pairs))
  where
    go : (b : Bool) → test z ≡ b → cond b (Some z) (find test xs) ≡ Some x → (c : Bool) → cond c (Some z) (find other xs) ≡ Some y → (find test xs ≡ Some x → find other xs ≡ Some y → test y ≡ true → (x ≡ y) ⊎ R x y) → (x ≡ y) ⊎ R x y
    go true is it true too rest =
        let first : z ≡ x = cc in
        let second : z ≡ y = cc in
        inl (sym first ∙ second)
    go true is it false too rest =
        let first : z ≡ x = cc in
        inr (subst (λ (a : X). R a y) first (all-found (R z) other xs y (heads R z xs pairs) too))
    go false is it true too rest = let second : z ≡ y = cc in absurd (cc (ap test second))
    go false is it false too rest = rest it too passes

-- tests that answer alike find the same
find-alike : {X : Type 0} (test other : X → Bool) → ((x : X) → test x ≡ other x) → (xs : List X) → find test xs ≡ find other xs
find-alike test other alike [] = refl
find-alike test other alike (x ∷ xs) = rw (alike x, find-alike test other alike xs) refl

-- the rows from a page on are those of the whole stream from it on
pub first-of-all : (s from : ℕ) (rows : List Row) → find (λ (r : Row). is_from s from r.page) rows ≡ find (is_of_span s None from) rows
first-of-all s from = find-alike (λ (r : Row). is_from s from r.page) (is_of_span s None from) (λ r. all (r.page.stream == s) (nat_le from r.page.page))
  where
    all : (here above : Bool) → (here && above) ≡ (here && (above && true))
    all here true = refl
    all here false = refl

-- the pages of a range, from a page on, lie between two numbers
in_span : (s from : ℕ) (span : Range) (q : Page) (some : Bool) → nat_lt span.from span.to ≡ some → is_between s (max from (span.from / 4096)) (if some then (span.to - 1) / 4096 + 1 else 0) q ≡ ((q.stream == s) && (nat_le from q.page && has_page span q.page))
in_span s from span q true some = grind (arith, nat_tests)
in_span s from span q false none = grind (arith, nat_tests)

pub first-of-span : (s from : ℕ) (span : Range) (rows : List Row) → find (λ (r : Row). is_between s (max from (span.from / 4096)) (pages_end span) r.page) rows ≡ find (is_of_span s (Some span) from) rows
first-of-span s from span = find-alike (λ (r : Row). is_between s (max from (span.from / 4096)) (pages_end span) r.page) (is_of_span s (Some span) from) (λ r. in_span s from span r.page (nat_lt span.from span.to) refl)

page_at : ℕ → ℕ → Page
page_at s p = record { stream = s; page = p }

-- a row that is the first one's, or follows it, is of no lesser page
not-below : (a b : Page) (s p : ℕ) → (a.stream == s) ≡ true → same_page b (record { stream = s; page = p }) ≡ true → p < a.page → precedes a b ≡ true → ⊥
not-below a b s p of_stream same less before = grind (arith, nat_tests)

module _ (past : List Entry) (s : ℕ) (span : Option Range) (from : ℕ) (rows : List Row) (sound : Sound rows) (follows : Follows past rows) where
  are : AreDirty (history past s) s rows
  are = dirty-follows past s rows sound follows

  -- the row of a page of the span passes
  passes-own : (p : ℕ) (row : Row) → row_of rows (record { stream = s; page = p }) ≡ Some row → from ≤ p → span_has span p ≡ true → is_of_span s span from row ≡ true
  passes-own p row found least has =
      let parts = and_parts (row.page.stream == s) (row.page.page == p) (found-passes (λ r. same_page r.page (record { stream = s; page = p })) rows row found) in
      let here = eqb-true row.page.page p parts.1 in
      and_from _ _ parts.0 (subst (λ (q : ℕ). (nat_le from q && span_has span q) ≡ true) (sym here) (and_from _ _ (le-leb from p least) has))

  pub row-next : IsNextDirty (history past s) span from (option_map (λ (row : Row). row.page.page) (find (is_of_span s span from) rows))
  row-next = go (find (is_of_span s span from) rows) refl
    where
      clean : find (is_of_span s span from) rows ≡ None → (p : ℕ) → from ≤ p → span_has span p ≡ true → (o : Option Row) → row_of rows (record { stream = s; page = p }) ≡ o → is_dirty (history past s) p ≡ false
      clean none p least has None absent = sym (are.dirty p) ∙ ap (λ (o : Option Row). is_some o) absent
      clean none p least has (Some row) found =
          absurd (cc (none-fails (is_of_span s span from) (λ r. same_page r.page (record { stream = s; page = p })) rows row none found, passes-own p row found least has))

      lesser : (row : Row) → find (is_of_span s span from) rows ≡ Some row → (p : ℕ) → from ≤ p → p < row.page.page → span_has span p ≡ true → (o : Option Row) → row_of rows (record { stream = s; page = p }) ≡ o → is_dirty (history past s) p ≡ false
      lesser row found p least less has None absent = sym (are.dirty p) ∙ ap (λ (o : Option Row). is_some o) absent
      lesser row found p least less has (Some other) is = absurd (after (found-order (λ a b. precedes a.page b.page ≡ true) (is_of_span s span from) (λ r. same_page r.page (record { stream = s; page = p })) rows row other sound.ascending found is (passes-own p other is least has)))
        where
          of_stream : (row.page.stream == s) ≡ true
          of_stream = (and_parts (row.page.stream == s) _ (found-passes (is_of_span s span from) rows row found)).0

          same : same_page other.page (record { stream = s; page = p }) ≡ true
          same = found-passes (λ r. same_page r.page (record { stream = s; page = p })) rows other is

          after : (row ≡ other) ⊎ (precedes row.page other.page ≡ true) → ⊥
          after (inl this) =
              let here : row.page.page ≡ p = ap (λ (r : Row). r.page.page) this ∙ eqb-true other.page.page p (and_parts (other.page.stream == s) (other.page.page == p) same).1 in
              absurd (omega (arith, here, less))
          after (inr before) = not-below row.page other.page s p of_stream same less before

      go : (o : Option Row) → find (is_of_span s span from) rows ≡ o → IsNextDirty (history past s) span from (option_map (λ (row : Row). row.page.page) o)
      go None none = λ p least has. clean none p least has (row_of rows (record { stream = s; page = p })) refl
      go (Some row) found =
          let parts = and_parts (row.page.stream == s) (nat_le from row.page.page && span_has span row.page.page) (found-passes (is_of_span s span from) rows row found) in
          let more = and_parts (nat_le from row.page.page) (span_has span row.page.page) parts.1 in
          record {
            from_is = leb-true from row.page.page more.0;
            in_span = more.1;
            dirty = sym (are.dirty row.page.page)
                ∙ found-too (is_of_span s span from) (λ r. same_page r.page (record { stream = s; page = row.page.page })) rows row found
                (and_from _ _ parts.0 (eq-eqb row.page.page row.page.page refl));
            between = λ p least less has. lesser row found p least less has (row_of rows (record { stream = s; page = p })) refl;
          }
