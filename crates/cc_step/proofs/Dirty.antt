-- The first row of the dirty page table from a block's first page on that is of the block, and the block's dirty pages.
use Rattle.std.specs.Prelude.{◌≡◌, ℕ, ◌+◌, ◌*◌, ◌/◌, ◌<◌, ◌≤◌, Bool, true, false, ◌==◌, nat_le, nat_lt, is_some, List, refl}
use Rattle.std.specs.declared.option.Option.{Option}
use Rattle.std.specs.declared.option.Option.TheVariants.{Some, None}
use Rattle.std.specs.List.{find}
use Rattle.std.specs.Option.{option_map}
use Rattle.std.proofs.Common.{ap, sym, ◌∙◌, arith}
use Rattle.std.proofs.lemmas.Bool.{and_parts, and_from, eqb-true, eq-eqb, leb-true, le-leb, ltb-true, lt-ltb}
use Rattle.cc_entry.specs.Pages.{block_of}
use Rattle.cc_entry.specs.Place.{Page}
use Rattle.cc_entry.specs.declared.entry.Entry.{Entry}
use Rattle.cc_book.proofs.DirtyRows.{dirty-follows}
use Rattle.cc_dirty.specs.Order.{same_page, is_from, is_between}
use Rattle.cc_dirty.specs.Table.{row_of, Sound}
use Rattle.cc_dirty.specs.declared.row.Row.{Row}
use Rattle.cc_images.proofs.Found.{found-passes, found-too, none-fails}
use Rattle.cc_images.specs.Dirty.{AreDirty}
use Rattle.cc_journal.specs.Rows.{Follows}
use Rattle.cc_model.specs.History.{history}
use Rattle.cc_model.specs.Touches.{is_dirty}
use Rattle.cc_step.specs.Room.{IsDirtyIn}

-- the pages of a block are 64 from its first one on
in-block : (p block : ℕ) → nat_le (64 * block) p ≡ true → nat_lt p (64 * block + 64) ≡ true → block_of p ≡ block
in-block p block from below = number (leb-true (64 * block) p from) (ltb-true p (64 * block + 64) below)
  where
    number : 64 * block ≤ p → p < 64 * block + 64 → p / 64 ≡ block
    number from below = omega arith

first-in : (p block : ℕ) → block_of p ≡ block → 64 * block ≤ p
first-in p block here = omega arith

last-in : (p block : ℕ) → block_of p ≡ block → p < 64 * block + 64
last-in p block here = omega arith

module _ (past : List Entry) (s block : ℕ) (rows : List Row) (sound : Sound rows) (follows : Follows past rows) where
  abbrev test : Row → Bool
  test row = is_between s (64 * block) (64 * block + 64) row.page

  are : AreDirty (history past s) s rows
  are = dirty-follows past s rows sound follows

  abbrev page_at : ℕ → Page
  page_at p = record { stream = s; page = p }

  clean : find test rows ≡ None → (p : ℕ) → block_of p ≡ block → (o : Option Row) → row_of rows (page_at p) ≡ o → is_dirty (history past s) p ≡ false
  clean none p here None absent = sym (are.dirty p) ∙ ap (λ (o : Option Row). is_some o) absent
  clean none p here (Some row) found = absurd (cc (none-fails test (λ r. same_page r.page (page_at p)) rows row none found, passes))
    where
      parts : ((row.page.stream == s) ≡ true) × ((row.page.page == p) ≡ true)
      parts = and_parts (row.page.stream == s) (row.page.page == p) (found-passes (λ r. same_page r.page (page_at p)) rows row found)

      number : row.page.page ≡ p
      number = eqb-true row.page.page p parts.1

      within : block_of row.page.page ≡ block
      within = ap block_of number ∙ here

      passes : test row ≡ true
      passes =
          and_from _ _ (and_from _ _ parts.0 (le-leb (64 * block) row.page.page (first-in row.page.page block within)))
          (lt-ltb row.page.page (64 * block + 64) (last-in row.page.page block within))

  pub row-dirty : IsDirtyIn (history past s) block (option_map (λ (row : Row). row.page.page) (find test rows))
  row-dirty = go (find test rows) refl
    where
      go : (o : Option Row) → find test rows ≡ o → IsDirtyIn (history past s) block (option_map (λ (row : Row). row.page.page) o)
      go (Some row) found =
          let parts = and_parts (is_from s (64 * block) row.page) (nat_lt row.page.page (64 * block + 64)) (found-passes test rows row found) in
          let more = and_parts (row.page.stream == s) (nat_le (64 * block) row.page.page) parts.0 in
          let same : same_page row.page (page_at row.page.page) ≡ true = and_from (row.page.stream == s) (row.page.page == row.page.page) more.0 (eq-eqb row.page.page row.page.page refl) in
          (in-block row.page.page block more.1 parts.1, sym (are.dirty row.page.page) ∙ found-too test (λ r. same_page r.page (page_at row.page.page)) rows row found same)
      go None none = λ p here. clean none p here (row_of rows (page_at p)) refl
