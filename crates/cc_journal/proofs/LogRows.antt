-- The rows of all streams with one log are the log's dirty page table.
use Rattle.std.specs.Prelude.{◌≡◌, ℕ, zero, suc, ◌+◌, ◌<◌, ◌≤◌, Bool, true, false, cond, ◌==◌, All, List, [], ◌∷◌, ◌++◌, Option, None, map, filter, filter_map, flat_map, refl}
use Rattle.std.specs.List.{range_with_len, cons_option, AllByRecursion}
use Rattle.std.specs.Option.{option_map}
use Rattle.std.proofs.Common.{ap, sym, ◌∙◌, arith}
use Rattle.std.proofs.lemmas.Bool.{eqb-true, eqb-false, ne_eqb}
use Rattle.std.proofs.lemmas.Bool.Decides.{nat_tests}
use Rattle.std.proofs.lemmas.List.Elements.{All-head, All-tail, filter_map-append}
use Rattle.cc_entry.specs.Place.{Page}
use Rattle.cc_entry.specs.declared.entry.Entry.{Entry}
use Rattle.cc_entry.specs.declared.place.DirtyRow.{DirtyRow}
use Rattle.cc_dirty.specs.declared.row.Row.{Row}
use Rattle.cc_dirty.specs.Order.{precedes}
use Rattle.cc_dirty.specs.Table.{is_row_of_stream, Sound}
use Rattle.cc_journal.specs.Rows.{Follows}
use Rattle.cc_model.specs.History.{Effect, history}
use Rattle.cc_model.specs.Touches.{dirty_pages}
use Rattle.cc_model.specs.Settings.{log_of}
use Rattle.cc_model.specs.Stamps.{dirty_row_of, dirty_rows_of, is_log, dirty_table}
use Rattle.cc_journal.specs.Stamped.{lsns_in, answer_for, answer_in}
use Rattle.cc_journal.proofs.RowLsns.{of_page, of_row, Ordered, ordered, rows-are}

-- rows in order, stream by stream
from_stream : (a b : Page) → precedes a b ≡ true → a.stream ≤ b.stream
from_stream a b before = grind (arith, nat_tests)

none-below : (s : ℕ) (r : Row) (rows : List Row) → s < r.page.stream → AllByRecursion (λ b. precedes r.page b.page ≡ true) rows → filter (is_row_of_stream s) rows ≡ []
none-below s r [] less before = refl
none-below s r (b ∷ rows) less before =
    let from : r.page.stream ≤ b.page.stream = from_stream r.page b.page before.0 in
    rw (ne_eqb b.page.stream s (λ e. omega arith)) (none-below s r rows less before.1)

abbrev by_stream : List Row → ℕ → List Row
by_stream rows s = filter (is_row_of_stream s) rows

module _ (r : Row) (rows : List Row) where
  -- a row adds nothing to the streams past its own
  past-own : (a n : ℕ) → r.page.stream < a → flat_map (by_stream (r ∷ rows)) (range_with_len a n) ≡ flat_map (by_stream rows) (range_with_len a n)
  past-own a zero past = refl
  past-own a (suc n) past = rw (ne_eqb r.page.stream a (λ e. omega arith), past-own (a + 1) n (omega arith)) refl

  one-more : (a n : ℕ) → AllByRecursion (λ b. precedes r.page b.page ≡ true) rows → a ≤ r.page.stream → r.page.stream < a + n
      → flat_map (by_stream (r ∷ rows)) (range_with_len a n) ≡ r ∷ flat_map (by_stream rows) (range_with_len a n)
  one-more a zero before low high = absurd (omega arith)
  one-more a (suc n) before low high = go (r.page.stream == a) refl (one-more (a + 1) n before)
    where
      go : (b : Bool) → (r.page.stream == a) ≡ b
          → (a + 1 ≤ r.page.stream → r.page.stream < (a + 1) + n → flat_map (by_stream (r ∷ rows)) (range_with_len (a + 1) n) ≡ r ∷ flat_map (by_stream rows) (range_with_len (a + 1) n))
          → flat_map (by_stream (r ∷ rows)) (range_with_len a (suc n)) ≡ r ∷ flat_map (by_stream rows) (range_with_len a (suc n))
      go true same rest =
          let e : r.page.stream ≡ a = eqb-true r.page.stream a same in
          rw (past-own (a + 1) n (omega arith), same) refl
      go false other rest =
          let apart : r.page.stream ≡ a → ⊥ = eqb-false r.page.stream a other in
          rw (other, none-below a r rows (omega arith) before) (rest (omega arith) (omega arith))

streams-rows : (n : ℕ) (rows : List Row) → Ordered rows → All (λ r. r.page.stream < n) rows → flat_map (by_stream rows) (range_with_len 0 n) ≡ rows
streams-rows n [] up below = none 0 n
  where
    none : (a n : ℕ) → flat_map {A = Row} (λ s. []) (range_with_len a n) ≡ []
    none a zero = refl
    none a (suc n) = none (a + 1) n
streams-rows n (r ∷ rows) up below =
    let high : r.page.stream < n = All-head (λ r. r.page.stream < n) r rows below in
    one-more r rows 0 n up.0 (omega arith) (omega arith)
    ∙ ap (λ rest. r ∷ rest) (streams-rows n rows up.1 (All-tail (λ r. r.page.stream < n) r rows below))

filter_map-flat_map : {X Y : Type 0} (h : X → Option Y) (f : ℕ → List X) (ns : List ℕ) → filter_map h (flat_map f ns) ≡ flat_map (λ n. filter_map h (f n)) ns
filter_map-flat_map h f [] = refl
filter_map-flat_map h f (n ∷ ns) = filter_map-append h (f n) (flat_map f ns) ∙ ap (λ rest. filter_map h (f n) ++ rest) (filter_map-flat_map h f ns)

flat_map-same : {X : Type 0} (f g : ℕ → List X) (ns : List ℕ) → ((n : ℕ) → f n ≡ g n) → flat_map f ns ≡ flat_map g ns
flat_map-same f g [] same = refl
flat_map-same f g (n ∷ ns) same = rw (same n, flat_map-same f g ns same) refl

-- what is answered of a page of the stream that stands with its LSNs
abbrev answer_of : ℕ → ℕ × Option (ℕ × ℕ) → Option DirtyRow
answer_of s page = option_map (λ lsns. record { page = record { stream = s; page = page.0 }; oldest = lsns.0; newest = lsns.1 }) page.1

answers-pages : (s : ℕ) (h : List Effect) (ps : List ℕ) → filter_map (dirty_row_of s h) ps ≡ filter_map (answer_of s) (map (of_page h) ps)
answers-pages s h [] = refl
answers-pages s h (p ∷ ps) = ap (cons_option (dirty_row_of s h p)) (answers-pages s h ps)

module _ (past : List Entry) (log s : ℕ) where
  abbrev is_its : Bool
  is_its = is_log log (log_of (history past s))

  abbrev listed : List Row → List DirtyRow
  listed rows = filter_map (answer_of s) (map of_row rows)

  answer-row : (r : Row) → r.page.stream ≡ s → answer_in past log r ≡ cond is_its (answer_of s (of_row r)) None
  answer-row r same =
      ap (λ t. cond (is_log log (log_of (history past t))) (answer_for r) None) same
      ∙ ap (λ (page : Page). cond is_its (option_map (λ lsns. record { page = page; oldest = lsns.0; newest = lsns.1 }) (lsns_in r)) None) page
    where
      page : ◌≡◌ {A = Page} r.page (record { stream = s; page = r.page.page })
      page = let k : ◌≡◌ {A = Page} (record { stream = r.page.stream; page = r.page.page }) (record { stream = s; page = r.page.page }) = cc in k

  answers-rows : (rows : List Row) → filter_map (answer_in past log) (filter (is_row_of_stream s) rows) ≡ cond is_its (listed (filter (is_row_of_stream s) rows)) []
  answers-rows [] = nothing is_its
    where
      nothing : (t : Bool) → [] ≡ cond {A = List DirtyRow} t [] []
      nothing true = refl
      nothing false = refl
  answers-rows (r ∷ rows) = go (r.page.stream == s) refl (answers-rows rows)
    where
      one : (t : Bool) (o : Option DirtyRow) (rest : List DirtyRow) → cons_option (cond t o None) (cond t rest []) ≡ cond t (cons_option o rest) []
      one true o rest = refl
      one false o rest = refl

      go : (t : Bool) → (r.page.stream == s) ≡ t → filter_map (answer_in past log) (filter (is_row_of_stream s) rows) ≡ cond is_its (listed (filter (is_row_of_stream s) rows)) []
          → filter_map (answer_in past log) (cond t (r ∷ filter (is_row_of_stream s) rows) (filter (is_row_of_stream s) rows)) ≡ cond is_its (listed (cond t (r ∷ filter (is_row_of_stream s) rows) (filter (is_row_of_stream s) rows))) []
      go true same rest =
          rw (answer-row r (eqb-true r.page.stream s same), rest) (one is_its (answer_of s (of_row r)) (listed (filter (is_row_of_stream s) rows)))
      go false other rest = rest

  -- the rows of a stream that are answered are the table's
  answers-stream : (rows : List Row) → Sound rows → Follows past rows → filter_map (answer_in past log) (by_stream rows s) ≡ dirty_rows_of past log s
  answers-stream rows sound follows =
      answers-rows rows
      ∙ ap (λ (l : List DirtyRow). cond is_its l [])
      (ap (filter_map (answer_of s)) (sym (rows-are past s rows sound follows)) ∙ sym (answers-pages s (history past s) (dirty_pages (history past s))))

-- the rows that are answered are the log's dirty page table
pub table-rows : (past : List Entry) (log : ℕ) (rows : List Row) → Sound rows → Follows past rows → filter_map (answer_in past log) rows ≡ dirty_table past log
unfolding dirty_table
table-rows past log rows sound follows =
    ap (filter_map (answer_in past log)) (sym (streams-rows 16 rows (ordered rows sound.ascending) sound.numbered))
    ∙ (filter_map-flat_map (answer_in past log) (by_stream rows) (range_with_len 0 16)
    ∙ flat_map-same (λ s. filter_map (answer_in past log) (by_stream rows s)) (dirty_rows_of past log) (range_with_len 0 16)
    (λ s. answers-stream past log s rows sound follows))
