-- The least and the greatest LSN over the rows of a stream.
use Rattle.std.specs.Prelude.{◌≡◌, ℕ, min, max, List, [], ◌∷◌, Option, None, Some, map, filter, fold, refl}
use Rattle.std.proofs.Common.{ap, sym, ◌∙◌, arith}
use Rattle.cc_entry.specs.Lsns.{joined}
use Rattle.cc_entry.specs.declared.entry.Entry.{Entry}
use Rattle.cc_dirty.specs.declared.row.Row.{Row}
use Rattle.cc_dirty.specs.Table.{is_row_of_stream, Sound}
use Rattle.cc_journal.specs.Rows.{Follows}
use Rattle.cc_model.specs.History.{Effect, history}
use Rattle.cc_model.specs.Touches.{dirty_pages}
use Rattle.cc_model.specs.Stamps.{lsns_of, lsns_over}
use Rattle.cc_journal.specs.Stamped.{lsns_in, with_row}
use Rattle.cc_journal.proofs.RowLsns.{of_page, of_row, rows-are}

joined-none : (a : Option (ℕ × ℕ)) → joined a None ≡ a
joined-none None = refl
joined-none (Some a) = refl

joined-joined : (a b c : Option (ℕ × ℕ)) → joined (joined a b) c ≡ joined a (joined b c)
joined-joined None b c = refl
joined-joined (Some a) None c = refl
joined-joined (Some a) (Some b) None = refl
joined-joined (Some a) (Some b) (Some c) = both (least a.0 b.0 c.0) (greatest a.1 b.1 c.1)
  where
    least : (a b c : ℕ) → min (min a b) c ≡ min a (min b c)
    least a b c = omega arith

    greatest : (a b c : ℕ) → max (max a b) c ≡ max a (max b c)
    greatest a b c = omega arith

    both : {x y z w : ℕ} → x ≡ y → z ≡ w → ◌≡◌ {A = Option (ℕ × ℕ)} (Some (x, z)) (Some (y, w))
    both e f = cc

-- over pages that stand with their LSNs
abbrev over : List (ℕ × Option (ℕ × ℕ)) → Option (ℕ × ℕ)
over [] = None
over (page ∷ pages) = joined page.1 (over pages)

over-pages : (h : List Effect) (ps : List ℕ) → lsns_over h ps ≡ over (map (of_page h) ps)
over-pages h [] = refl
over-pages h (p ∷ ps) = ap (joined (lsns_of h p)) (over-pages h ps)

over-rows : (rows : List Row) (lsns : Option (ℕ × ℕ)) → fold with_row lsns rows ≡ joined lsns (over (map of_row rows))
over-rows [] lsns = sym (joined-none lsns)
over-rows (r ∷ rows) lsns = over-rows rows (with_row lsns r) ∙ joined-joined lsns (lsns_in r) (over (map of_row rows))

-- what is found over the rows of a stream is what stands over its dirty pages
pub lsns-rows : (past : List Entry) (s : ℕ) (rows : List Row) → Sound rows → Follows past rows
    → fold with_row None (filter (is_row_of_stream s) rows) ≡ lsns_over (history past s) (dirty_pages (history past s))
lsns-rows past s rows sound follows =
    over-rows (filter (is_row_of_stream s) rows) None
    ∙ (ap over (sym (rows-are past s rows sound follows)) ∙ sym (over-pages (history past s) (dirty_pages (history past s))))
