-- The rows of the dirty page table that follow a past are the dirty pages of each stream.
use Rattle.std.specs.Prelude.{◌≡◌, ℕ, true, is_some, List, Option, Some, None, refl}
use Rattle.std.proofs.Common.{ap, sym, ◌∙◌}
use Rattle.cc_entry.specs.declared.entry.Entry.{Entry}
use Rattle.cc_dirty.specs.declared.row.Row.{Row}
use Rattle.cc_dirty.specs.declared.row.Unwritten.{Unwritten}
use Rattle.cc_dirty.specs.Order.{same_page}
use Rattle.cc_dirty.specs.Unwritten.{joined_unwritten, is_touched}
use Rattle.cc_dirty.specs.Table.{row_of, Sound}
use Rattle.cc_images.specs.Dirty.{AreDirty}
use Rattle.cc_images.proofs.Found.{all-found}
use Rattle.cc_journal.specs.Rows.{Follows, begun_in, later_in, journal_place}
use Rattle.cc_journal.proofs.RowSteps.{some-oldest}
use Rattle.cc_model.specs.History.{history}
use Rattle.cc_model.specs.Touches.{is_dirty, unwritten}

pub dirty-follows : (past : List Entry) (stream : ℕ) (rows : List Row) → Sound rows → Follows past rows → AreDirty (history past stream) stream rows
dirty-follows past stream rows sound follows = record { sound = sound; dirty = each }
  where
    each : (p : ℕ) → is_some (row_of rows (record { stream = stream; page = p })) ≡ is_dirty (history past stream) p
    each p = go (row_of rows (record { stream = stream; page = p })) refl
        ∙ (ap (λ (u : Unwritten). is_some u.oldest) (follows (record { stream = stream; page = p })).unwritten ∙ some-oldest (journal_place past stream) (unwritten (history past stream) p))
      where
        go : (o : Option Row) → row_of rows (record { stream = stream; page = p }) ≡ o → is_some o ≡ is_some (joined_unwritten (begun_in o) (later_in o)).oldest
        go None is = refl
        go (Some row) is = sym (all-found (λ r. is_touched r ≡ true) (λ r. same_page r.page (record { stream = stream; page = p })) rows row sound.touched is)
