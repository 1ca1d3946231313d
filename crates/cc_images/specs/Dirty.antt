-- The dirty pages of a stream, by the rows of the dirty page table.
use Rattle.std.specs.Prelude.{◌≡◌, ℕ, List, is_some}
use Rattle.cc_dirty.specs.Table.{row_of, Sound}
use Rattle.cc_dirty.specs.declared.row.Row.{Row}
use Rattle.cc_model.specs.History.{Effect}
use Rattle.cc_model.specs.Touches.{is_dirty}

-- the rows stand in their order, and a page of the stream has one exactly where it is dirty
pub record AreDirty (h : List Effect) (stream : ℕ) (rows : List Row) : Type 0 where
  pub sound : Sound rows
  pub dirty : (p : ℕ) → is_some (row_of rows (record { stream = stream; page = p })) ≡ is_dirty h p
