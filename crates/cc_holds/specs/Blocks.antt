-- The view blocks of holds, each once, with how many holds have a byte in it.
use Rattle.std.specs.Prelude.{◌≡◌, ℕ, ◌==◌, ◌<◌, ◌≤◌, nat_lt, nat_le, ◌&&◌, List, length, slice_index_or, if◌then◌else◌, count_by}
use Rattle.std.specs.List.{sum_by}
use Rattle.std.specs.List.Sorted.{IsNonDecreasingBy}
use Rattle.cc_model.specs.Numbers.{is_among}
use Rattle.cc_holds.specs.Holds.{has_block}
use Rattle.cc_holds.specs.declared.block_rows.BlockRow.{BlockRow}
use Rattle.cc_holds.specs.declared.holds.KeptHold.{KeptHold}

-- how many holds have a byte in the block by its row, 0 where it has none
abbrev pub holds_at : ℕ → List BlockRow → ℕ
holds_at b rows = sum_by (λ row. if row.block == b then row.holds else 0) rows

-- The rows ascend, so that a block has one at most, and each is that of a hold at least.
pub record AreBlockRows (rows : List BlockRow) : Type 0 where
  pub ascend : (i j : ℕ) (d : BlockRow) → i < j → j < length rows → (slice_index_or rows i d).block < (slice_index_or rows j d).block
  pub held : (k : ℕ) (d : BlockRow) → k < length rows → 0 < (slice_index_or rows k d).holds

-- The rows before the place have lesser blocks, and the others do not.
pub record IsPlaceOf (block : ℕ) (rows : List BlockRow) (place : ℕ) : Type 0 where
  pub within : place ≤ length rows
  pub before : (k : ℕ) (d : BlockRow) → k < place → (slice_index_or rows k d).block < block
  pub after : (k : ℕ) (d : BlockRow) → place ≤ k → k < length rows → block ≤ (slice_index_or rows k d).block

-- 1 for a number from `first` up to, and without, `end`, and 0 for others
abbrev pub one_within : ℕ → ℕ → ℕ → ℕ
one_within first end b = if nat_le first b && nat_lt b end then 1 else 0

-- a list has the blocks in which a hold has a byte, and no others
abbrev pub HasHeldBlocks : List BlockRow → List ℕ → Type 0
HasHeldBlocks rows bs = (b : ℕ) → is_among b bs ≡ nat_lt 0 (holds_at b rows)

-- Holds are in the order of their ids, and beside them are the rows of their blocks.
pub record AreKept (holds : List KeptHold) (rows : List BlockRow) : Type 0 where
  pub in_order : IsNonDecreasingBy (λ hold. hold.row.id) holds
  pub counts : (b : ℕ) → holds_at b rows ≡ count_by (has_block b) holds
