-- An index block as contracts see it.
use Rattle.std.specs.Prelude.{ℕ, List, [], replicate, count_by}
use Rattle.cc_vacb.specs.declared.slots.Slot.{Slot}
use Rattle.cc_vacb.specs.declared.slots.Slot.TheVariants.{Empty}
use Rattle.cc_vacb.specs.Slots.{is_used}

-- an index block: blocks of height 0 hold views, and the prefix is what the numbers below it begin with in base 128
pub record Block : Type 0 where
  pub height : ℕ
  pub prefix : ℕ
  pub slots : List Slot

-- what stands for a block past the last
abbrev pub no_block : Block
no_block = record { height = 0; prefix = 0; slots = [] }

unfoldable pub blank_block : ℕ → ℕ → ℕ → Block
blank_block height prefix width = record { height = height; prefix = prefix; slots = replicate width Empty }

abbrev pub used_slots : Block → ℕ
used_slots b = count_by is_used b.slots
