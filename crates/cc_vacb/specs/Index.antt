-- The view index as contracts see it, and where the digits of a block's number lead in it.
use Rattle.std.specs.Prelude.{ℕ, ◌-◌, ◌*◌, ◌/◌, ◌%◌, ◌^◌, ◌<◌, ◌==◌, zero, suc, if◌then◌else◌, nat_le, List, [], ◌∷◌, ◌++◌, length, slice_index_or, Option, Some, None, option_and_then, sum_by}
use Rattle.cc_vacb.specs.declared.slots.Slot.{Slot}
use Rattle.cc_vacb.specs.declared.slots.Slot.TheVariants.{Empty, Node, View}
use Rattle.cc_vacb.specs.Slots.{child_of, view_of}
use Rattle.cc_vacb.specs.Block.{Block, used_slots, no_block}
use Rattle.cc_vacb.specs.Levels.{levels_of}

-- an index: the size of its stream in bytes, and its index blocks, of which the first is the root
pub record Index : Type 0 where
  pub size : ℕ
  pub blocks : List Block

abbrev pub block_in : List Block → ℕ → Block
block_in blocks node = slice_index_or blocks node no_block

abbrev pub slot_in : List Block → ℕ → ℕ → Slot
slot_in blocks node i = slice_index_or (block_in blocks node).slots i Empty

-- the index block that the digits of a prefix lead to from the root, through so many levels
unfoldable pub reach : List Block → ℕ → ℕ → Option ℕ
reach blocks zero prefix = if prefix == 0 then Some 0 else None
reach blocks (suc depth) prefix =
    option_and_then (λ node. child_of (slot_in blocks node (prefix % 128))) (reach blocks depth (prefix / 128))

unfoldable pub entry_in : List Block → ℕ → ℕ → Option ℕ
entry_in blocks depth block = option_and_then (λ node. view_of (slot_in blocks node (block % 128))) (reach blocks depth (block / 128))

-- how many entries the blocks of height 0 hold
unfoldable pub entry_count_in : List Block → ℕ
entry_count_in blocks = sum_by (λ b. if b.height == 0 then used_slots b else 0) blocks

-- up to 1 MiB the index is one block of four slots
unfoldable pub width_of : ℕ → ℕ
width_of size = if nat_le size (2 ^ 20) then 4 else 128

-- the view of a block of the stream
abbrev pub entry_at : Index → ℕ → Option ℕ
entry_at index block = entry_in index.blocks (levels_of index.size - 1) block

-- how many blocks of the stream have a view
abbrev pub entry_count : Index → ℕ
entry_count index = entry_count_in index.blocks

abbrev pub block_count : Index → ℕ
block_count index = length index.blocks

abbrev pub slot_at : Index → ℕ → ℕ → Slot
slot_at index node i = slot_in index.blocks node i

-- the digits of a number in base 128, the most significant first
unfoldable pub digits_of : ℕ → ℕ → List ℕ
digits_of zero number = []
digits_of (suc count) number = digits_of count (number / 128) ++ (number % 128 ∷ [])

-- the slot of the index block that a slot leads to
abbrev pub slot_behind : (ℕ → ℕ → Slot) → Slot → ℕ → Slot
slot_behind slot Empty digit = Empty
slot_behind slot (Node node) digit = slot node digit
slot_behind slot (View view) digit = Empty

-- where digits lead to from a slot, one index block a digit
unfoldable pub led_by : (ℕ → ℕ → Slot) → Slot → List ℕ → Slot
led_by slot from [] = from
led_by slot from (digit ∷ digits) = led_by slot (slot_behind slot from digit) digits

abbrev pub StartsBelow : ℕ → ℕ → Type 0
StartsBelow block size = block * 2 ^ 18 < size
