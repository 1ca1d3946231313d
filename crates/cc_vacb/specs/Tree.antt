-- What the tree of index blocks keeps true, and what each change of it leaves.
use Rattle.std.specs.Prelude.{ℕ, ◌+◌, ◌-◌, ◌^◌, ◌*◌, ◌%◌, ◌<◌, ◌≤◌, ◌≡◌, ◌≢◌, ◌==◌, ◌⊎◌, suc, if◌then◌else◌, Some, None, is_some, List, length, slice_set, sum_by}
use Rattle.cc_vacb.specs.declared.slots.Slot.{Slot}
use Rattle.cc_vacb.specs.declared.slots.Slot.TheVariants.{Empty, Node, View}
use Rattle.cc_vacb.specs.Block.{Block, used_slots}
use Rattle.cc_vacb.specs.Index.{block_in, slot_in, entry_in, width_of, StartsBelow}
use Rattle.cc_vacb.specs.Levels.{levels_of}

unfoldable pub blocks_at : ℕ → List Block → ℕ
blocks_at height blocks = sum_by (λ b. if b.height == height then 1 else 0) blocks

unfoldable pub used_at : ℕ → List Block → ℕ
used_at height blocks = sum_by (λ b. if b.height == height then used_slots b else 0) blocks

-- a slot leads to an index block that knows the same place
pub record Leads (blocks : List Block) (node i child : ℕ) : Type 0 where
  pub below : child < length blocks
  pub not_root : 0 < child
  pub height : (block_in blocks child).height + 1 ≡ (block_in blocks node).height
  pub prefix : (block_in blocks child).prefix ≡ 128 * (block_in blocks node).prefix + i

pub record IsTree (top : ℕ) (blocks : List Block) : Type 0 where
  pub some : 0 < length blocks
  pub root_height : (block_in blocks 0).height ≡ top
  pub root_prefix : (block_in blocks 0).prefix ≡ 0
  pub below_top : (node : ℕ) → 0 < node → node < length blocks → (block_in blocks node).height < top
  pub leads : (node i child : ℕ) → slot_in blocks node i ≡ Node child → Leads blocks node i child
  pub has_parent : (child : ℕ) → 0 < child → child < length blocks →
      (node : ℕ) × (slot_in blocks node ((block_in blocks child).prefix % 128) ≡ Node child)
  pub views : (node i view : ℕ) → slot_in blocks node i ≡ View view → (block_in blocks node).height ≡ 0
  pub wide : (node : ℕ) → 0 < node → node < length blocks → length (block_in blocks node).slots ≡ 128
  pub root_wide : length (block_in blocks 0).slots ≤ 128
  pub deep : 0 < top → length (block_in blocks 0).slots ≡ 128
  pub counted : (height : ℕ) → height < top → blocks_at height blocks ≡ used_at (suc height) blocks

-- block x is the one so many levels below the root whose digits are those of the number
pub record IsAt (top : ℕ) (blocks : List Block) (depth number node : ℕ) : Type 0 where
  pub inside : node < length blocks
  pub height : (block_in blocks node).height + depth ≡ top
  pub prefix : (block_in blocks node).prefix ≡ number

-- every index block but the root and one other has a used slot
abbrev pub FilledBut : ℕ → List Block → Type 0
FilledBut other blocks = (node : ℕ) → 0 < node → node < length blocks → node ≢ other → 0 < used_slots (block_in blocks node)

abbrev pub put_slot : List Block → ℕ → ℕ → Slot → List Block
put_slot blocks node i slot =
    slice_set blocks node (record (block_in blocks node) { slots = slice_set (block_in blocks node).slots i slot })

-- the blocks with what was missing on the way to a block: no entry is changed by it
pub record ExtendsTo (top depth prefix : ℕ) (old new : List Block) (node : ℕ) : Type 0 where
  pub tree : IsTree top new
  pub place : IsAt top new depth prefix node
  pub entries : (block : ℕ) → entry_in new top block ≡ entry_in old top block
  pub count : used_at 0 new ≡ used_at 0 old
  pub filled : FilledBut node new
  pub len : length new ≤ length old + depth
  pub root : length (block_in new 0).slots ≡ length (block_in old 0).slots
  pub fresh : (new ≡ old) ⊎ ((i : ℕ) → slot_in new node i ≡ Empty)

-- where a block stands, when the last block is to take the place of another
unfoldable pub was_at : ℕ → ℕ → ℕ → ℕ
was_at freed last node = if node == freed then last else node

unfoldable pub now_at : ℕ → ℕ → ℕ → ℕ
now_at freed last node = if node == last then freed else node

-- a block keeps its place in the tree, and the number of its slots
pub record SamePlace (old new : Block) : Type 0 where
  pub height : new.height ≡ old.height
  pub prefix : new.prefix ≡ old.prefix
  pub width : length new.slots ≡ length old.slots

abbrev pub LeadsElsewhere : ℕ → ℕ → Slot → Type 0
LeadsElsewhere freed last slot = (child : ℕ) → slot ≡ Node child → (child ≢ freed) × (child ≢ last)

-- no slot leads to the freed block any more, and the slot that led to the last one leads to the place of the freed one
pub record Relinked (freed last parent : ℕ) (old new : List Block) : Type 0 where
  pub len : length new ≡ length old
  pub place : (node : ℕ) → SamePlace (block_in old node) (block_in new node)
  pub back : (node i : ℕ) (slot : Slot) → slot_in new node i ≡ slot → slot ≢ Empty →
      ((last ≢ freed) × (slot ≡ Node freed) × (slot_in old node i ≡ Node last))
      ⊎ ((slot_in old node i ≡ slot) × LeadsElsewhere freed last slot)
  pub forth : (node i : ℕ) (slot : Slot) → slot_in old node i ≡ slot → LeadsElsewhere freed last slot → slot_in new node i ≡ slot
  pub forth_last : (node i : ℕ) → last ≢ freed → slot_in old node i ≡ Node last → slot_in new node i ≡ Node freed
  pub used : (node : ℕ) → node ≢ parent → used_slots (block_in new node) ≡ used_slots (block_in old node)
  pub blocks_sum : (height : ℕ) → blocks_at height new ≡ blocks_at height old
  pub used_sum : (height : ℕ) → used_at height new + (if (block_in old parent).height == height then 1 else 0) ≡ used_at height old
  pub parent_in : parent < length old
  pub parent_height : (block_in old parent).height ≡ (block_in old freed).height + 1

-- the tree without a block that led nowhere
pub record TreeKept (top : ℕ) (old new : List Block) : Type 0 where
  pub tree : IsTree top new
  pub entries : (block : ℕ) → entry_in new top block ≡ entry_in old top block
  pub count : used_at 0 new ≡ used_at 0 old
  pub len : length new ≤ length old
  pub root : length (block_in new 0).slots ≡ length (block_in old 0).slots

-- the tree without a block that led nowhere, and where the block above it stands now
pub record RemovesBlock (top : ℕ) (old new : List Block) (parent : ℕ) : Type 0 where
  pub kept : TreeKept top old new
  pub parent_in : parent < length new
  pub filled : FilledBut parent new
  pub shorter : length new + 1 ≡ length old

pub record PutsView (top number view : ℕ) (old new : List Block) : Type 0 where
  pub tree : IsTree top new
  pub filled : FilledBut 0 new
  pub here : entry_in new top number ≡ Some view
  pub others : (other : ℕ) → other ≢ number → entry_in new top other ≡ entry_in old top other
  pub count : used_at 0 new ≡ used_at 0 old + (if is_some (entry_in old top number) then 0 else 1)
  pub len : length new ≤ length old + top
  pub root : length (block_in new 0).slots ≡ length (block_in old 0).slots

pub record TakesView (top number : ℕ) (old new : List Block) : Type 0 where
  pub tree : IsTree top new
  pub filled : FilledBut 0 new
  pub here : entry_in new top number ≡ None
  pub others : (other : ℕ) → other ≢ number → entry_in new top other ≡ entry_in old top other
  pub count : used_at 0 new + (if is_some (entry_in old top number) then 1 else 0) ≡ used_at 0 old
  pub len : length new ≤ length old
  pub root : length (block_in new 0).slots ≡ length (block_in old 0).slots

-- what an index keeps true
pub record IsIndex (size : ℕ) (blocks : List Block) : Type 0 where
  pub tree : IsTree (levels_of size - 1) blocks
  pub filled : FilledBut 0 blocks
  pub width : length (block_in blocks 0).slots ≡ width_of size
  pub numbers : length blocks < 2 ^ 32
  pub fits : size < 2 ^ 64
  pub starts : (number view : ℕ) → entry_in blocks (levels_of size - 1) number ≡ Some view → StartsBelow number size

-- the tree with more or fewer levels: no entry is changed by it
pub record ChangesTop (top to : ℕ) (old new : List Block) : Type 0 where
  pub tree : IsTree to new
  pub filled : FilledBut 0 new
  pub entries : (block : ℕ) → entry_in new to block ≡ entry_in old top block
  pub count : used_at 0 new ≡ used_at 0 old
  pub len : length new ≤ length old + (to - top)
  pub used : 0 < used_slots (block_in old 0) → 0 < used_slots (block_in new 0)

abbrev pub EntriesBelow : ℕ → List Block → ℕ → Type 0
EntriesBelow top blocks bound = (number view : ℕ) → entry_in blocks top number ≡ Some view → number < bound
