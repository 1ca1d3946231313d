-- What a slot of an index block leads to.
use Rattle.std.specs.Prelude.{ℕ, Bool, true, false, if◌then◌else◌, Option, Some, None}
use Rattle.cc_vacb.specs.declared.slots.Slot.{Slot}
use Rattle.cc_vacb.specs.declared.slots.Slot.TheVariants.{Empty, Node, View}

abbrev pub is_used : Slot → Bool
is_used Empty = false
is_used (Node n) = true
is_used (View v) = true

-- the index block that a slot leads to
abbrev pub child_of : Slot → Option ℕ
child_of Empty = None
child_of (Node n) = Some n
child_of (View v) = None

abbrev pub view_of : Slot → Option ℕ
view_of Empty = None
view_of (Node n) = None
view_of (View v) = Some v

abbrev pub weight_of : Slot → ℕ
weight_of s = if is_used s then 1 else 0
