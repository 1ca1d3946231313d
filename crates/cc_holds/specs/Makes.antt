-- The hold that a done call makes.
use Rattle.std.specs.Prelude.{ℕ, ◌+◌, Bool, true, false, List}
use Rattle.std.specs.declared.option.Option.{Option}
use Rattle.std.specs.declared.option.Option.TheVariants.{Some, None}
use Rattle.std.specs.Option.{option_map}
use Rattle.cc_entry.specs.Place.{File, Range}
use Rattle.cc_entry.specs.declared.call.Call.{Call}
use Rattle.cc_entry.specs.declared.call.Call.TheVariants as call
use Rattle.cc_entry.specs.declared.hold.HoldKind.{HoldKind}
use Rattle.cc_entry.specs.declared.hold.HoldKind.TheVariants as kind
use Rattle.cc_entry.specs.declared.hold.HoldRow.{HoldRow}
use Rattle.cc_model.specs.Holds.{Hold, hold_at}

-- the row of a hold through which nothing but this span was written
abbrev pub new_row : ℕ → File → ℕ → ℕ → HoldKind → Bool → Option Range → HoldRow
new_row id file at len its_kind exclusive written = record {
  id = id;
  file = file;
  at = at;
  len = len;
  kind = its_kind;
  exclusive = exclusive;
  written = written;
}

-- what a prepare of a pin writes: the whole range, where it zeroes it
abbrev pub zeroed_by_prepare : Bool → ℕ → ℕ → Option Range
zeroed_by_prepare true at len = Some (record { from = at; to = at + len })
zeroed_by_prepare false at len = None

-- where the range ends that a call zeroes, 0 where it makes no zeroed pin
abbrev pub zeroed_end : Call → ℕ
zeroed_end (call.PreparePin file at len true exclusive) = at + len
zeroed_end other = 0

-- the row of the hold that a done call makes of a range that it names, whose reply has this id
abbrev pub row_named : Call → ℕ → Option HoldRow
row_named (call.Map file at len) id = Some (new_row id file at len kind.Map false None)
row_named (call.PinRead file at len exclusive) id = Some (new_row id file at len kind.Pin exclusive None)
row_named (call.PreparePin file at len zero exclusive) id =
    Some (new_row id file at len kind.Pin exclusive (zeroed_by_prepare zero at len))
row_named (call.MdlRead file at len) id = Some (new_row id file at len kind.ReadChain false None)
row_named (call.MdlWrite file at len) id = Some (new_row id file at len kind.WriteChain false None)
row_named other id = None

-- the row of the hold that a done call makes, whose reply has this id, beside these open holds
abbrev pub row_made : Call → ℕ → List Hold → Option HoldRow
row_made (call.Repin hold) id holds =
    option_map (λ it. new_row id it.file it.at it.len kind.Repin false None) (hold_at holds hold)
row_made other id holds = row_named other id
