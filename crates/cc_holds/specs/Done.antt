-- What a done call asks of the open holds that follow it.
use Rattle.std.specs.Prelude.{◌≡◌, ℕ, ◌<◌, ◌+◌, Bool, true, List, All, length}
use Rattle.std.specs.declared.option.Option.TheVariants.{Some}
use Rattle.cc_entry.specs.declared.call.Call.{Call}
use Rattle.cc_entry.specs.declared.call.Call.TheVariants as call
use Rattle.cc_entry.specs.declared.hold.HoldRow.{HoldRow}
use Rattle.cc_model.specs.Cache.{makes_hold}
use Rattle.cc_model.specs.Holds.{Hold}
use Rattle.cc_holds.specs.Makes.{row_made}

-- where the bytes end that a call writes through a hold, 0 where it writes none
abbrev pub written_end : Call → ℕ
written_end (call.PinnedWrite hold at bytes) = at + length bytes
written_end other = 0

-- where a call makes a hold, of this id, that is greater than the id of each open one
abbrev pub MakesAbove : Call → ℕ → List Hold → Type 0
MakesAbove call id holds = (row : HoldRow) → row_made call id holds ≡ Some row → All (λ hold. hold.id < id) holds

-- whether memory may be wanting for a call: where it makes a hold, or writes through one
abbrev pub takes_hold_memory : Call → Bool
takes_hold_memory (call.PinnedWrite hold at bytes) = true
takes_hold_memory other = makes_hold other
