-- What an effect does to the places of the open holds of a stream.
use Rattle.std.specs.Prelude.{ℕ, ◌==◌, List, if◌then◌else◌}
use Rattle.std.specs.declared.option.Option.{Option}
use Rattle.std.specs.declared.option.Option.TheVariants.{Some, None}
use Rattle.std.specs.Option.{option_map}
use Rattle.cc_entry.specs.declared.call.Call.{Call}
use Rattle.cc_entry.specs.declared.call.Call.TheVariants as call
use Rattle.cc_events.specs.declared.holding.Holding.{Holding}
use Rattle.cc_events.specs.declared.holding.Holding.TheVariants as holding
use Rattle.cc_model.specs.History.{Effect, Did}
use Rattle.cc_model.specs.Holds.{Hold, id_of, hold_at}

-- what a done call whose reply has this id does to the places of open holds
abbrev pub holding_of_call : Call → ℕ → Holding
holding_of_call (call.Map file at len) id = holding.Makes id at len
holding_of_call (call.PinRead file at len exclusive) id = holding.Makes id at len
holding_of_call (call.PreparePin file at len zero exclusive) id = holding.Makes id at len
holding_of_call (call.MdlRead file at len) id = holding.Makes id at len
holding_of_call (call.MdlWrite file at len) id = holding.Makes id at len
holding_of_call (call.Repin hold) id = holding.Repins id hold
holding_of_call (call.EndHold hold) id = holding.Ends hold
holding_of_call other id = holding.Rests

-- what an effect does to them
abbrev pub holding_of : Option Effect → Holding
holding_of (Some (Did pass call reply)) = holding_of_call call (id_of reply)
holding_of other = holding.Rests

-- the place and the length of a hold
abbrev pub place_of_hold : Hold → ℕ × ℕ
place_of_hold hold = (hold.at, hold.len)

-- the place and the length of the open hold of this id
abbrev pub place_in : List Hold → ℕ → Option (ℕ × ℕ)
place_in holds id = option_map place_of_hold (hold_at holds id)

-- the same after something happened to the holds of a stream
abbrev pub place_after : Holding → List Hold → ℕ → Option (ℕ × ℕ)
place_after (holding.Makes made at len) holds id = if made == id then Some (at, len) else place_in holds id
place_after (holding.Repins made named) holds id =
    elim (place_in holds named) [ None ↦ place_in holds id | Some place ↦ if made == id then Some place else place_in holds id ]
place_after (holding.Ends ended) holds id = if ended == id then None else place_in holds id
place_after holding.Rests holds id = place_in holds id
