-- What pass 0 keeps of the desk.
use Rattle.std.specs.Prelude.{◌≡◌, vec_capacity}
use Rattle.cc_turns.specs.Places.{IsRoomFor}
use Rattle.cc_turns.specs.Slots.{slots_of}
use Rattle.cc_board.specs.declared.rule.View.{View}
use Rattle.cc_board.specs.declared.board.Rest.{Rest}
use Rattle.cc_board.specs.View.{run_of}

-- it is of the run of the pass, with room for all slots
abbrev pub IsRestOf : {D L Q : Type 0} → View D L → Rest D L Q → Type 0
IsRestOf v rest = (rest.emptied ≡ run_of v) × IsRoomFor (slots_of (run_of v)) rest.room.items (vec_capacity rest.room)
