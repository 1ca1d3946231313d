-- What a pass of a board knows.
use Rattle.std.specs.Prelude.{ℕ, ◌-◌, ◌+◌, true, false, List, [], ◌∷◌, length, slice_get}
use Rattle.std.specs.declared.option.Option.TheVariants.{Some, None}
use Rattle.atomic_table.specs.Seated.{TableId}
use Rattle.cc_model.specs.Room.{reserved_in}
use Rattle.cc_traits.specs.Setup.{capacity_of}
use Rattle.cc_model.specs.Turns.{Turn, Device, Book, Log, Journal}
use Rattle.cc_turns.specs.Standing.{Standing, TurnsHeld}
use Rattle.cc_turns.specs.Desk.{Begun, Tells, disk_at_first, log_at_first, made_from}
use Rattle.cc_turns.specs.Slots.{setup_in}
use Rattle.cc_turns.specs.declared.slots.Place.{Place}
use Rattle.cc_turns.specs.declared.slots.Place.TheVariants as place
use Rattle.cc_board.specs.declared.rule.View.{View}
use Rattle.cc_board.specs.declared.rule.Key.{Key}

-- the run that a pass is of
abbrev pub run_of : {D L : Type 0} → View D L → Begun D L
run_of v = record { disks = v.disks; logs = v.logs; capacity = v.capacity; threshold = v.threshold }

-- a run of nothing, which names no board's
abbrev pub no_run : {D L : Type 0} → Begun D L
no_run = record { disks = []; logs = []; capacity = 0; threshold = 0 }

-- the turns that it holds
abbrev pub turns_held : {D L : Type 0} → View D L → TurnsHeld
turns_held v = record { device = v.device; book = v.book; log = v.log; journal = v.journal }

-- what it knows, as its turns tell it; how often it took the turn of a disk, its place keeps
abbrev pub view_standing : {D L Q : Type 0} → Tells D L Q → View D L → ℕ → Standing
view_standing tells v device_turns = record {
  shared = [];
  setup = setup_in tells (run_of v);
  streams = length v.disks;
  disks = λ s. disk_at_first tells.disk tells.disk_faults (slice_get v.disks s);
  logs = λ handle. log_at_first tells.log tells.log_faults (slice_get v.logs handle);
  number = v.number;
  seen = v.seen;
  since = [];
  held = turns_held v;
  in_flight = v.in_flight;
  others = v.others;
  most_others = v.before + v.passes;
  device_turns = device_turns;
}

-- the numbers that name a board, from what its table is
abbrev pub board_name : TableId → List ℕ
board_name id = id.words ∷ id.slots ∷ id.views_name ∷ id.atom ∷ id.block ∷ id.offset ∷ id.slot_names

-- what a pass of a board knows, which names the board
abbrev pub standing_at : {D L Q : Type 0} → Tells D L Q → TableId → View D L → ℕ → Standing
standing_at tells id v device_turns = record (view_standing tells v device_turns) { shared = board_name id }

-- the run that a board is of
abbrev pub run_in : {D L Q : Type 0} → Key D L Q → Begun D L
run_in key = made_from key.begun.value.value

-- what a board's first pass knows at first: all that stood in the journal
abbrev pub first_view : {D L Q : Type 0} → Key D L Q → View D L
first_view key = record {
  disks = key.begun.value.value.disks.items;
  logs = key.begun.value.value.logs.items;
  capacity = capacity_of key.begun.value.value.journal;
  threshold = key.begun.value.value.threshold;
  live = true;
  number = 0;
  seen = key.journal.value.entries;
  device = None;
  book = None;
  log = None;
  journal = false;
  in_flight = key.journal.value.reserved - reserved_in key.journal.value.entries;
  others = 0;
  passes = key.passes;
  before = key.journal.value.reserved - reserved_in key.journal.value.entries;
  made = 1;
  drawn = false;
  ended = [];
}

-- the same pass with one turn more
abbrev pub with_turn : {D L : Type 0} → Turn → View D L → View D L
with_turn (Device stream) v = record v { device = Some stream }
with_turn (Book stream) v = record v { book = Some stream }
with_turn (Log handle) v = record v { log = Some handle }
with_turn Journal v = record v { journal = true }

-- The same pass with one turn less. With the journal it gives what it placed, which it has seen then; what is reserved
-- beyond what is owed and what others have under way, it has.
abbrev pub without_turn : {D L Q : Type 0} → Turn → Place D L Q → View D L → View D L
without_turn (Device stream) given v = record v { device = None }
without_turn (Book stream) given v = record v { book = None }
without_turn (Log handle) given v = record v { log = None }
without_turn Journal (place.Journal j) v = record v {
  journal = false;
  seen = j.entries;
  in_flight = j.reserved - (reserved_in j.entries + v.others);
}
without_turn Journal other v = record v { journal = false }

-- a number was drawn, for a pass that is made next
abbrev pub with_number : {D L : Type 0} → View D L → View D L
with_number v = record v { made = v.made + 1; drawn = true }

-- what a pass gives a new one: its number, and all that it has seen
abbrev pub split_left : {D L : Type 0} → View D L → View D L
split_left v = record v { drawn = false }

abbrev pub split_right : {D L : Type 0} → View D L → View D L
split_right v = record v {
  number = v.made - 1;
  device = None;
  book = None;
  log = None;
  journal = false;
  in_flight = 0;
  others = 0;
  made = 0;
  drawn = false;
  ended = [];
}

-- a pass took another back: it keeps its number and what it had seen, and what it has under way
abbrev pub joined_view : {D L : Type 0} → View D L → View D L → View D L
joined_view v other = record v { in_flight = v.in_flight + other.in_flight; ended = (other.number, other.seen) ∷ v.ended }

-- of the other nothing is left
abbrev pub spent : {D L : Type 0} → View D L
spent = record {
  disks = [];
  logs = [];
  capacity = 0;
  threshold = 0;
  live = false;
  number = 0;
  seen = [];
  device = None;
  book = None;
  log = None;
  journal = false;
  in_flight = 0;
  others = 0;
  passes = 0;
  before = 0;
  made = 0;
  drawn = false;
  ended = [];
}
