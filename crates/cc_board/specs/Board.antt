-- A board and its passes, as contracts see them.
use Rattle.std.specs.Prelude.{◌≡◌, ◌≢◌, ℕ, ◌+◌, ◌<◌, ◌≤◌, Bool, true, false, List, [], ◌∷◌, ◌++◌, length, Contains}
use Rattle.std.specs.declared.option.Option.{Option}
use Rattle.std.specs.declared.option.Option.TheVariants.{Some, None}
use Rattle.atomic_table.specs.Seated.{TableId}
use Rattle.cc_entry.specs.declared.entry.Entry.{Entry}
use Rattle.cc_effects.specs.Moments.{IsIdle}
use Rattle.cc_model.specs.Turns.{Turn, Device, Book, Log, Journal}
use Rattle.cc_turns.specs.Standing.{Standing, TurnsHeld, nothing}
use Rattle.cc_turns.specs.Desk.{Begun, Tells, DeskState}
use Rattle.cc_turns.specs.Slots.{slot_of, under_way_in}
use Rattle.cc_turns.specs.declared.slots.Place.{Place}
use Rattle.cc_board.specs.declared.rule.View.{View}
use Rattle.cc_board.specs.View.{run_of, turns_held, standing_at, split_left, split_right, with_number, joined_view}

-- which board it is, and the run that it is of
pub record BoardState (D L : Type 0) : Type 0 where
  pub id : TableId
  pub begun : Begun D L

-- a pass: of which board, what it knows, and how often it took the turn of a disk
pub record PassState (D L : Type 0) : Type 0 where
  pub board : TableId
  pub knows : View D L
  pub device_turns : ℕ

-- a pass is of a board
abbrev pub IsOfBoard : {D L : Type 0} → BoardState D L → PassState D L → Type 0
IsOfBoard board pass = pass.board ≡ board.id

-- What is true of each pass but the first: it has one entry under way at most, and the others had, as it last looked,
-- no more than was under way at first, and one for each pass.
pub record PassIsWithin {D L : Type 0} (v : View D L) : Type 0 where
  pub is_other : v.number ≢ 0
  pub one : v.in_flight ≤ 1
  pub few : v.others ≤ v.before + v.passes

-- pass 0: of which board, and what it knows
pub record FirstState (D L : Type 0) : Type 0 where
  pub board : TableId
  pub knows : View D L

abbrev pub IsFirstOf : {D L : Type 0} → BoardState D L → FirstState D L → Type 0
IsFirstOf board first = first.board ≡ board.id

-- What is true of each pass that holds no turn.
pub record PassIsAtRest {D L : Type 0} (v : View D L) : Type 0 where
  pub is_live : v.live ≡ true
  pub held_is : turns_held v ≡ nothing
  pub none_drawn : v.drawn ≡ false

-- The board of a desk, and its first pass: both are of the desk's run, and the pass has seen the desk's whole journal.
pub record BoardIsOpened {D L Q : Type 0} (desk : DeskState D L Q) (passes : ℕ) (board : BoardState D L) (first : FirstState D L) : Type 0 where
  pub run_is : board.begun ≡ desk.begun
  pub is_of : IsFirstOf board first
  pub first_run : run_of first.knows ≡ board.begun
  pub seen_is : first.knows.seen ≡ desk.last.entries
  pub under_way_is : first.knows.in_flight ≡ under_way_in desk
  pub before_is : first.knows.before ≡ under_way_in desk
  pub passes_are : first.knows.passes ≡ passes
  pub one_made : first.knows.made ≡ 1
  pub none_ended : first.knows.ended ≡ []

-- No board was made of a desk: it came back with its run, its entries and what was under way, and holds no turn.
pub record IsHandedBack {D L Q : Type 0} (desk back : DeskState D L Q) : Type 0 where
  pub run_is : back.begun ≡ desk.begun
  pub entries_are : back.last.entries ≡ desk.last.entries
  pub under_way_is : under_way_in back ≡ under_way_in desk
  pub held_is : back.held ≡ nothing

-- A pass was split from pass 0: it has the next number, and has seen what pass 0 has seen.
pub record IsSplit {D L : Type 0} (old new : FirstState D L) (made : PassState D L) : Type 0 where
  pub old_is : new ≡ record old { knows = split_left (with_number old.knows) }
  pub made_is : made ≡ record { board = old.board; knows = split_right (with_number old.knows); device_turns = 0 }

-- A pass was joined to pass 0, which keeps its number and what it had seen.
abbrev pub after_join : {D L : Type 0} → FirstState D L → PassState D L → FirstState D L
after_join first other = record first { knows = joined_view first.knows other.knows }

-- The desk that a board closed into. It has the whole journal: all that pass 0 and each pass that was joined had seen,
-- and no entry of theirs that they had not; and none of a number that was not given to a pass. What they had under way
-- is still under way.
pub record IsClosed {D L Q : Type 0} (board : BoardState D L) (pass : FirstState D L) (desk : DeskState D L Q) : Type 0 where
  pub run_is : desk.begun ≡ board.begun
  pub held_is : desk.held ≡ nothing
  pub pass_is : desk.pass ≡ 0
  pub under_way_is : under_way_in desk ≡ pass.knows.in_flight
  pub first : IsIdle 0 pass.knows.seen desk.last.entries
  pub others : (number : ℕ) (seen : List Entry) → Contains pass.knows.ended (number, seen) → IsIdle number seen desk.last.entries
  pub unmade : (number : ℕ) → pass.knows.made ≤ number → IsIdle number pass.knows.seen desk.last.entries

-- the slots that are out with a pass, the last taken first
abbrev pub one_slot : {D L Q : Type 0} → Begun D L → (ℕ → Turn) → Option ℕ → List (ℕ × Option (Place D L Q))
one_slot begun turn None = []
one_slot begun turn (Some n) = (slot_of begun (turn n), None) ∷ []

abbrev pub journal_slot : {D L Q : Type 0} → Begun D L → Bool → List (ℕ × Option (Place D L Q))
journal_slot begun false = []
journal_slot begun true = (slot_of begun Journal, None) ∷ []

abbrev pub carried_of : {D L Q : Type 0} → Begun D L → TurnsHeld → List (ℕ × Option (Place D L Q))
carried_of begun held =
    journal_slot begun held.journal ++ (one_slot begun Log held.log ++ (one_slot begun Book held.book ++ one_slot begun Device held.device))

-- The turns that a pass holds are of its board's run.
pub record HoldsOwn {D L : Type 0} (begun : Begun D L) (held : TurnsHeld) : Type 0 where
  pub device : (stream : ℕ) → held.device ≡ Some stream → stream < length begun.disks
  pub book : (stream : ℕ) → held.book ≡ Some stream → stream < length begun.disks
  pub log : (handle : ℕ) → held.log ≡ Some handle → handle < length begun.logs

-- a pass with its board, as it takes turns
pub record SeatedState (D L : Type 0) : Type 0 where
  pub board : BoardState D L
  pub knows : View D L
  pub device_turns : ℕ

-- what it knows, as its turns tell it
abbrev pub seated_standing : {D L Q : Type 0} → Tells D L Q → SeatedState D L → Standing
seated_standing tells s = standing_at tells s.board.id s.knows s.device_turns

abbrev pub seated_pass : {D L : Type 0} → SeatedState D L → PassState D L
seated_pass s = record { board = s.board.id; knows = s.knows; device_turns = s.device_turns }
