-- What the steps of a pass tell it.
use Rattle.std.specs.Prelude.{◌≡◌, ◌≢◌, ℕ, ◌-◌, ◌+◌, ◌*◌, ◌<◌, ◌≤◌, ◌==◌, suc, List, [], ◌∷◌, length, Contains}
use Rattle.std.specs.declared.option.Option.{Option}
use Rattle.std.specs.declared.option.Option.TheVariants.{Some, None}
use Rattle.std.specs.Bool.{MatchBool}
use mathlib.Core.Option.{none}
use Rattle.atomic_table.specs.Table.{State, Me, Step, Allows, step, rest}
use Rattle.cc_entry.specs.declared.entry.Entry.{Entry}
use Rattle.cc_model.specs.Good.{IsGood}
use Rattle.cc_model.specs.Turns.{Turn, Device, Book, Log, Journal}
use Rattle.cc_turns.specs.Desk.{Begun, Tells}
use Rattle.cc_turns.specs.Slots.{slot_of, setup_in, Fits}
use Rattle.cc_turns.specs.Takes.{Grows}
use Rattle.cc_turns.specs.declared.slots.Place.{Place}
use Rattle.cc_board.specs.declared.rule.View.{View}
use Rattle.cc_board.specs.View.{run_of, view_standing, with_turn, without_turn, with_number}

-- what a slot holds
abbrev pub TurnSlot : Type 0 → Type 0 → Type 0 → Type 0
TurnSlot D L Q = Option (Place D L Q)

-- what a step tells its pass: of the step, what the pass knew and the word that was found or stored, what it knows now
abbrev pub Telling : Type 0 → Type 0 → Type 0 → Type 1
Telling D L Q = Step (TurnSlot D L Q) → Me (TurnSlot D L Q) (View D L) → ℕ → Me (TurnSlot D L Q) (View D L) → Type 0

-- the turn of a word, of each kind
abbrev pub device_at : {D L : Type 0} → Begun D L → ℕ → Turn
device_at begun word = Device (word - 1)

abbrev pub book_at : {D L : Type 0} → Begun D L → ℕ → Turn
book_at begun word = Book (word - 1 - length begun.disks)

abbrev pub log_at : {D L : Type 0} → Begun D L → ℕ → Turn
log_at begun word = Log (word - 1 - 2 * length begun.disks)

abbrev pub journal_at : {D L : Type 0} → Begun D L → ℕ → Turn
journal_at begun word = Journal

-- A turn was taken: the pass holds it too, with what it is of, has seen what the others did meanwhile, which is good,
-- and knows what they have under way: no more than was at first, and one entry for each pass.
pub record TookTurn {D L Q : Type 0} (tells : Tells D L Q) (turn : Turn) (me now : Me (TurnSlot D L Q) (View D L)) : Type 0 where
  pub place : Place D L Q
  pub carried : now.1 ≡ (slot_of (run_of me.0) turn, Some place) ∷ me.1
  pub same : now.0 ≡ record (with_turn turn me.0) { seen = now.0.seen; others = now.0.others }
  pub grows : Grows (view_standing tells me.0 0) now.0.seen
  pub good : IsGood (setup_in tells (run_of me.0)) now.0.seen
  pub fits : Fits tells (run_of me.0) now.0.seen (me.0.in_flight + now.0.others) turn place
  pub few : now.0.others ≤ me.0.before + me.0.passes

-- the turn was free and was taken, or nothing changed
abbrev pub TakesTurn : {D L Q : Type 0} → Tells D L Q → (Begun D L → ℕ → Turn) → Telling D L Q
TakesTurn tells turn_at step me found now = MatchBool (found == 0) (TookTurn tells (turn_at (run_of me.0) step.word) me now) (now ≡ me)

-- What holds of any step on the word of a slot's turn that tells this: it may be made where it leaves the word other than
-- 0; where the turn was not free nothing changed for the pass; and where it was free the pass has what is in the slot, as
-- after every other such step.
pub record MayTake {D L Q : Type 0} (holds : State (TurnSlot D L Q) (View D L) → Type 0) (told : Telling D L Q) (slots slot id : ℕ)
    (me : Me (TurnSlot D L Q) (View D L)) : Type 0 where
  pub allowed : (f : ℕ → ℕ) (first second : ℕ) → ((n : ℕ) → f n ≢ 0) →
      Allows holds slots id me (suc slot) f (told (step slots (suc slot) first second none) me)
  pub same : (first second n : ℕ) (now : Me (TurnSlot D L Q) (View D L)) → n ≢ 0 →
      told (step slots (suc slot) first second none) me n now → now ≡ me
  pub alike : (first second : ℕ) (now : Me (TurnSlot D L Q) (View D L)) →
      told (step slots (suc slot) first second none) me 0 now → told (step slots (suc slot) 0 1 none) me 0 now
  pub taken : (now : Me (TurnSlot D L Q) (View D L)) → told (step slots (suc slot) 0 1 none) me 0 now →
      (place : Place D L Q) × (now.1 ≡ (slot, Some place) ∷ me.1)

-- what was taken last
abbrev pub last_place : {D L Q : Type 0} → List (ℕ × TurnSlot D L Q) → (Place D L Q → View D L) → View D L → View D L
last_place [] then other = other
last_place ((slot, None) ∷ carried) then other = other
last_place ((slot, Some place) ∷ carried) then other = then place

-- the turn was given back, with what it is of
abbrev pub GivesTurn : {D L Q : Type 0} → (Begun D L → ℕ → Turn) → Telling D L Q
GivesTurn turn_at step me stored now =
    now ≡ (last_place me.1 (λ place. without_turn (turn_at (run_of me.0) step.word) place me.0) me.0, rest me.1)

-- How many passes were made, as pass 0 knows, itself among them. Fewer than that were joined, and none of them is pass
-- 0.
pub record Counted {D L Q : Type 0} (me : Me (TurnSlot D L Q) (View D L)) (found : ℕ) (now : Me (TurnSlot D L Q) (View D L)) : Type 0 where
  pub count : found ≡ me.0.made
  pub same : now ≡ me
  pub few : me.0.made ≤ suc me.0.passes
  pub fewer_ended : length me.0.ended < me.0.made
  pub others_ended : (number : ℕ) (seen : List Entry) → Contains me.0.ended (number, seen) → number ≢ 0

abbrev pub CountsPasses : {D L Q : Type 0} → Telling D L Q
CountsPasses step me found now = Counted me found now

-- a number was drawn
abbrev pub DrawsNumber : {D L Q : Type 0} → Telling D L Q
DrawsNumber step me stored now = now ≡ (with_number me.0, me.1)

-- the pass is of this run, and nothing changed
abbrev pub LearnsRun : {D L Q : Type 0} → Begun D L → Telling D L Q
LearnsRun begun step me found now = (now ≡ me) × (run_of me.0 ≡ begun)
