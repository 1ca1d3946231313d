-- The rule of a board: what is true between any two steps of its passes.
use Rattle.std.specs.Prelude.{◌≡◌, ℕ, ◌≢◌, ◌+◌, ◌-◌, ◌≤◌, ◌<◌, true, false, suc, List, [], ◌∷◌, length, slice_index, if◌then◌else◌, Contains}
use Rattle.std.specs.declared.option.Option.{Option}
use Rattle.std.specs.declared.option.Option.TheVariants.{Some}
use mathlib.Core.Option.{some, Option as Maybe}
use lib.ListN.{get_elem?}
use Rattle.atomic_table.specs.Table.{State}
use Rattle.cc_entry.specs.declared.entry.Entry.{Entry}
use Rattle.cc_effects.specs.Moments.{IsIdle}
use Rattle.cc_journal.specs.Capacity.{IsWithinCapacity}
use Rattle.cc_model.specs.Good.{IsGood}
use Rattle.cc_model.specs.Turns.{Turn}
use Rattle.cc_turns.specs.Standing.{holds, nothing}
use Rattle.cc_turns.specs.Desk.{Begun, Tells}
use Rattle.cc_turns.specs.Slots.{slots_of, slot_of, HasTurn, setup_in, Fits}
use Rattle.cc_turns.specs.Takes.{Grows}
use Rattle.cc_turns.specs.declared.slots.Place.{Place}
use Rattle.cc_board.specs.declared.rule.View.{View}
use Rattle.cc_board.specs.View.{run_of, turns_held, view_standing}

-- the sum of a number of each view
abbrev pub total : {V : Type 0} → (V → ℕ) → List V → ℕ
total f [] = 0
total f (v ∷ vs) = f v + total f vs

-- how many entries all passes have reserved for what they have under way
abbrev pub under_way : {D L : Type 0} → List (View D L) → ℕ
under_way views = total (λ v. v.in_flight) views

-- how many passes there are that were not joined
abbrev pub living : {D L : Type 0} → List (View D L) → ℕ
living views = total (λ v. if v.live then 1 else 0) views

-- the word of a turn: 0 where it is free
abbrev pub turn_word : {D L : Type 0} → Begun D L → Turn → ℕ
turn_word begun turn = suc (slot_of begun turn)

-- What a turn is of is in its slot, and stands for the past.
pub record IsAtHome {D L Q : Type 0} (tells : Tells D L Q) (begun : Begun D L) (past : List Entry) (reserved : ℕ)
    (homes : List (Maybe (Option (Place D L Q)))) (turn : Turn) : Type 0 where
  pub place : Place D L Q
  pub there : get_elem? homes (slot_of begun turn) ≡ some (some (Some place))
  pub fits : Fits tells begun past reserved turn place

-- a turn of this run is taken
pub record IsTaken {D L : Type 0} (begun : Begun D L) (words : List ℕ) (turn : Turn) : Type 0 where
  pub known : HasTurn begun turn
  pub word : slice_index words (turn_word begun turn) ≢ 0

-- a pass holds a turn
pub record IsHeld {D L : Type 0} (views : List (View D L)) (turn : Turn) : Type 0 where
  pub id : ℕ
  pub view : View D L
  pub there : get_elem? views id ≡ some view
  pub held : holds (turns_held view) turn ≡ true

-- What is true of each view. A pass that was not joined is of this run; the others went on since it looked, but
-- nowhere that it holds a turn, and placed nothing under its number; the words of what it holds say so. A pass that
-- was joined holds nothing, and has nothing under way. Each pass but the first has one entry under way at most.
pub record IsView {D L Q : Type 0} (tells : Tells D L Q) (begun : Begun D L) (past : List Entry) (words : List ℕ)
    (v : View D L) : Type 0 where
  pub of_run : v.live ≡ true → run_of v ≡ begun
  pub grows : v.live ≡ true → Grows (view_standing tells v 0) past
  pub spent : v.live ≡ false → turns_held v ≡ nothing
  pub none : v.live ≡ false → v.in_flight ≡ 0
  pub one : v.number ≢ 0 → v.in_flight ≤ 1
  pub taken : (turn : Turn) → holds (turns_held v) turn ≡ true → IsTaken begun words turn

-- how many numbers were given away: one may be drawn whose pass is not made yet
abbrev pub given_numbers : {D L : Type 0} → View D L → ℕ
given_numbers first = if first.drawn then first.made - 1 else first.made

-- What is true of the numbers of passes: those that were not joined have different ones, pass 0 is the first, and each
-- is below the number of those that were made, which is the first word. What pass 0 keeps of each that ended is true
-- of the past still. No entry that pass 0 has not seen has a number that was not given away. Each pass knows how many
-- are made at most, and what was under way at first; pass 0 has that under way, and one entry for each pass that was
-- joined, at most.
pub record PassesAreNumbered {D L : Type 0} (past : List Entry) (words : List ℕ) (views : List (View D L)) (first : View D L) : Type 0 where
  pub there : get_elem? views 0 ≡ some first
  pub is_live : first.live ≡ true
  pub is_first : first.number ≡ 0
  pub word : slice_index words 0 ≡ first.made
  pub few : first.made ≤ suc first.passes
  pub alike : (id : ℕ) (v : View D L) → get_elem? views id ≡ some v → v.live ≡ true →
      (v.passes ≡ first.passes) × (v.before ≡ first.before)
  pub kept : first.in_flight ≤ first.before + length first.ended
  pub apart : (a b : ℕ) (u v : View D L) → get_elem? views a ≡ some u → get_elem? views b ≡ some v →
      u.live ≡ true → v.live ≡ true → u.number ≡ v.number → a ≡ b
  pub below : (id : ℕ) (v : View D L) → get_elem? views id ≡ some v → v.live ≡ true → v.number < given_numbers first
  pub ended : (number : ℕ) (seen : List Entry) → Contains first.ended (number, seen) → IsIdle number seen past
  pub ended_below : (number : ℕ) (seen : List Entry) → Contains first.ended (number, seen) → number < given_numbers first
  pub ended_apart : (number : ℕ) (seen : List Entry) (id : ℕ) (v : View D L) → Contains first.ended (number, seen) →
      get_elem? views id ≡ some v → v.live ≡ true → v.number ≢ number
  pub unmade : (number : ℕ) → given_numbers first ≤ number → IsIdle number first.seen past
  pub counted : living views + length first.ended ≡ given_numbers first

-- The rule. There is one past, which is good, and was always within the capacity. What a free turn is of is at home and
-- stands for it, and a turn that is not free is held by a pass; each pass knows a part of the past; no turn is held twice;
-- and who holds the journal knows what all others have under way.
pub record IsBoard {D L Q : Type 0} (tells : Tells D L Q) (begun : Begun D L) (s : State (Option (Place D L Q)) (View D L)) : Type 0 where
  pub past : List Entry
  pub good : IsGood (setup_in tells begun) past
  pub within : IsWithinCapacity begun.capacity past
  pub few : (length begun.disks ≤ 16) × (length begun.logs ≤ 4)
  pub sized : (length s.words ≡ suc (slots_of begun)) × (length s.homes ≡ slots_of begun)
  pub home : (turn : Turn) → HasTurn begun turn → slice_index s.words (turn_word begun turn) ≡ 0 →
      IsAtHome tells begun past (under_way s.views) s.homes turn
  pub out : (turn : Turn) → HasTurn begun turn → slice_index s.words (turn_word begun turn) ≢ 0 → IsHeld s.views turn
  pub views : (id : ℕ) (v : View D L) → get_elem? s.views id ≡ some v → IsView tells begun past s.words v
  pub apart : (a b : ℕ) (u v : View D L) (turn : Turn) → get_elem? s.views a ≡ some u → get_elem? s.views b ≡ some v →
      holds (turns_held u) turn ≡ true → holds (turns_held v) turn ≡ true → a ≡ b
  pub reserved : (id : ℕ) (v : View D L) → get_elem? s.views id ≡ some v → v.journal ≡ true → under_way s.views ≡ v.in_flight + v.others
  pub first : View D L
  pub numbers : PassesAreNumbered past s.words s.views first
