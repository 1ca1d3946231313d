-- What an append to a log and a flush of a log ask and leave.
use Rattle.std.specs.Prelude.{◌≡◌, ℕ, suc, ◌+◌, ◌-◌, ◌<◌, ◌≤◌, Result, Ok, Err, length}
use Rattle.cc_entry.specs.declared.error.CcError.{CcError}
use Rattle.cc_entry.specs.declared.error.CcError.TheVariants as error
use Rattle.cc_effects.specs.Moments.{Between}
use Rattle.cc_journal.specs.Journal.{JournalState, room_of}
use Rattle.cc_model.specs.Room.{reserved_in}
use Rattle.cc_turns.specs.Standing.{Standing}
use Rattle.cc_writes.specs.Hands.{Went, WentWith}
use Rattle.cc_writes.specs.Ways.{IsFull}
use Rattle.cc_writes.specs.Logs.{IsStopAt, IsWant}
use Rattle.cc_calls.specs.Pages.{StaysGood}

-- Where a call is answered that there is no such log, the journal had room for its entry beside what is owed and under way:
-- room is asked before the log.
abbrev pub HadRoomError : Standing → CcError → Type 0
HadRoomError w (error.NoLog handle) = length w.seen + (reserved_in w.seen + w.in_flight + w.others) + 1 ≤ w.setup.capacity
HadRoomError w other = Unit {0}

abbrev pub HadRoom : {A : Type 0} → Standing → Result A CcError → Type 0
HadRoom w (Ok a) = Unit {0}
HadRoom w (Err e) = HadRoomError w e

-- A call on a log was answered so: it left what explains the answer, a journal that is full is full, and one in which no log
-- was found is not, the pass goes on as it stood and may call again, and what it has seen stays good.
pub record LogEnds {A : Type 0} (old new : Standing) (Left : Result A CcError → Between) (answer : Result A CcError) : Type 0 where
  pub left : Left answer old.seen new.seen
  pub full : IsFull 1 new answer
  pub room : HadRoom new answer
  pub goes_on : Went old new
  pub good : StaysGood old new

-- There is no log of the handle, or no room for an entry of it.
abbrev pub NoPlace : ℕ → ℕ → CcError → Type 0
NoPlace logs handle (error.NoLog missing) = (missing ≡ handle) × (logs ≤ handle)
NoPlace logs handle other = IsWant other

-- A place is reserved for the entry of a log that there is, or nothing was done.
abbrev pub LogPlaceLeft : ℕ → Result (Unit {0}) CcError → Standing → Standing → Type 0
LogPlaceLeft handle (Ok done) old new = (handle < old.setup.logs) × WentWith (suc old.in_flight) old new
LogPlaceLeft handle (Err e) old new = NoPlace old.setup.logs handle e × Went old new

-- The place that is reserved in a journal is kept where there is a log of the handle, else it is given back.
abbrev pub LogPlaceKept : {Q : Type 0} → ℕ → Result (Unit {0}) CcError → JournalState Q → JournalState Q → Type 0
LogPlaceKept handle (Ok done) j k = (handle < j.logs) × (k ≡ j)
LogPlaceKept handle (Err e) j k = (e ≡ error.NoLog handle) × (j.logs ≤ handle) × (k ≡ record j { reserved = j.reserved - 1 })

-- Why no place is reserved in a journal: there was room for it, and there is no log of the handle; or there was no room, and
-- the refusal says so; or memory was wanting.
abbrev pub NoPlaceIn : {Q : Type 0} → ℕ → JournalState Q → CcError → Type 0
NoPlaceIn handle j (error.NoLog missing) = (missing ≡ handle) × (j.logs ≤ handle) × (1 ≤ room_of j)
NoPlaceIn handle j other = IsStopAt 1 j other

-- A place is reserved in a journal for the entry of a log that there is, or it is as it was.
abbrev pub PlaceIn : {Q : Type 0} → ℕ → Result (Unit {0}) CcError → JournalState Q → JournalState Q → Type 0
PlaceIn handle (Ok done) j k = (handle < j.logs) × (k ≡ record j { reserved = j.reserved + 1 })
PlaceIn handle (Err e) j k = NoPlaceIn handle j e × (k ≡ j)

-- The answer is no want of room.
abbrev pub IsNotFull : {A : Type 0} → Result A CcError → Type 0
IsNotFull (Ok a) = Unit {0}
IsNotFull (Err (error.JournalFull entries)) = ⊥
IsNotFull (Err other) = Unit {0}
