-- The places of the passes at the queues of a run, that of read-ahead and that of copied reads.
use Rattle.std.specs.Prelude.{◌≡◌, ℕ, zero, suc, List, [], ◌++◌, length, slice_get}
use Rattle.std.specs.declared.option.Option.{Option}
use Rattle.std.specs.declared.option.Option.TheVariants.{Some, None}
use Rattle.std.specs.List.{AllByRecursion}
use Rattle.cc_async.specs.declared.queue.QueuedRead.{QueuedRead}
use Rattle.cc_entry.specs.declared.answer.LineReply.{LineReply}
use Rattle.cc_entry.specs.declared.entry.Entry.{Entry}
use Rattle.cc_entry.specs.declared.place.Request.{Request}
use Rattle.cc_script.specs.declared.script.ActionLine.{ActionLine}
use Rattle.cc_pieces.specs.AsyncQueue.{HasQueued}
use Rattle.cc_pieces.specs.Explained.{Answered, GivenToRun}
use Rattle.cc_pieces.specs.Queue.{RequestsAreQueued, AheadQueuePlace}
use Rattle.cc_queue.specs.Places.{PlaceState}
use Rattle.cc_lines.specs.Holds.{NamesState}
use Rattle.cc_run.specs.Lines.{asked_by_caller}
use Rattle.cc_lines.specs.declared.queues.Queues.{Queues}
-- what lines of a pass, each with its answer, did at its places
pub use Rattle.cc_lines.specs.Queues.{PlaceWent, PlacesWent, copies_of, hand_of, new_places, queues_of}

-- the callers' places are at these queues
abbrev pub AreOfQueues : Queues → List NamesState → Type 0
AreOfQueues queues rows = AllByRecursion (λ names. queues_of names.places ≡ queues) rows

-- lines whose replies stand behind those that were there did this at their callers' places
pub record PlacesRan (lines : List ActionLine) (before after : List LineReply) (was now : List NamesState) (old new : List Entry)
    : Type 0 where
  pub each : (answers : List LineReply) (n : ℕ) (a b : NamesState) → after ≡ before ++ answers →
      slice_get was n ≡ Some a → slice_get now n ≡ Some b →
      PlacesWent (suc n) (asked_by_caller (suc n) lines answers) a.places b.places old new

-- a place at which nothing was done
abbrev pub at_rest : AheadQueuePlace
at_rest = record { pushed = []; taken = []; empties = 0; fulls = 0 }

-- the place of a pass, of which the first has the number 1
abbrev pub or_rest : Option (PlaceState Request) → AheadQueuePlace
or_rest None = at_rest
or_rest (Some place) = hand_of place

abbrev pub place_at : List (PlaceState Request) → ℕ → AheadQueuePlace
place_at places zero = at_rest
place_at places (suc n) = or_rest (slice_get places n)

-- the requests that the read-ahead worker took
abbrev pub taken_at : List (PlaceState Request) → List Request
taken_at places = (place_at places 18).taken

-- There is a place of each of the passes 1 to 18, and they have at the queue what the journal and the answers of a run say.
pub record AreQueued (given : GivenToRun) (told : Answered) (places : List (PlaceState Request)) (past : List Entry) : Type 0 where
  pub counted : length places ≡ 18
  pub queued : RequestsAreQueued given told (taken_at places) (place_at places) past

-- At the queue of copied reads there is a place of each of the passes 1 to 16, and they have there what the answers of a run say.
pub record AreAsyncQueued (given : GivenToRun) (told : Answered) (places : List (PlaceState QueuedRead)) : Type 0 where
  pub counted : length places ≡ 16
  pub each : (n : ℕ) (place : PlaceState QueuedRead) → slice_get places n ≡ Some place →
      HasQueued given told (suc n) (copies_of place)
