-- The places of a caller at the queues of a run, and what its lines did there.
use Rattle.std.specs.Prelude.{◌≡◌, ℕ, List, map}
use Rattle.cc_entry.specs.declared.answer.Answer.{Answer}
use Rattle.cc_entry.specs.declared.entry.Entry.{Entry}
use Rattle.cc_entry.specs.declared.place.Request.{Request}
use Rattle.cc_async.specs.declared.queue.QueuedRead.{QueuedRead}
use Rattle.cc_pieces.specs.AsyncQueue.{AsyncPlace, AsyncRan, Numbered}
use Rattle.cc_pieces.specs.Queue.{PlaceRan, AheadQueuePlace}
use Rattle.cc_queue.specs.Places.{PlaceState, new_place}
use Rattle.cc_script.specs.declared.script.Action.{Action}
use Rattle.cc_lines.specs.declared.queues.Places.{Places}
use Rattle.cc_lines.specs.declared.queues.Queues.{Queues}

-- the queues that the places of a caller are at
abbrev pub queues_of : Places → Queues
queues_of places = record { ahead = places.ahead.queue; copies = places.copies.queue }

-- places where nothing was done yet
abbrev pub new_places : Queues → Places
new_places queues = record { ahead = new_place queues.ahead; copies = new_place queues.copies }

-- what a place at the queue of read-ahead says of itself
abbrev pub hand_of : PlaceState Request → AheadQueuePlace
hand_of place = record { pushed = place.pushed; taken = place.taken; empties = place.empties; fulls = place.fulls }

-- the same of a place at the queue of copied reads
abbrev pub numbered_of : QueuedRead → Numbered
numbered_of read = record { id = read.id; file = read.file; at = read.at; len = read.len }

abbrev pub copies_of : PlaceState QueuedRead → AsyncPlace
copies_of place = record {
  queued = map numbered_of place.pushed;
  done = map numbered_of place.taken;
  empties = place.empties;
  fulls = place.fulls;
}

-- Lines of a pass, each with its answer, did this at the pass's place, which is of the queue that it was of.
pub record PlaceWent (me : ℕ) (lines : List (Action × Answer)) (was now : PlaceState Request) (old new : List Entry) : Type 0 where
  pub ran : PlaceRan me lines (hand_of was) (hand_of now) old new
  pub queue_is : now.queue ≡ was.queue

pub record CopiesWent (me : ℕ) (lines : List (Action × Answer)) (was now : PlaceState QueuedRead) : Type 0 where
  pub ran : AsyncRan me lines (copies_of was) (copies_of now)
  pub queue_is : now.queue ≡ was.queue

-- the same of both places of a caller
pub record PlacesWent (me : ℕ) (lines : List (Action × Answer)) (was now : Places) (old new : List Entry) : Type 0 where
  pub ahead : PlaceWent me lines was.ahead now.ahead old new
  pub copies : CopiesWent me lines was.copies now.copies
