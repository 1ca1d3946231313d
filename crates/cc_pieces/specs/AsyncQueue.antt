-- What the passes of a run have at its one queue of copied reads, by the answers of the run.
use Rattle.std.specs.Prelude.{◌≡◌, ℕ, suc, ◌≤◌, Bool, true, false, List, [], ◌∷◌, ◌++◌, length}
use Rattle.std.specs.declared.option.Option.TheVariants.{Some, None}
use Rattle.std.specs.List.{count_by}
use Rattle.cc_entry.specs.Place.{File}
use Rattle.cc_entry.specs.declared.answer.Answer.{Answer}
use Rattle.cc_entry.specs.declared.answer.Answer.TheVariants as answer
use Rattle.cc_entry.specs.declared.answer.AsyncDone.{AsyncDone}
use Rattle.cc_entry.specs.declared.answer.AsyncId.{AsyncId}
use Rattle.cc_entry.specs.declared.answer.AsyncStart.TheVariants as start
use Rattle.cc_entry.specs.declared.error.CcError.TheVariants as error
use Rattle.cc_script.specs.declared.script.Action.{Action}
use Rattle.cc_script.specs.declared.script.Action.TheVariants as action
use Rattle.cc_pieces.specs.Explained.{Answered, GivenToRun}
use Rattle.cc_pieces.specs.Queue.{lines_told, risen, risen_by}

-- whether an action is one at the queue of copied reads
abbrev pub is_async : Action → Bool
is_async (action.AsyncRead file at len) = true
is_async action.Complete = true
is_async other = false

-- a read under its number
pub record Numbered : Type 0 where
  pub id : AsyncId
  pub file : File
  pub at : ℕ
  pub len : ℕ

-- A pass's place at the queue: the reads that it queued and those that it completed, the oldest first, and at least how often
-- it found the queue empty, and full.
pub record AsyncPlace : Type 0 where
  pub queued : List Numbered
  pub done : List Numbered
  pub empties : ℕ
  pub fulls : ℕ

-- the read that a step completed
abbrev pub numbered_read : AsyncDone → Numbered
numbered_read done = record { id = done.id; file = done.file; at = done.at; len = done.len }

-- the read of a line that was queued, in front of others; and that of a line that completed one
abbrev pub with_queued : Action → Answer → List Numbered → List Numbered
with_queued (action.AsyncRead file at len) (answer.Started (start.Queued id)) reads =
    record { id = id; file = file; at = at; len = len } ∷ reads
with_queued asked told reads = reads

abbrev pub with_done : Action → Answer → List Numbered → List Numbered
with_done action.Complete (answer.Completed (Some done)) reads = numbered_read done ∷ reads
with_done asked told reads = reads

-- the reads of several lines that were queued, and those that several lines completed
abbrev pub reads_queued : List (Action × Answer) → List Numbered
reads_queued [] = []
reads_queued (line ∷ lines) = with_queued line.0 line.1 (reads_queued lines)

abbrev pub reads_done : List (Action × Answer) → List Numbered
reads_done [] = []
reads_done (line ∷ lines) = with_done line.0 line.1 (reads_done lines)

-- whether a line found the queue full that asks for a read that may be queued, and whether one found it empty that asks for the
-- completion of one
abbrev pub finds_full : Action × Answer → Bool
finds_full (action.AsyncRead file at len, answer.Refused error.QueueFull) = true
finds_full other = false

abbrev pub finds_empty : Action × Answer → Bool
finds_empty (action.Complete, answer.Completed None) = true
finds_empty other = false

-- reads have the numbers of one pass, one after the other behind this one
abbrev pub ReadsAreNumbered : ℕ → ℕ → List Numbered → Type 0
ReadsAreNumbered me n [] = Unit {0}
ReadsAreNumbered me n (read ∷ reads) = (read.id ≡ record { pass = me; n = suc n }) × ReadsAreNumbered me (suc n) reads

-- a pass's place behind a read that may be queued: it was queued under the pass's next number, or the queue was full
abbrev pub ReadPlaced : ℕ → File → ℕ → ℕ → Answer → AsyncPlace → AsyncPlace → Type 0
ReadPlaced me file at len (answer.Started (start.Queued id)) before after =
    (id ≡ record { pass = me; n = suc (length before.queued) })
    × (after ≡ record before { queued = before.queued ++ record { id = id; file = file; at = at; len = len } ∷ [] })
ReadPlaced me file at len (answer.Refused error.QueueFull) before after = after ≡ record before { fulls = risen before.fulls }
ReadPlaced me file at len other before after = after ≡ before

-- and behind the completion of one: it was taken, or the queue was empty
abbrev pub CompletionPlaced : Answer → AsyncPlace → AsyncPlace → Type 0
CompletionPlaced (answer.Completed (Some done)) before after = after ≡ record before { done = before.done ++ numbered_read done ∷ [] }
CompletionPlaced (answer.Completed None) before after = after ≡ record before { empties = risen before.empties }
CompletionPlaced other before after = after ≡ before

-- What lines of a pass, each with its answer, did at its place: what they queued, under its next numbers, and what they completed,
-- in their order; and the two counts rose as often as the answers say.
pub record AsyncRan (me : ℕ) (lines : List (Action × Answer)) (before after : AsyncPlace) : Type 0 where
  pub queued : after.queued ≡ before.queued ++ reads_queued lines
  pub numbered : ReadsAreNumbered me (length before.queued) (reads_queued lines)
  pub done : after.done ≡ before.done ++ reads_done lines
  pub empties : after.empties ≡ risen_by before.empties (count_by finds_empty lines)
  pub fulls : after.fulls ≡ risen_by before.fulls (count_by finds_full lines)

-- What a caller of a run has at the queue: the reads of its lines that were answered as queued, in their order, each under the
-- number of its answer, and what its lines completed, in their order; it found the queue empty at least as often as a line of
-- its own was answered that there was none, and full at least as often as one was answered that it is. Its reads have its own
-- numbers, from 1 on.
pub record HasQueued (given : GivenToRun) (told : Answered) (me : ℕ) (place : AsyncPlace) : Type 0 where
  pub queued : place.queued ≡ reads_queued (lines_told given told me)
  pub numbered : ReadsAreNumbered me 0 place.queued
  pub done : place.done ≡ reads_done (lines_told given told me)
  pub empties : count_by finds_empty (lines_told given told me) ≤ place.empties
  pub fulls : count_by finds_full (lines_told given told me) ≤ place.fulls
