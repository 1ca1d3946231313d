-- What passes have at the read-ahead queue: the calls of a caller for read-ahead, and the answers of the worker's steps. Each
-- stretch has its newest entry first.
use Rattle.std.specs.Prelude.{ℕ, ◌==◌, true, List, [], ◌∷◌, if◌then◌else◌}
use Rattle.std.specs.declared.option.Option.TheVariants.{Some, None}
use Rattle.cc_entry.specs.declared.call.Call.TheVariants as call
use Rattle.cc_entry.specs.declared.error.CcError.TheVariants as error
use Rattle.cc_entry.specs.declared.reply.Reply.TheVariants as reply
use Rattle.cc_entry.specs.declared.answer.Answer.TheVariants as answer
use Rattle.cc_entry.specs.declared.answer.LineReply.{LineReply}
use Rattle.cc_entry.specs.declared.entry.Entry.{Entry}
use Rattle.cc_script.specs.declared.script.Action.TheVariants as action
use Rattle.cc_pieces.specs.Explained.{Answered, GivenToRun}
use Rattle.cc_entry.specs.declared.place.Request.{Request}
use Rattle.cc_pieces.specs.Queue.{RequestsAreQueued, AheadQueuePlace}
use Rattle.cc_worked.specs.Values.{a, answers, refused}
use Rattle.cc_worked.specs.PiecesWithoutEntry.{request, step}
use Rattle.cc_worked.specs.PiecesRuns.{line_of, one_step}
use Rattle.cc_worked.specs.PiecesLines.{no_request}
use Rattle.cc_worked.specs.PiecesAnswered.{first_request}

-- a caller asks for read-ahead once, which is a request, and once more, which is none; and the worker serves the request
abbrev pub asks_ahead : List Entry
asks_ahead =
    answers 18 1 (call.AheadStep request) (reply.Whole true)
    ∷ answers 1 2 (call.AskAhead a 8192 1) (reply.Ahead None)
    ∷ answers 1 1 (call.AskAhead a 0 1) (reply.Ahead (Some request))
    ∷ []

-- a caller's call for read-ahead finds the queue full
abbrev pub finds_it_full : List Entry
finds_it_full = refused 1 1 (call.AskAhead a 0 1) error.QueueFull ∷ []

-- what a run told whose worker made these steps
abbrev pub told_steps : List LineReply → Answered
told_steps stepped = record { replies = []; ticked = []; stepped = stepped }

-- one step, which served the request, and one, which found none
abbrev pub one_served : List LineReply
one_served = one_step ∷ []

abbrev pub one_idle : List LineReply
one_idle = no_request ∷ []

-- a run without a line, and one of a line that asks for read-ahead
abbrev pub no_line : GivenToRun
no_line = record { restarts = []; streams = []; lines = []; phases = 1; ticks = 0; aheads = 1 }

abbrev pub one_ask : GivenToRun
one_ask = record no_line { lines = line_of 1 1 1 (action.AskAhead a 0 1) ∷ [] }

-- whose line was answered that the queue is full
abbrev pub told_full : Answered
told_full = record { replies = record { line = 1; answer = answer.Refused error.QueueFull } ∷ []; ticked = []; stepped = [] }

-- what the passes have at the queue explains a run whose worker made these steps, and one whose line found the queue full
abbrev pub QueuedBy : List LineReply → List Request → (ℕ → AheadQueuePlace) → List Entry → Type 0
QueuedBy stepped taken places past = RequestsAreQueued no_line (told_steps stepped) taken places past

abbrev pub FullBy : (ℕ → AheadQueuePlace) → List Entry → Type 0
FullBy places past = RequestsAreQueued one_ask told_full [] places past

-- a place at which nothing was done
abbrev pub at_rest : AheadQueuePlace
at_rest = record { pushed = []; taken = []; empties = 0; fulls = 0 }

-- a place that pushed the request, and one that took it
abbrev pub asked_once : AheadQueuePlace
asked_once = record { pushed = request ∷ []; taken = []; empties = 0; fulls = 0 }

abbrev pub took_once : AheadQueuePlace
took_once = record { pushed = []; taken = request ∷ []; empties = 0; fulls = 0 }

-- wrong: the one that was taken is another
abbrev pub took_other : AheadQueuePlace
took_other = record { pushed = []; taken = first_request ∷ []; empties = 0; fulls = 0 }

-- the places of caller 1 and of the worker; nothing was done at the others
abbrev pub places_with : AheadQueuePlace → AheadQueuePlace → ℕ → AheadQueuePlace
places_with caller worker me = if me == 1 then caller else (if me == 18 then worker else at_rest)

-- a place that found the queue full
abbrev pub found_full : AheadQueuePlace
found_full = record { pushed = []; taken = []; empties = 0; fulls = 1 }
