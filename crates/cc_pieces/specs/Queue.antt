-- What the passes of a run have at its one read-ahead queue, by the journal and the answers of the run.
use Rattle.std.specs.Prelude.{◌≡◌, ℕ, zero, suc, ◌+◌, ◌-◌, ◌^◌, ◌≤◌, ◌==◌, ◌||◌, Bool, true, false, min, List, [], ◌∷◌, ◌++◌, length, map, reverse, drop, ◌⊎◌, if◌then◌else◌}
use Rattle.std.specs.declared.option.Option.{Option}
use Rattle.std.specs.declared.option.Option.TheVariants.{Some, None}
use Rattle.std.specs.List.{count_by}
use Rattle.cc_entry.specs.declared.answer.Answer.{Answer}
use Rattle.cc_entry.specs.declared.answer.Answer.TheVariants as answer
use Rattle.cc_entry.specs.declared.call.Call.{Call}
use Rattle.cc_entry.specs.declared.call.Call.TheVariants as call
use Rattle.cc_entry.specs.declared.entry.Entry.{Entry}
use Rattle.cc_entry.specs.declared.entry.Entry.TheVariants as entry
use Rattle.cc_entry.specs.declared.error.CcError.TheVariants as error
use Rattle.cc_entry.specs.declared.place.Request.{Request}
use Rattle.cc_entry.specs.declared.reply.Outcome.TheVariants as outcome
use Rattle.cc_entry.specs.declared.reply.Reply.TheVariants as reply
use Rattle.cc_script.specs.declared.script.Action.{Action}
use Rattle.cc_script.specs.declared.script.Action.TheVariants as action
use Rattle.cc_effects.specs.Moments.{own}
use Rattle.cc_pieces.specs.Explained.{Answered, GivenToRun}
use Rattle.cc_pieces.specs.Phases.{read_ahead_worker}
use Rattle.cc_pieces.specs.Runs.{asked_of}

-- A pass's place at the queue: the requests that it pushed and those that it took, the oldest first, and at least how often
-- it found the queue empty, and full.
pub record AheadQueuePlace : Type 0 where
  pub pushed : List Request
  pub taken : List Request
  pub empties : ℕ
  pub fulls : ℕ

-- the requests that a call for read-ahead answered, in front of others
abbrev pub with_asked : Entry → List Request → List Request
with_asked (entry.Call pass nth stream (call.AskAhead file at len) (outcome.Done (reply.Ahead (Some request)))) requests =
    request ∷ requests
with_asked other requests = requests

-- the requests of calls for read-ahead that were done, the newest first
abbrev pub requests_asked : List Entry → List Request
requests_asked [] = []
requests_asked (e ∷ entries) = with_asked e (requests_asked entries)

-- whether a call is one at the queue; and whether a line asks for read-ahead, for a step of it, or for one of both
abbrev pub is_queue_call : Call → Bool
is_queue_call (call.AskAhead file at len) = true
is_queue_call (call.AheadStep request) = true
is_queue_call other = false

abbrev pub is_ask : Action → Bool
is_ask (action.AskAhead file at len) = true
is_ask other = false

abbrev pub is_step : Action → Bool
is_step action.AheadStep = true
is_step other = false

abbrev pub is_queue_action : Action → Bool
is_queue_action asked = is_ask asked || is_step asked

-- what the lines that pass a test were answered
abbrev pub answers_to : (Action → Bool) → List (Action × Answer) → List Answer
answers_to test [] = []
answers_to test (line ∷ lines) = if test line.0 then line.1 ∷ answers_to test lines else answers_to test lines

-- whether a line that asks for read-ahead was answered that the queue is full
abbrev pub is_queue_full : Answer → Bool
is_queue_full (answer.Refused error.QueueFull) = true
is_queue_full other = false

-- how many of them were
abbrev pub fulls_told : List Answer → ℕ
fulls_told asks = count_by is_queue_full asks

-- whether a read-ahead step answered that there was no request
abbrev pub is_none_stepped : Answer → Bool
is_none_stepped (answer.Stepped None) = true
is_none_stepped other = false

-- how many of the steps did
abbrev pub nones : List Answer → ℕ
nones steps = count_by is_none_stepped steps

-- the request of a read-ahead step, in front of others
abbrev pub with_served : Entry → List Request → List Request
with_served (entry.Call pass nth stream (call.AheadStep request) ended) requests = request ∷ requests
with_served other requests = requests

-- the requests of read-ahead steps that have an entry, the newest first
abbrev pub requests_served : List Entry → List Request
requests_served [] = []
requests_served (e ∷ entries) = with_served e (requests_served entries)

-- requests stand among others in their order
abbrev pub AreAmong : List Request → List Request → Type 0
AreAmong [] others = Unit {0}
AreAmong (request ∷ requests) [] = ⊥
AreAmong (request ∷ requests) (other ∷ others) =
    ((request ≡ other) × AreAmong requests others) ⊎ AreAmong (request ∷ requests) others

-- a count that rises stands still at its last value; and one that rises so often
abbrev pub risen : ℕ → ℕ
risen count = min (suc count) (2 ^ 64 - 1)

abbrev pub risen_by : ℕ → ℕ → ℕ
risen_by count zero = count
risen_by count (suc times) = risen (risen_by count times)

-- a pass's place behind a line that asks for read-ahead: the request that is answered was pushed, or the queue was full
abbrev pub AskPlaced : Answer → AheadQueuePlace → AheadQueuePlace → Type 0
AskPlaced (answer.Given (reply.Ahead (Some request))) before after = after ≡ record before { pushed = before.pushed ++ request ∷ [] }
AskPlaced (answer.Refused error.QueueFull) before after = after ≡ record before { fulls = risen before.fulls }
AskPlaced other before after = after ≡ before

-- and behind a step: the request was taken, or the queue was empty
abbrev pub AheadStepPlaced : Option Request → AheadQueuePlace → AheadQueuePlace → Type 0
AheadStepPlaced (Some request) before after = after ≡ record before { taken = before.taken ++ request ∷ [] }
AheadStepPlaced None before after = after ≡ record before { empties = risen before.empties }

-- What lines of a pass, each with its answer, did at its place, and left in the journal: what was pushed there is what its
-- done calls for read-ahead answered, in their order; one request was taken for each step that does not say that there was
-- none, among them those of its steps' entries in their order; and the two counts rose as often as the answers say.
pub record PlaceRan (me : ℕ) (lines : List (Action × Answer)) (before after : AheadQueuePlace) (old new : List Entry) : Type 0 where
  pub during : List Entry
  pub grew : new ≡ during ++ old
  pub pushed : after.pushed ≡ before.pushed ++ reverse (requests_asked (own me during))
  pub taken : List Request
  pub took : after.taken ≡ before.taken ++ taken
  pub counted : length taken + nones (answers_to is_step lines) ≡ length (answers_to is_step lines)
  pub served : AreAmong (reverse (requests_served (own me during))) taken
  pub empties : after.empties ≡ risen_by before.empties (nones (answers_to is_step lines))
  pub fulls : after.fulls ≡ risen_by before.fulls (fulls_told (answers_to is_ask lines))

-- the lines of a caller in a run, each with what it was answered: their replies are behind those of the restarts and the streams
abbrev pub lines_told : GivenToRun → Answered → ℕ → List (Action × Answer)
lines_told given told me =
    asked_of (λ line. line.caller == me) given.lines (drop (length given.streams) (drop (length given.restarts) told.replies))

-- what the read-ahead steps of a pass were answered: the worker's steps are those that a run tells, a caller's its lines
abbrev pub steps_told : GivenToRun → Answered → ℕ → List Answer
steps_told given told me =
    if me == read_ahead_worker then map (λ reply. reply.answer) told.stepped else answers_to is_step (lines_told given told me)

-- What the passes have at the queue of a run: each pushed what its done calls for read-ahead answered, in their order, and
-- found the queue full at least as often as its lines were answered so; it took one request for each step that does not say
-- that there was none, among them those of its steps' entries in their order, and found the queue empty at least as often as
-- a step says so. The worker took these requests.
pub record RequestsAreQueued (given : GivenToRun) (told : Answered) (taken : List Request) (places : ℕ → AheadQueuePlace) (past : List Entry)
    : Type 0 where
  pub pushed : (me : ℕ) → (places me).pushed ≡ reverse (requests_asked (own me past))
  pub fulls : (me : ℕ) → fulls_told (answers_to is_ask (lines_told given told me)) ≤ (places me).fulls
  pub each_took : (me : ℕ) →
      length (places me).taken + nones (steps_told given told me) ≡ length (steps_told given told me)
  pub served : (me : ℕ) → AreAmong (reverse (requests_served (own me past))) (places me).taken
  pub empties : (me : ℕ) → nones (steps_told given told me) ≤ (places me).empties
  pub worker_took : (places read_ahead_worker).taken ≡ taken
