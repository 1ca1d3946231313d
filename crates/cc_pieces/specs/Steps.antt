-- A script of `steps` and its journal: the lines are events in their order, one at its place.
use Rattle.std.specs.Prelude.{◌≡◌, ℕ, suc, Bool, false, ◌==◌, List, [], ◌∷◌, ◌++◌, drop, length, slice_get, if◌then◌else◌}
use Rattle.std.specs.declared.option.Option.{Option}
use Rattle.std.specs.declared.option.Option.TheVariants.{Some, None}
use Rattle.std.specs.List.{list_any}
use Rattle.cc_entry.specs.declared.answer.Answer.{Answer}
use Rattle.cc_entry.specs.declared.answer.Answer.TheVariants as answer
use Rattle.cc_entry.specs.declared.answer.LineReply.{LineReply}
use Rattle.cc_entry.specs.declared.call.Call.{Call}
use Rattle.cc_entry.specs.declared.call.Call.TheVariants as call
use Rattle.cc_entry.specs.declared.entry.Entry.{Entry}
use Rattle.cc_entry.specs.declared.entry.Entry.TheVariants as entry
use Rattle.cc_entry.specs.declared.reply.Reply.TheVariants as reply
use Rattle.cc_script.specs.declared.script.ActionLine.{ActionLine}
use Rattle.cc_script.specs.declared.script.StreamLine.{StreamLine}
use Rattle.cc_script.specs.EventActions.{is_defer}
use Rattle.cc_model.specs.Setup.{Setup}
use Rattle.cc_effects.specs.Moments.{Between}
use Rattle.cc_pieces.specs.Moments.{EventLeft}
use Rattle.cc_effects.specs.declared.events.Event.{Event}
use Rattle.cc_effects.specs.declared.events.Event.TheVariants as event
use Rattle.cc_effects.specs.declared.events.StepReply.{StepReply}
use Rattle.cc_effects.specs.declared.events.StepReply.TheVariants as step
use Rattle.cc_pieces.specs.Bindings.{Binding}
use Rattle.cc_pieces.specs.Events.{doing_of, event_by}
use Rattle.cc_pieces.specs.Openings.{first_object_of, opening_call}
use Rattle.cc_pieces.specs.Served.{bindings_after}

-- the answer of a line by what its event was replied
abbrev pub answer_by : {Q : Type 0} → StepReply Q → Answer
answer_by (step.Done r) = answer.Given r
answer_by (step.NewLsn lsn) = answer.NewLsn lsn
answer_by (step.Deferred id) = answer.Deferred id
answer_by (step.Posted None) = answer.Posts []
answer_by (step.Posted (Some posted)) = answer.Posts (posted.id ∷ [])
answer_by (step.Refused e) = answer.Refused e
answer_by (step.Kept routine e) = answer.Refused e
answer_by step.Faulted = answer.Faulted
answer_by step.NotNow = answer.NotNow

-- An event was answered so, and left what its reply says.
pub record EventAnswered (u : Setup) (it : Event (Unit {0})) (told : Answer) (old new : List Entry) : Type 0 where
  pub reply : StepReply (Unit {0})
  pub answer_is : told ≡ answer_by reply
  pub left : EventLeft u it reply old new

-- the event of a line, where there is one; a line whose word names no hold places nothing, and is answered so
abbrev pub LineStepped : Setup → Option (Event (Unit {0})) → Answer → Between
LineStepped u None told old new = (told ≡ answer.NoHold) × (new ≡ old)
LineStepped u (Some it) told old new = EventAnswered u it told old new

-- the event of a line, by the bindings of its caller
abbrev pub line_event : List Binding → ActionLine → Option (Event (Unit {0}))
line_event bindings line = event_by line.caller line.fails (doing_of line.caller bindings line.action)

-- The bindings of each caller behind a line. A line that fails binds no word, as it is not answered a hold.
abbrev pub bindings_behind : ActionLine → Answer → (ℕ → List Binding) → ℕ → List Binding
bindings_behind line told bindings me =
    if line.caller == me then bindings_after line.action told (bindings me) else bindings me

-- The lines, each with its reply, left what follows each other, and nothing else was placed.
abbrev pub LinesStepped : Setup → (ℕ → List Binding) → List ActionLine → List LineReply → Between
LinesStepped u bindings [] [] old new = new ≡ old
LinesStepped u bindings (line ∷ lines) (reply ∷ replies) old new =
    (between : List Entry)
    × (reply.line ≡ line.line)
    × LineStepped u (line_event (bindings line.caller) line) reply.answer old between
    × LinesStepped u (bindings_behind line reply.answer bindings) lines replies between new
LinesStepped u bindings lines replies old new = ⊥

-- a call of pass 0, which sets the run up
abbrev pub SetUpBy : Setup → Call → Answer → Between
SetUpBy u it told old new = EventAnswered u (event.Do 0 it) told old new

-- the stream's log is set where the first object was initialised
abbrev pub LogSetUp : Setup → ℕ → ℕ → Answer → Answer → Between
LogSetUp u s handle (answer.Given reply.Unit) told old new = SetUpBy u (call.SetLog (first_object_of s) handle) told old new
LogSetUp u s handle first told old new = (told ≡ first) × (new ≡ old)

-- the line of a stream with such a log, or none
abbrev pub StreamStepped : Setup → ℕ → StreamLine → Option ℕ → Answer → Between
StreamStepped u s stream None told old new = SetUpBy u (opening_call s stream) told old new
StreamStepped u s stream (Some handle) told old new =
    (first : Answer) × (between : List Entry) × SetUpBy u (opening_call s stream) first old between
    × LogSetUp u s handle first told between new

-- The streams, numbered from `s`, were set up one after the other, each with a reply of its own.
abbrev pub StreamsStepped : Setup → ℕ → List StreamLine → List LineReply → Between
StreamsStepped u s [] [] old new = new ≡ old
StreamsStepped u s (stream ∷ streams) (reply ∷ replies) old new =
    (between : List Entry)
    × (reply.line ≡ stream.line)
    × StreamStepped u s stream stream.log reply.answer old between
    × StreamsStepped u (suc s) streams replies between new
StreamsStepped u s streams replies old new = ⊥

-- A script of `steps` and its replies are explained by a past: pass 0 set the streams up before all else; then each line
-- was an event at its place, in the order of the lines.
pub record IsSteppedThrough (u : Setup) (streams : List StreamLine) (lines : List ActionLine) (replies : List LineReply)
    (past : List Entry) : Type 0 where
  pub setup : List LineReply
  pub answers : List LineReply
  pub begun : List Entry
  pub replies_are : replies ≡ setup ++ answers
  pub opened : StreamsStepped u 0 streams setup [] begun
  pub stepped : LinesStepped u (λ me. []) lines answers begun past

-- the numbers of the deferred writes, or none where a line was refused, of the `defer` lines in their order
abbrev pub deferral_in : Answer → Option ℕ
deferral_in (answer.Deferred id) = Some id
deferral_in other = None

abbrev pub deferrals_of_lines : List ActionLine → List LineReply → List (Option ℕ)
deferrals_of_lines (line ∷ lines) (reply ∷ replies) =
    if is_defer line.action then deferral_in reply.answer ∷ deferrals_of_lines lines replies else deferrals_of_lines lines replies
deferrals_of_lines lines replies = []

-- whether a deferred write was posted
abbrev pub posts_it : ℕ → Entry → Bool
posts_it id (entry.Posted posted) = posted == id
posts_it id other = false

-- whether the routine of a `defer` line was posted
abbrev pub was_posted : List Entry → Option (Option ℕ) → Bool
was_posted past None = false
was_posted past (Some None) = false
was_posted past (Some (Some id)) = list_any (posts_it id) past

-- the deferrals of a script by its replies, of which those of the streams are the first
abbrev pub deferrals_by : List StreamLine → List ActionLine → List LineReply → List (Option ℕ)
deferrals_by streams lines replies = deferrals_of_lines lines (drop (length streams) replies)

-- As many routines come back, in their order, and one is posted exactly where the deferral of its line was; one that was
-- not is as it was handed in.
pub record RoutinesLeft {Q : Type 0} (posted : Q → Bool) (deferrals : List (Option ℕ)) (past : List Entry) (old new : List Q)
    : Type 0 where
  pub counted : length new ≡ length old
  pub each : (k : ℕ) (routine : Q) → slice_get new k ≡ Some routine →
      posted routine ≡ was_posted past (slice_get deferrals k)
  pub same : (k : ℕ) (routine : Q) → slice_get new k ≡ Some routine → posted routine ≡ false → slice_get old k ≡ Some routine
