-- What an event, a line, and several in their order leave of the World and of the routines.
use Rattle.std.specs.Prelude.{◌≡◌, ℕ, ◌≤◌, Bool, true, false, List, [], ◌∷◌, ◌++◌, length, if◌then◌else◌}
use Rattle.std.specs.declared.option.Option.{Option}
use Rattle.cc_entry.specs.declared.answer.Answer.{Answer}
use Rattle.cc_entry.specs.declared.answer.LineReply.{LineReply}
use Rattle.cc_entry.specs.declared.call.Call.{Call}
use Rattle.cc_script.specs.EventActions.{is_defer}
use Rattle.cc_script.specs.Within.{IsActionWithin}
use Rattle.cc_script.specs.declared.script.Action.{Action}
use Rattle.cc_script.specs.declared.script.ActionLine.{ActionLine}
use Rattle.cc_script.specs.declared.script.StreamLine.{StreamLine}
use Rattle.cc_pieces.specs.Bindings.{Binding}
use Rattle.cc_pieces.specs.Steps.{EventAnswered, LineStepped, LinesStepped, StreamStepped, StreamsStepped, deferral_in, deferrals_of_lines, line_event}
use Rattle.cc_turns.specs.Desk.{Tells}
use Rattle.cc_world.specs.World.{WorldState}
use Rattle.cc_effects.specs.declared.events.Event.{Event}
use Rattle.cc_effects.specs.declared.events.Event.TheVariants as event
use Rattle.cc_event_lines.specs.Routines.{IsQuiet, RoutinesStand, RoutinesState, deferrals_of_slots}
use Rattle.cc_turns.specs.Slots.{setup_in}

-- an action names streams that there are
abbrev pub IsKnownTo : ℕ → Action → Type 0
IsKnownTo disks asked = (streams : List StreamLine) × IsActionWithin streams asked × (length streams ≤ disks)

-- the event of a call, which is to fail or to be done
abbrev pub event_of_call : {Q : Type 0} → ℕ → Bool → Call → Event Q
event_of_call me true it = event.Fail me it
event_of_call me false it = event.Do me it

-- An event was answered so that neither deferred nor posted a write.
pub record WasAnswered {D L Q : Type 0} (tells : Tells D L Q) (it : Event (Unit {0})) (told : Answer)
    (old new : WorldState D L Q) : Type 0 where
  pub answered : EventAnswered (setup_in tells old.begun) it told old.journal.entries new.journal.entries
  pub quiet : IsQuiet old.journal.entries new.journal.entries
  pub queue : new.journal.queue ≡ old.journal.queue
  pub begun : new.begun ≡ old.begun

-- The routines stand behind a line, or several, that took these of them.
pub record RoutinesWent {D L Q : Type 0} (tells : Tells D L Q) (taken : List (Option ℕ)) (new : WorldState D L Q)
    (r s : RoutinesState Q) : Type 0 where
  pub stand : RoutinesStand tells.posted new.journal.entries new.journal.queue s
  pub deferrals : deferrals_of_slots s.slots ≡ deferrals_of_slots r.slots ++ taken
  pub handed : s.handed ≡ r.handed

-- An event was answered so, and took these of the routines.
pub record EventWent {D L Q : Type 0} (tells : Tells D L Q) (it : Event (Unit {0})) (taken : List (Option ℕ)) (told : Answer)
    (old new : WorldState D L Q) (r s : RoutinesState Q) : Type 0 where
  pub answered : EventAnswered (setup_in tells old.begun) it told old.journal.entries new.journal.entries
  pub begun : new.begun ≡ old.begun
  pub routines : RoutinesWent tells taken new r s

-- what a line takes of the routines
abbrev pub taken_by : Action → Answer → List (Option ℕ)
taken_by asked told = if is_defer asked then deferral_in told ∷ [] else []

-- A line happened at its place and was answered so.
pub record LineWent {D L Q : Type 0} (tells : Tells D L Q) (bindings : List Binding) (line : ActionLine) (told : Answer)
    (old new : WorldState D L Q) (r s : RoutinesState Q) : Type 0 where
  pub stepped : LineStepped (setup_in tells old.begun) (line_event bindings line) told old.journal.entries new.journal.entries
  pub begun : new.begun ≡ old.begun
  pub routines : RoutinesWent tells (taken_by line.action told) new r s

-- Lines happened one after the other, each with its reply, which stand behind those before.
pub record LinesWent {D L Q : Type 0} (tells : Tells D L Q) (bindings : ℕ → List Binding) (lines : List ActionLine)
    (replied replies : List LineReply) (old new : WorldState D L Q) (r s : RoutinesState Q) : Type 0 where
  pub answers : List LineReply
  pub replies_are : replies ≡ replied ++ answers
  pub stepped : LinesStepped (setup_in tells old.begun) bindings lines answers old.journal.entries new.journal.entries
  pub begun : new.begun ≡ old.begun
  pub routines : RoutinesWent tells (deferrals_of_lines lines answers) new r s

-- A stream was set up, and its line was answered so.
pub record StreamWent {D L Q : Type 0} (tells : Tells D L Q) (s : ℕ) (stream : StreamLine) (told : Answer)
    (old new : WorldState D L Q) : Type 0 where
  pub stepped : StreamStepped (setup_in tells old.begun) s stream stream.log told old.journal.entries new.journal.entries
  pub quiet : IsQuiet old.journal.entries new.journal.entries
  pub queue : new.journal.queue ≡ old.journal.queue
  pub begun : new.begun ≡ old.begun

-- Streams, numbered from `s`, were set up one after the other, each with its reply, which stand behind those before.
pub record StreamsWent {D L Q : Type 0} (tells : Tells D L Q) (s : ℕ) (streams : List StreamLine)
    (replied replies : List LineReply) (old new : WorldState D L Q) : Type 0 where
  pub answers : List LineReply
  pub replies_are : replies ≡ replied ++ answers
  pub counted : length answers ≡ length streams
  pub stepped : StreamsStepped (setup_in tells old.begun) s streams answers old.journal.entries new.journal.entries
  pub quiet : IsQuiet old.journal.entries new.journal.entries
  pub queue : new.journal.queue ≡ old.journal.queue
  pub begun : new.begun ≡ old.begun
