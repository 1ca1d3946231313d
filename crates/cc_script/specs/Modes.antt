-- The modes that a word of a script stands in, and the actions that a script of a mode may have.
use Rattle.std.specs.Prelude.{ℕ, ◌≡◌, Bool, true, false, List, [], if◌then◌else◌}
use Rattle.std.specs.List.{AllByRecursion}
use Rattle.cc_script.specs.declared.verb.Verb.{Verb}
use Rattle.cc_script.specs.declared.verb.Verb.TheVariants as verb
use Rattle.cc_script.specs.declared.script.Mode.{Mode}
use Rattle.cc_script.specs.declared.script.Mode.TheVariants as mode
use Rattle.cc_script.specs.declared.script.Action.{Action}
use Rattle.cc_script.specs.declared.script.Action.TheVariants as action
use Rattle.cc_script.specs.declared.script.ActionLine.{ActionLine}
use Rattle.cc_script.specs.declared.script.StreamLine.{StreamLine}
use Rattle.cc_script.specs.declared.script.RestartLine.{RestartLine}
use Rattle.cc_script.specs.declared.script.Script.{Script}

-- in which modes something stands
pub data Modes : Type 0 where
  Both : Modes
  RunAlone : Modes
  StepsAlone : Modes

abbrev pub stands : Modes → Mode → Bool
stands Both m = true
stands RunAlone mode.Run = true
stands RunAlone mode.Steps = false
stands StepsAlone mode.Run = false
stands StepsAlone mode.Steps = true

-- the modes that a verb stands in: `ncread` and `ncwrite` stand in both, in another form each
abbrev pub verb_modes : Verb → Modes
verb_modes verb.Workers = RunAlone
verb_modes verb.Restart = RunAlone
verb_modes verb.Phase = RunAlone
verb_modes verb.Read = RunAlone
verb_modes verb.Write = RunAlone
verb_modes verb.Update = RunAlone
verb_modes verb.Lock = RunAlone
verb_modes verb.Unlock = RunAlone
verb_modes verb.Levels = RunAlone
verb_modes verb.Settle = RunAlone
verb_modes verb.Checkpoint = RunAlone
verb_modes verb.AskAhead = RunAlone
verb_modes verb.AheadStep = RunAlone
verb_modes verb.AsyncRead = RunAlone
verb_modes verb.Complete = RunAlone
verb_modes verb.Tick = RunAlone
verb_modes verb.NcStore = StepsAlone
verb_modes verb.Fill = StepsAlone
verb_modes verb.Drop = StepsAlone
verb_modes verb.WriteBegin = StepsAlone
verb_modes verb.WriteEnd = StepsAlone
verb_modes verb.Sync = StepsAlone
verb_modes verb.Scan = StepsAlone
verb_modes verb.Fail = StepsAlone
verb_modes other = Both

-- the modes that an action stands in
abbrev pub action_modes : Action → Modes
action_modes (action.UnpinRepinned _ through) = if through then RunAlone else Both
action_modes (action.NcRead _ _ _) = RunAlone
action_modes (action.NcWrite _ _ _) = RunAlone
action_modes (action.Read _ _ _ _) = RunAlone
action_modes (action.Write _ _ _) = RunAlone
action_modes (action.Update _ _ _) = RunAlone
action_modes (action.Lock _ _ _) = RunAlone
action_modes (action.Unlock _ _) = RunAlone
action_modes (action.Levels _) = RunAlone
action_modes (action.Settle _) = RunAlone
action_modes (action.Checkpoint _ _) = RunAlone
action_modes (action.AskAhead _ _ _) = RunAlone
action_modes action.AheadStep = RunAlone
action_modes (action.AsyncRead _ _ _) = RunAlone
action_modes action.Complete = RunAlone
action_modes action.Tick = RunAlone
action_modes (action.NcReadPage _ _) = StepsAlone
action_modes (action.NcStorePage _ _ _) = StepsAlone
action_modes (action.NcWritePage _ _) = StepsAlone
action_modes (action.Fill _) = StepsAlone
action_modes (action.Drop _) = StepsAlone
action_modes (action.WriteBegin _) = StepsAlone
action_modes (action.WriteEnd _) = StepsAlone
action_modes (action.Sync _) = StepsAlone
action_modes action.Scan = StepsAlone
action_modes other = Both

-- Whether an action is a call of the cache, which may fail by a fault of its caller. A line of the shim is a list of calls,
-- so is the settling of a stream, a tick writes pages by steps of its own, read-ahead has a queue that only a run has, and the
-- levels of a view index are read without an entry.
abbrev pub is_call : Action → Bool
is_call (action.Append _ _) = false
is_call (action.LogFlush _ _) = false
is_call (action.Fill _) = false
is_call (action.Drop _) = false
is_call (action.WriteBegin _) = false
is_call (action.WriteEnd _) = false
is_call (action.Sync _) = false
is_call action.Scan = false
is_call (action.AskAhead _ _ _) = false
is_call action.AheadStep = false
is_call (action.AsyncRead _ _ _) = false
is_call action.Complete = false
is_call action.Tick = false
is_call (action.Read _ _ _ _) = false
is_call (action.Write _ _ _) = false
is_call (action.Update _ _ _) = false
is_call (action.Lock _ _ _) = false
is_call (action.Unlock _ _) = false
is_call (action.Levels _) = false
is_call (action.Settle _) = false
is_call (action.Checkpoint _ _) = false
is_call (action.Defer _ _ _) = false
is_call action.Post = false
is_call other = true

-- a line of a mode: its action stands in the mode, and only in steps does it fail, where it is a call
pub record IsLineOf (m : Mode) (line : ActionLine) : Type 0 where
  pub in_mode : stands (action_modes line.action) m ≡ true
  pub fails : line.fails ≡ true → (m ≡ mode.Steps) × (is_call line.action ≡ true)

-- a stream of a mode: in steps none is opened with its record
abbrev pub IsStreamOf : Mode → StreamLine → Type 0
IsStreamOf mode.Run stream = Unit {0}
IsStreamOf mode.Steps stream = stream.stored ≡ false

-- steps has one phase
abbrev pub HasPhases : Mode → ℕ → Type 0
HasPhases mode.Run phases = Unit {0}
HasPhases mode.Steps phases = phases ≡ 1

-- steps has no restart
abbrev pub HasRestarts : Mode → List RestartLine → Type 0
HasRestarts mode.Run restarts = Unit {0}
HasRestarts mode.Steps restarts = restarts ≡ []

-- a script of a mode
pub record IsOfMode (m : Mode) (script : Script) : Type 0 where
  pub streams : AllByRecursion (IsStreamOf m) script.streams
  pub lines : AllByRecursion (IsLineOf m) script.lines
  pub phases : HasPhases m script.phases
  pub restarts : HasRestarts m script.restarts
