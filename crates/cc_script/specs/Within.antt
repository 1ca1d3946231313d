-- What every script that is read keeps within: what its run may rely on without a test of its own.
use Rattle.std.specs.Prelude.{ℕ, ◌≡◌, false, ◌≤◌, ◌<◌, ◌^◌, IfSome, List, [], ◌∷◌, length}
use Rattle.std.specs.List.{AllByRecursion}
use Rattle.cc_entry.specs.Place.{File, Page}
use Rattle.cc_entry.specs.Queries.{file_of_query}
use Rattle.cc_script.specs.declared.script.Script.{Script}
use Rattle.cc_script.specs.declared.script.StreamLine.{StreamLine}
use Rattle.cc_script.specs.declared.script.RestartLine.{RestartLine}
use Rattle.cc_script.specs.declared.script.Action.{Action}
use Rattle.cc_script.specs.declared.script.Action.TheVariants as action
use Rattle.cc_script.specs.declared.script.ActionLine.{ActionLine}
use Rattle.cc_script.specs.ActionTable.{bytes_moved}
use Rattle.cc_script.specs.HoldWords.{AreUsedRight}
use Rattle.cc_script.specs.Checkpoints.{CheckpointsStandApart}
use Rattle.cc_script.specs.Grammar.{has_restart}

-- a file that a line may name: one of 16 objects of a stream of the script
pub record IsFileWithin (streams : List StreamLine) (file : File) : Type 0 where
  pub stream : file.stream < length streams
  pub object : file.object < 16

-- a page that a line may name: one of a stream of the script
pub record IsPageWithin (streams : List StreamLine) (page : Page) : Type 0 where
  pub stream : page.stream < length streams
  pub number : page.page < 2 ^ 51

-- a page of such a file
pub record IsFilePageWithin (streams : List StreamLine) (file : File) (page : ℕ) : Type 0 where
  pub in_file : IsFileWithin streams file
  pub number : page < 2 ^ 51

-- an action names such a file or page, or none; a page is stored whole, and a checkpoint is over all streams of the script
abbrev pub IsActionWithin : List StreamLine → Action → Type 0
IsActionWithin streams (action.Initialise file _ _ _) = IsFileWithin streams file
IsActionWithin streams (action.Uninitialise file _) = IsFileWithin streams file
IsActionWithin streams (action.CopyRead file _ _ _) = IsFileWithin streams file
IsActionWithin streams (action.CopyWrite file _ _) = IsFileWithin streams file
IsActionWithin streams (action.Zero file _) = IsFileWithin streams file
IsActionWithin streams (action.Map file _ _ _) = IsFileWithin streams file
IsActionWithin streams (action.PinRead file _ _ _ _) = IsFileWithin streams file
IsActionWithin streams (action.PinMapped _ _) = Unit {0}
IsActionWithin streams (action.PreparePin file _ _ _ _ _) = IsFileWithin streams file
IsActionWithin streams (action.HeldRead _ _ _) = Unit {0}
IsActionWithin streams (action.PinnedWrite _ _ _) = Unit {0}
IsActionWithin streams (action.SetDirty _ _) = Unit {0}
IsActionWithin streams (action.Unpin _) = Unit {0}
IsActionWithin streams (action.Repin _ _) = Unit {0}
IsActionWithin streams (action.UnpinRepinned _ _) = Unit {0}
IsActionWithin streams (action.MdlRead file _ _ _) = IsFileWithin streams file
IsActionWithin streams (action.MdlWrite file _ _ _) = IsFileWithin streams file
IsActionWithin streams (action.MdlBytes _ _ _) = Unit {0}
IsActionWithin streams (action.MdlStore _ _ _) = Unit {0}
IsActionWithin streams (action.MdlDone _) = Unit {0}
IsActionWithin streams (action.MdlAbort _) = Unit {0}
IsActionWithin streams (action.NcRead file _ _) = IsFileWithin streams file
IsActionWithin streams (action.NcWrite file _ _) = IsFileWithin streams file
IsActionWithin streams (action.SetSizes file _ _) = IsFileWithin streams file
IsActionWithin streams (action.Flush file _) = IsFileWithin streams file
IsActionWithin streams (action.Purge file _) = IsFileWithin streams file
IsActionWithin streams (action.Discard file _) = IsFileWithin streams file
IsActionWithin streams (action.Read file _ _ _) = IsFileWithin streams file
IsActionWithin streams (action.Write file _ _) = IsFileWithin streams file
IsActionWithin streams (action.Update file _ _) = IsFileWithin streams file
IsActionWithin streams (action.Lock file _ _) = IsFileWithin streams file
IsActionWithin streams (action.Unlock file _) = IsFileWithin streams file
IsActionWithin streams (action.Levels file) = IsFileWithin streams file
IsActionWithin streams (action.Settle file) = IsFileWithin streams file
IsActionWithin streams (action.Checkpoint count _) = count ≡ length streams
IsActionWithin streams (action.Query asked) = IfSome (file_of_query asked) (λ file. IsFileWithin streams file)
IsActionWithin streams (action.SetLog file _) = IsFileWithin streams file
IsActionWithin streams (action.Append _ _) = Unit {0}
IsActionWithin streams (action.LogFlush _ _) = Unit {0}
IsActionWithin streams (action.SetGranularity file _) = IsFileWithin streams file
IsActionWithin streams (action.SetAttributes file _ _) = IsFileWithin streams file
IsActionWithin streams (action.SetThreshold file _) = IsFileWithin streams file
IsActionWithin streams (action.NcReadPage file page) = IsFilePageWithin streams file page
IsActionWithin streams (action.NcStorePage file page bytes) = IsFilePageWithin streams file page × (length bytes ≡ 4096)
IsActionWithin streams (action.NcWritePage file page) = IsFilePageWithin streams file page
IsActionWithin streams (action.Fill page) = IsPageWithin streams page
IsActionWithin streams (action.Drop page) = IsPageWithin streams page
IsActionWithin streams (action.WriteBegin page) = IsPageWithin streams page
IsActionWithin streams (action.WriteEnd page) = IsPageWithin streams page
IsActionWithin streams (action.Sync stream) = stream < length streams
IsActionWithin streams action.Scan = Unit {0}
IsActionWithin streams (action.AskAhead file _ _) = IsFileWithin streams file
IsActionWithin streams action.AheadStep = Unit {0}
IsActionWithin streams (action.AsyncRead file _ _) = IsFileWithin streams file
IsActionWithin streams action.Complete = Unit {0}
IsActionWithin streams action.Tick = Unit {0}
IsActionWithin streams (action.Defer file _ _) = IsFileWithin streams file
IsActionWithin streams action.Post = Unit {0}

-- a stream with a quota in view blocks, and one of four logs or none
pub record IsStreamWithin (stream : StreamLine) : Type 0 where
  pub least_quota : 8 ≤ stream.quota
  pub most_quota : stream.quota ≤ 64
  pub log : IfSome stream.log (λ handle. handle < 4)

-- an action by one of 16 callers, in one of so many phases
pub record IsLineWithin (streams : List StreamLine) (phases : ℕ) (line : ActionLine) : Type 0 where
  pub first_caller : 1 ≤ line.caller
  pub last_caller : line.caller ≤ 16
  pub first_phase : 1 ≤ line.phase
  pub last_phase : line.phase ≤ phases
  pub file : IsActionWithin streams line.action
  pub moved : bytes_moved line.action ≤ 2097152

-- no line is of an earlier phase than the line before it, the first of none before this one
abbrev pub PhasesAscend : ℕ → List ActionLine → Type 0
PhasesAscend from [] = Unit {0}
PhasesAscend from (line ∷ lines) = (from ≤ line.phase) × PhasesAscend line.phase lines

-- what is set is in its range
pub record IsHeaderWithin (script : Script) : Type 0 where
  pub least_journal : 64 ≤ script.journal
  pub most_journal : script.journal ≤ 1048576
  pub least_threshold : 1 ≤ script.threshold
  pub most_threshold : script.threshold ≤ 16384
  pub most_ticks : script.ticks ≤ 1000
  pub most_aheads : script.aheads ≤ 1000

-- each restart is of one of four logs, and no two are of one
abbrev pub AreRestartsWithin : List RestartLine → Type 0
AreRestartsWithin [] = Unit {0}
AreRestartsWithin (restart ∷ restarts) =
    (restart.handle < 4) × (has_restart restart.handle restarts ≡ false) × AreRestartsWithin restarts

-- a script keeps within what its run may rely on
pub record ScriptIsWithin (script : Script) : Type 0 where
  pub header : IsHeaderWithin script
  pub first_phase : 1 ≤ script.phases
  pub last_phase : script.phases ≤ 1001
  pub few_streams : length script.streams ≤ 16
  pub streams : AllByRecursion IsStreamWithin script.streams
  pub few_lines : length script.lines ≤ 65536
  pub lines : AllByRecursion (IsLineWithin script.streams script.phases) script.lines
  pub in_order : PhasesAscend 1 script.lines
  pub words : (caller : ℕ) → AreUsedRight caller [] script.lines
  pub restarts : AreRestartsWithin script.restarts
  pub apart : CheckpointsStandApart script.lines
