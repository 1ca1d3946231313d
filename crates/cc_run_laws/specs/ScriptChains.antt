-- Calls of the program over one log that follow each other, of which each run is known by its script.
use Rattle.std.specs.Prelude.{◌≡◌, ℕ, List, [], ◌∷◌, ◌⊎◌}
use Rattle.std.specs.declared.option.Option.{Option}
use Rattle.cc_format.specs.declared.record.StreamRecord.{StreamRecord}
use Rattle.cc_restarts.specs.Given.{AreRestartSizes}
use Rattle.cc_script.specs.declared.script.StreamLine.{StreamLine}
use Rattle.cc_traits.specs.Disk.{Disk}
use Rattle.cc_traits.specs.Log.{Log}
use Rattle.cc_update_laws.specs.Devices.{IsWholeDisk}
use Rattle.cc_run_laws.specs.Calls.{HasRestarted}
use Rattle.cc_program.specs.Calls.{HasClauses, ProgramCall}
use Rattle.cc_run_laws.specs.Chains.{RunsUnopened, StopsBefore}
use Rattle.cc_run_laws.specs.Scripts.{CheckpointsAreRight, HadDevices, HasNoCheckpoint, HasNoneOrOpensNone, InitialisesNone, StreamIsOpened, LeavesToUpdates}

-- A call ran a script that left a stream to its logged updates, over devices that tell. The stream's own line was done, and the script
-- has no checkpoint of the log, or its checkpoints are right; or no line of a caller initialises the stream, the numbers of its record, or
-- of its line, are sizes, and the script has no checkpoint of the log, or the stream had no map in the run.
pub record RanScript {D L : Type 0} (told : D → Option Disk) (log_told : L → Option Log) (call : ProgramCall D L) (s log : ℕ)
    (line : StreamLine) (read : Option StreamRecord) (opening left : Disk) (begun after : Log) : Type 0 where
  pub leaves : LeavesToUpdates call s log line
  pub had : HadDevices told log_told call s log line read opening left begun after
  pub opened : (StreamIsOpened leaves × (HasNoCheckpoint log leaves.its.script ⊎ CheckpointsAreRight call s log leaves.its.script))
      ⊎ (InitialisesNone s leaves.its.script × AreRestartSizes line read × HasNoneOrOpensNone call s log leaves.its.script)

-- A call that ran such a script over a log without entries, and left this.
pub record IsFirstScript {D L : Type 0} (told : D → Option Disk) (faults : D → ℕ) (log_told : L → Option Log) (log_faults : L → ℕ)
    (s log : ℕ) (line : StreamLine) (read : Option StreamRecord) (opening : Disk) (call : ProgramCall D L) (left : Disk) (after : Log)
    : Type 0 where
  pub clauses : HasClauses told faults log_told log_faults call
  pub begun : Log
  pub ran : RanScript told log_told call s log line read opening left begun after
  pub whole : IsWholeDisk opening
  pub none : begun.entries ≡ []

-- A call whose restart was answered as done, and which then ran such a script, and left this.
pub record RunsScript {D L : Type 0} (told : D → Option Disk) (faults : D → ℕ) (log_told : L → Option Log) (log_faults : L → ℕ)
    (s log : ℕ) (stream : StreamLine) (was : Disk) (had : Log) (call : ProgramCall D L) (left : Disk) (after : Log) : Type 0 where
  pub restarted : HasRestarted told faults log_told log_faults s log stream was had call
  pub read : Option StreamRecord
  pub opening : Disk
  pub begun : Log
  pub ran : RanScript told log_told call s log restarted.line read opening left begun after

-- Calls, the last one first, left this of a stream's disk and of its log. Each ran such a script, the first one over a log without entries,
-- and each other behind its restart; or it was stopped within its restarts, or behind them; or its run opened the stream at no time.
abbrev pub HaveLeftByScripts : {D L : Type 0} → (D → Option Disk) → (D → ℕ) → (L → Option Log) → (L → ℕ) → ℕ → ℕ → StreamLine
    → Option StreamRecord → Disk → List (ProgramCall D L) → Disk → Log → Type 0
HaveLeftByScripts told faults log_told log_faults s log stream read opening [] left after = ⊥
HaveLeftByScripts told faults log_told log_faults s log stream read opening (call ∷ []) left after =
    IsFirstScript told faults log_told log_faults s log stream read opening call left after
HaveLeftByScripts told faults log_told log_faults s log stream read opening (call ∷ one ∷ earlier) left after =
    (was : Disk) × (had : Log)
    × HaveLeftByScripts told faults log_told log_faults s log stream read opening (one ∷ earlier) was had
    × (RunsScript told faults log_told log_faults s log stream was had call left after
    ⊎ (StopsBefore told faults log_told log_faults s log stream was had call left after
    ⊎ RunsUnopened told faults log_told log_faults s log stream was had call left after))
