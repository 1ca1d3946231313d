-- Calls of the program over one log that follow each other, each behind a stop of the one before it.
use mathlib.Core.Logic.{inl, inr}
use Rattle.std.specs.Prelude.{◌≡◌, ℕ, false, List, [], ◌∷◌, ◌⊎◌, slice_get}
use Rattle.std.specs.declared.option.Option.{Option}
use Rattle.std.specs.declared.option.Option.TheVariants.{Some}
use Rattle.cc_format.specs.declared.record.StreamRecord.{StreamRecord}
use Rattle.cc_model.specs.History.{history}
use Rattle.cc_model.specs.Objects.{had_map}
use Rattle.cc_script.specs.declared.script.Script.{Script}
use Rattle.cc_script.specs.declared.script.StreamLine.{StreamLine}
use Rattle.cc_stop_laws.specs.Redoable.{IsHandedIn, IsLeftUnopened, TellsAt}
use Rattle.cc_stop_laws.specs.Runs.{as_read}
use Rattle.cc_traits.specs.Disk.{Disk}
use Rattle.cc_traits.specs.Log.{Log}
use Rattle.cc_update_laws.specs.Devices.{IsWholeDisk}
use Rattle.cc_run_laws.specs.Calls.{HasRestarted, IsScriptOf, NamesStream, RanUpdated}
use Rattle.cc_program.specs.Calls.{HasClauses, ProgramCall}

-- A call whose run began over a log without entries, and left this. Its script has the stream, by this line, with the log.
pub record IsFirst {D L : Type 0} (told : D → Option Disk) (faults : D → ℕ) (log_told : L → Option Log) (log_faults : L → ℕ) (s log : ℕ)
    (line : StreamLine) (read : Option StreamRecord) (opening : Disk) (call : ProgramCall D L) (left : Disk) (after : Log) : Type 0 where
  pub clauses : HasClauses told faults log_told log_faults call
  pub script : Script
  pub ran : call.script ≡ Some script
  pub named : slice_get script.streams s ≡ Some line
  pub logged : line.log ≡ Some log
  pub begun : Log
  pub run : RanUpdated told log_told call s log line read opening left begun after
  pub whole : IsWholeDisk opening
  pub none : begun.entries ≡ []

-- A call whose restart was answered as done, and whose run left this.
pub record RunsOn {D L : Type 0} (told : D → Option Disk) (faults : D → ℕ) (log_told : L → Option Log) (log_faults : L → ℕ) (s log : ℕ)
    (stream : StreamLine) (was : Disk) (had : Log) (call : ProgramCall D L) (left : Disk) (after : Log) : Type 0 where
  pub restarted : HasRestarted told faults log_told log_faults s log stream was had call
  pub read : Option StreamRecord
  pub opening : Disk
  pub begun : Log
  pub run : RanUpdated told log_told call s log restarted.line read opening left begun after

-- A call that was stopped within its restarts, or directly behind them, or ended before them: the disk with which it began is left, and
-- the log as it was handed in, of which the next call is to read the same entries.
pub record StopsBefore {D L : Type 0} (told : D → Option Disk) (faults : D → ℕ) (log_told : L → Option Log) (log_faults : L → ℕ)
    (s log : ℕ) (stream : StreamLine) (was : Disk) (had : Log) (call : ProgramCall D L) (left : Disk) (after : Log) : Type 0 where
  pub clauses : HasClauses told faults log_told log_faults call
  pub handed : Disk
  pub kept : Log
  pub handed_in : IsHandedIn told log_told call.disks call.logs s log was had handed kept
  pub named : (script : Script) → IsScriptOf call.input call.script script → NamesStream s log stream handed script
  pub disk_left : TellsAt told call.disks_begun s left
  pub after_is : after ≡ as_read kept

-- A call that ran its script though nothing of it opened the stream: its restart of the log was refused, at whichever of its calls, or the
-- line of the stream was. The stream had no map in that run. The disk came back, and this is what may be left of it behind the run; of the
-- log the next call is to read the entries that this one was handed.
pub record RunsUnopened {D L : Type 0} (told : D → Option Disk) (faults : D → ℕ) (log_told : L → Option Log) (log_faults : L → ℕ)
    (s log : ℕ) (stream : StreamLine) (was : Disk) (had : Log) (call : ProgramCall D L) (left : Disk) (after : Log) : Type 0 where
  pub opening : Disk
  pub stops : StopsBefore told faults log_told log_faults s log stream was had call opening after
  pub script : Script
  pub ran : call.script ≡ Some script
  pub unopened : had_map (history call.past s) ≡ false
  pub back : Disk
  pub disk_back : TellsAt told call.disks_left s back
  pub leaves : IsLeftUnopened opening back left

-- Calls, the last one first, left this of a stream's disk and of its log: the first one's run began over this disk and a log without
-- entries, with these numbers, and each other was handed what a crash left behind the one before it.
abbrev pub HaveLeft : {D L : Type 0} → (D → Option Disk) → (D → ℕ) → (L → Option Log) → (L → ℕ) → ℕ → ℕ → StreamLine
    → Option StreamRecord → Disk → List (ProgramCall D L) → Disk → Log → Type 0
HaveLeft told faults log_told log_faults s log stream read opening [] left after = ⊥
HaveLeft told faults log_told log_faults s log stream read opening (call ∷ []) left after =
    IsFirst told faults log_told log_faults s log stream read opening call left after
HaveLeft told faults log_told log_faults s log stream read opening (call ∷ one ∷ earlier) left after =
    (was : Disk) × (had : Log)
    × HaveLeft told faults log_told log_faults s log stream read opening (one ∷ earlier) was had
    × (RunsOn told faults log_told log_faults s log stream was had call left after
    ⊎ (StopsBefore told faults log_told log_faults s log stream was had call left after
    ⊎ RunsUnopened told faults log_told log_faults s log stream was had call left after))

-- one of these calls, of those whose run left what the next one was handed: the first one, and each whose restart was answered as done
abbrev pub IsRunOf : {D L : Type 0} (told : D → Option Disk) (faults : D → ℕ) (log_told : L → Option Log) (log_faults : L → ℕ) (s log : ℕ)
    (stream : StreamLine) (read : Option StreamRecord) (opening : Disk) (calls : List (ProgramCall D L)) (left : Disk) (after : Log)
    → HaveLeft told faults log_told log_faults s log stream read opening calls left after → ProgramCall D L → Type 0
IsRunOf told faults log_told log_faults s log stream read opening [] left after have run = ⊥
IsRunOf told faults log_told log_faults s log stream read opening (call ∷ []) left after have run = run ≡ call
IsRunOf told faults log_told log_faults s log stream read opening (call ∷ one ∷ earlier) left after (was, had, have, inl runs) run =
    (run ≡ call) ⊎ IsRunOf told faults log_told log_faults s log stream read opening (one ∷ earlier) was had have run
IsRunOf told faults log_told log_faults s log stream read opening (call ∷ one ∷ earlier) left after (was, had, have, inr apart) run =
    IsRunOf told faults log_told log_faults s log stream read opening (one ∷ earlier) was had have run
