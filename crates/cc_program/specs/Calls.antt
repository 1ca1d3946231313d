-- A call of the program, and what the clauses of its contract say of it.
use Rattle.std.specs.Prelude.{ℕ, List, IfSome}
use Rattle.std.specs.declared.option.Option.{Option}
use Rattle.cc_command.specs.Words.{mode_in}
use Rattle.cc_entry.specs.declared.entry.Entry.{Entry}
use Rattle.cc_entry.specs.declared.place.Request.{Request}
use Rattle.cc_model.specs.Good.{IsGood}
use Rattle.cc_model.specs.Setup.{Setup}
use Rattle.cc_pieces.specs.Explained.{Answered}
use Rattle.cc_script.specs.declared.script.Script.{Script}
use Rattle.cc_traits.specs.Disk.{Disk}
use Rattle.cc_traits.specs.Log.{Log}
use Rattle.cc_program.specs.Begun.{RunIsBegun}
use Rattle.cc_program.specs.Disks.{DisksLeft}
use Rattle.cc_program.specs.Ends.{Input, IsAsked}
use Rattle.cc_program.specs.Logs.{LogsLeft}
use Rattle.cc_program.specs.Runs.{IsExplainedBy}
use Rattle.cc_program.specs.Setups.{IsSetupOf, setup_of}

-- A call of the program: what went into it, the script that it ran, what it answered and which requests its read-ahead worker took, its
-- journal and its status; and the disks and the logs as they were handed in, as its run began, and as they came back.
pub record ProgramCall (D L : Type 0) : Type 0 where
  pub input : Input
  pub script : Option Script
  pub told : Answered
  pub taken : List Request
  pub past : List Entry
  pub status : ℕ
  pub disks : List D
  pub disks_begun : List D
  pub disks_left : List D
  pub logs : List L
  pub logs_begun : List L
  pub logs_left : List L

-- The clauses `restarted`, `good`, `explained`, `disks` and `logs` of the program's call; and of `ended` that the script that was run is
-- the one that the words ask for.
pub record HasClauses {D L : Type 0} (told : D → Option Disk) (faults : D → ℕ) (log_told : L → Option Log) (log_faults : L → ℕ)
    (call : ProgramCall D L) : Type 0 where
  pub restarted : RunIsBegun told faults log_told log_faults call.input call.script call.told.replies call.past call.status
      call.disks call.disks_begun call.logs call.logs_begun
  pub good : (u : Setup) → IsSetupOf told faults call.script call.disks_begun call.logs_begun u → IsGood u call.past
  pub explained : IfSome call.script (λ script. IsExplainedBy (mode_in call.input.words)
      (setup_of told faults script call.disks_begun call.logs_begun) script call.told call.taken call.past)
  pub disks : DisksLeft told faults call.past call.disks_begun call.disks_left
  pub logs : LogsLeft log_told log_faults call.past call.logs_begun call.logs_left
  pub asked : IfSome call.script (IsAsked call.input)
