-- How the setup of the definitions stands for a script and the disks and logs that are handed in.
use Rattle.std.specs.Prelude.{◌≡◌, ℕ, List, length, take}
use Rattle.std.specs.declared.option.Option.{Option}
use Rattle.std.specs.declared.option.Option.TheVariants.{Some, None}
use Rattle.cc_traits.specs.Disk.{Disk}
use Rattle.cc_model.specs.Setup.{Setup}
use Rattle.cc_script.specs.declared.script.Script.{Script}
use Rattle.cc_turns.specs.Desk.{openings}

-- The disks of a run: the first 16 of those that are handed in, which is as many as a script has streams at most.
abbrev pub run_disks : {D : Type 0} → List D → List D
run_disks disks = take 16 disks

-- The logs of a run: the first 4 of those that are handed in.
abbrev pub run_logs : {L : Type 0} → List L → List L
run_logs logs = take 4 logs

-- each stream's opening pages are those that its disk tells; the logs are those of the run; the limits are the script's
abbrev pub setup_of : {D L : Type 0} → (D → Option Disk) → (D → ℕ) → Script → List D → List L → Setup
setup_of told faults script disks logs = record {
  opening = openings told faults (run_disks disks);
  logs = length (run_logs logs);
  capacity = script.journal;
  threshold = script.threshold;
}

-- a setup is that of the script that was run, where one was
abbrev pub IsSetupOf : {D L : Type 0} → (D → Option Disk) → (D → ℕ) → Option Script → List D → List L → Setup → Type 0
IsSetupOf told faults None disks logs u = Unit {0}
IsSetupOf told faults (Some script) disks logs u = u ≡ setup_of told faults script disks logs
