-- With what a run began.
use Rattle.std.specs.Prelude.{ℕ, List}
use Rattle.std.specs.declared.option.Option.{Option}
use Rattle.std.specs.declared.option.Option.TheVariants.{Some, None}
use Rattle.cc_entry.specs.declared.answer.LineReply.{LineReply}
use Rattle.cc_entry.specs.declared.entry.Entry.{Entry}
use Rattle.cc_traits.specs.Disk.{Disk}
use Rattle.cc_traits.specs.Log.{Log}
use Rattle.cc_script.specs.declared.script.Script.{Script}
use Rattle.cc_program.specs.Ends.{Input}
use Rattle.cc_program.specs.Restarting.{LeftAlone, RanBehind}
use Rattle.cc_program.specs.Setups.{setup_of}

-- The restarts of the script that was run left these disks and logs, and the run tells them; without a run nothing was restarted, or
-- memory was wanting behind the restarts.
abbrev pub RunIsBegun : {D L : Type 0} → (D → Option Disk) → (D → ℕ) → (L → Option Log) → (L → ℕ) → Input → Option Script
    → List LineReply → List Entry → ℕ → List D → List D → List L → List L → Type 0
RunIsBegun told faults log_told log_faults i None replies past status disks disks_begun logs logs_begun =
    LeftAlone told faults log_told log_faults i status disks disks_begun logs logs_begun
RunIsBegun told faults log_told log_faults i (Some script) replies past status disks disks_begun logs logs_begun =
    RanBehind told faults log_told log_faults (setup_of told faults script disks_begun logs_begun) script replies past
    disks disks_begun logs logs_begun
