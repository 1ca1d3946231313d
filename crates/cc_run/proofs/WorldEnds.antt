-- The disks and logs that a World gives back, and the setup that it was made from, are those of the run.
use Rattle.std.specs.Prelude.{◌≡◌, ℕ, Bool, List, length, take, slice_get, refl}
use Rattle.std.specs.declared.option.Option.{Option}
use Rattle.cc_traits.specs.Disk.{Disk}
use Rattle.cc_traits.specs.Log.{Log}
use Rattle.cc_script.specs.declared.script.Script.{Script}
use Rattle.cc_turns.specs.Desk.{Begun, disk_at_first, log_at_first, tells_of}
use Rattle.cc_event_lines.specs.Run.{WorldDisksEnded, WorldLogsEnded, WorldState}
use Rattle.cc_turns.specs.Slots.{setup_in as made_setup}
use Rattle.cc_event_lines.proofs.DisksUsed.{disk-stands}
use Rattle.cc_program.specs.Disks.{DisksStand}
use Rattle.cc_program.specs.Logs.{LogsStand}
use Rattle.cc_program.specs.Setups.{setup_of}

module _ {D L Q : Type 0} (told : D → Option Disk) (faults : D → ℕ) (log_told : L → Option Log) (log_faults : L → ℕ) (posted : Q → Bool) (w : WorldState D L Q) where
  pub disks-ended : (disks : List D) → WorldDisksEnded (tells_of told faults log_told log_faults posted) w disks → DisksStand told faults (λ s. disk_at_first told faults (slice_get w.begun.disks s)) (length w.begun.disks) w.journal.entries disks
  disks-ended disks ended = record {
    counted = ended.counted;
    each = disk-stands (tells_of told faults log_told log_faults posted) w disks ended;
  }

  pub logs-ended : (logs : List L) → WorldLogsEnded (tells_of told faults log_told log_faults posted) w logs → LogsStand log_told log_faults (λ handle. log_at_first log_told log_faults (slice_get w.begun.logs handle)) (length w.begun.logs) w.journal.entries logs
  logs-ended logs ended = record { counted = ended.counted; each = ended.each }

-- the setup that a World is made from is that of the script, of the disks and of the logs
pub world-setup-is : {D L Q : Type 0} (told : D → Option Disk) (faults : D → ℕ) (log_told : L → Option Log) (log_faults : L → ℕ) (posted : Q → Bool) (begun : Begun D L) (script : Script) (disks : List D) (logs : List L) → begun.disks ≡ take 16 disks → begun.logs ≡ take 4 logs → begun.capacity ≡ script.journal → begun.threshold ≡ script.threshold → made_setup (tells_of told faults log_told log_faults posted) begun ≡ setup_of told faults script disks logs
world-setup-is told faults log_told log_faults posted begun script disks logs same same_logs capacity threshold = rw (same, same_logs, capacity, threshold) refl
