-- A desk of which nothing happened yet may be called on, whoever acts.
use Rattle.std.specs.Prelude.{◌≡◌, ◌<◌, ℕ, length}
use Rattle.std.specs.declared.option.Option.{Option}
use Rattle.std.proofs.Common.{arith}
use Rattle.cc_traits.specs.Disk.{Disk}
use Rattle.cc_traits.specs.Log.{Log}
use Rattle.cc_turns.specs.Desk.{DeskState, DeskIsFresh, standing_of}
use Rattle.cc_calls.specs.Answers.{CanCall}

pub can_at_first : {D L Q : Type 0} (told : D → Option Disk) (faults : D → ℕ) (log_told : L → Option Log) (log_faults : L → ℕ) (d e : DeskState D L Q) (pass s n : ℕ) → DeskIsFresh d.begun d × (length d.begun.disks ≡ n) → e ≡ record d { pass = pass; since = d.last.entries } → s < n → CanCall (standing_of told faults log_told log_faults e) s
can_at_first told faults log_told log_faults d e pass s n fresh is within = rw is (record {
  known = omega (arith, fresh.1, within);
  free = fresh.0.held_is;
  none = omega (arith, fresh.0.journal_is.empty.1);
})
