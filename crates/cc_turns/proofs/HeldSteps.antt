-- A disk as it is taken and given: what it stands for, with and without the faults that no entry tells.
use Rattle.std.specs.Prelude.{◌≡◌, ℕ, ◌+◌, ◌-◌, ◌≤◌, List, Option}
use Rattle.std.proofs.Common.{arith}
use Rattle.cc_entry.specs.declared.entry.Entry.{Entry}
use Rattle.cc_traits.specs.Disk.{Disk}
use Rattle.cc_effects.specs.Failures.{failures}
use Rattle.cc_turns.specs.Standing.{DiskAtFirst}
use Rattle.cc_turns.specs.Disk.{DiskStands}
use Rattle.cc_turns.specs.Held.{HeldDevice, held_told, held_faults, DiskFaultsAreTold}

-- without what is beyond, as much is counted as there was to begin with
without_more : (told all : ℕ) → told ≤ all → all - (all - told) ≡ told
without_more told all within = omega (arith, within)

all_told : (told all : ℕ) → told ≤ all → told ≤ all - (all - told)
all_told told all within = omega (arith, within)

at_least : (told all untold : ℕ) → told ≤ all - untold → told ≤ all
at_least told all untold within = omega (arith, within)

-- a disk is taken
pub disk_stands : {D : Type 0} (told : D → Option Disk) (faults : D → ℕ) (first : DiskAtFirst) (past : List Entry) (s : ℕ) (disk : D) (held : HeldDevice D) → held.device ≡ disk → held.untold ≡ faults disk - (first.faults + failures s past) → DiskStands told faults first past s disk → DiskStands (held_told told) (held_faults faults) first past s held
disk_stands told faults first past s disk held is untold stands = record {
  has_gone = rw is stands.has_gone;
  record_has_gone = rw is stands.record_has_gone;
  counted = rw (untold, is) (all_told (first.faults + failures s past) (faults disk) stands.counted);
}

pub disk_told : {D : Type 0} (told : D → Option Disk) (faults : D → ℕ) (first : DiskAtFirst) (past : List Entry) (s : ℕ) (disk : D) (held : HeldDevice D) → held.device ≡ disk → held.untold ≡ faults disk - (first.faults + failures s past) → DiskStands told faults first past s disk → DiskFaultsAreTold (held_faults faults) first past s held
disk_told told faults first past s disk held is untold stands =
    rw (untold, is) (without_more (first.faults + failures s past) (faults disk) stands.counted)

-- it is given
pub disk_back : {D : Type 0} (told : D → Option Disk) (faults : D → ℕ) (first : DiskAtFirst) (past : List Entry) (s : ℕ) (disk : D) (held : HeldDevice D) → disk ≡ held.device → DiskStands (held_told told) (held_faults faults) first past s held → DiskStands told faults first past s disk
disk_back told faults first past s disk held is stands = record {
  has_gone = rw is stands.has_gone;
  record_has_gone = rw is stands.record_has_gone;
  counted = rw is (at_least (first.faults + failures s past) (faults held.device) held.untold stands.counted);
}
