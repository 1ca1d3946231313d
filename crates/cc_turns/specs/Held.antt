-- A disk under its turn, of whose faults those before the take that no entry tells are not counted.
use Rattle.std.specs.Prelude.{◌≡◌, ℕ, ◌+◌, ◌-◌, List}
use Rattle.std.specs.declared.option.Option.{Option}
use Rattle.cc_entry.specs.declared.entry.Entry.{Entry}
use Rattle.cc_effects.specs.Failures.{failures}
use Rattle.cc_turns.specs.Standing.{Standing, DiskAtFirst}

-- A device under its turn, and how many faults it had at the take that no entry told.
pub record HeldDevice (A : Type 0) : Type 0 where
  pub device : A
  pub untold : ℕ

-- what it tells
abbrev pub held_told : {A T : Type 0} → (A → Option T) → HeldDevice A → Option T
held_told told held = told held.device

-- its count of faults, those aside: it begins with what the entries tell, and rises with the device's
abbrev pub held_faults : {A : Type 0} → (A → ℕ) → HeldDevice A → ℕ
held_faults faults held = faults held.device - held.untold

-- How many of so many faults of a stream's disk no entry tells, as a pass knows it: those beyond the faults that it had
-- at first, and the failures that the journal shows.
abbrev pub untold_of_disk : Standing → ℕ → ℕ → ℕ
untold_of_disk w s faults = faults - ((w.disks s).faults + failures s w.seen)

-- Just so many faults are counted of a disk as it had at first and the entries tell since. So a count that is at least
-- that at the give has risen since the take by at least the failures that were placed since.
abbrev pub DiskFaultsAreTold : {D : Type 0} → (D → ℕ) → DiskAtFirst → List Entry → ℕ → D → Type 0
DiskFaultsAreTold faults first past s disk = faults disk ≡ first.faults + failures s past
