-- A disk that a World gives back stands for its journal, whether a transfer is open on it or not.
use Rattle.std.specs.Prelude.{◌≡◌, ℕ, List, slice_get}
use Rattle.std.specs.declared.option.Option.{Option}
use Rattle.std.specs.declared.option.Option.TheVariants.{Some, None}
use Rattle.cc_entry.specs.declared.entry.Entry.{Entry}
use Rattle.cc_traits.specs.Disk.{Disk}
use Rattle.cc_turns.specs.Desk.{Tells, disk_at_first}
use Rattle.cc_turns.specs.Disk.{DiskStands}
use Rattle.cc_turns.specs.Standing.{DiskAtFirst}
use Rattle.cc_world.specs.Rows.{DiskIsUsed}
use Rattle.cc_world.specs.World.{WorldDisksEnded, WorldState}
use Rattle.cc_world.specs.declared.rows.BegunTransfer.{BegunTransfer}

used-stands : {D : Type 0} (told : D → Option Disk) (faults : D → ℕ) (first : DiskAtFirst) (past : List Entry) (s : ℕ) (disk : D) (kept : Option BegunTransfer) → DiskIsUsed told faults first past s disk kept → DiskStands told faults first past s disk
used-stands told faults first past s disk None used = used.stands
used-stands told faults first past s disk (Some kept) used = used.way.stands

pub disk-stands : {D L Q : Type 0} (tells : Tells D L Q) (w : WorldState D L Q) (disks : List D) → WorldDisksEnded tells w disks → (s : ℕ) (disk : D) → slice_get disks s ≡ Some disk → DiskStands tells.disk tells.disk_faults (disk_at_first tells.disk tells.disk_faults (slice_get w.begun.disks s)) w.journal.entries s disk
disk-stands tells w disks ended s disk at =
    let used = ended.each s disk at in
    used-stands tells.disk tells.disk_faults (disk_at_first tells.disk tells.disk_faults (slice_get w.begun.disks s)) w.journal.entries s disk used.0 used.1
