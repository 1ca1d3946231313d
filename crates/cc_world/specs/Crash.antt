-- The disks of a World and the files of its logs, of which a clause says what a crash may leave.
use Rattle.std.specs.Prelude.{List, map}
use Rattle.cc_world.specs.World.{WorldState}

-- the disks of a World
abbrev pub disks_in : {D L Q : Type 0} → WorldState D L Q → List D
disks_in w = map (λ row. row.disk) w.rows

-- the files of its logs
abbrev pub files_in : {D L Q : Type 0} → WorldState D L Q → List L
files_in w = map (λ log. log.file) w.logs
