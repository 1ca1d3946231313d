use Rattle.std.proofs.Common.{◌≡◌, take}
use Rattle.cc_restarts.specs.Given.{GivenTo}
use Rattle.cc_restarts.specs.Restarting.{RecordsRead, no_rise}
use Rattle.cc_restarts.proofs.given.given_to.Given as goal

abbrev pub invariant-loop-stream : goal.invariant-loop-stream
invariant-loop-stream g l = record {
  number : l.number ≡ l.stream-index;
  read : RecordsRead g.D.Told.told g.D.Told.faults l.handle l.streams no_rise l.fn.disks l.disks;
  given : GivenTo g.D.Told.told l.fn.disks l.handle 0 (take l.stream-index l.streams) l.given.items;
}
