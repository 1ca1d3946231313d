use Rattle.std.proofs.Common.{◌≡◌, drop}
use Rattle.cc_memdev.specs.Devices.{entries_of, greatest_lsn}
use Rattle.cc_memdev.proofs.log.last_lsn.Given as goal

abbrev pub invariant-loop-entry : goal.invariant-loop-entry
invariant-loop-entry l =
    greatest_lsn l.last (entries_of (drop l.entry-index l.entries)) ≡ greatest_lsn 0 (entries_of l.entries)
