use Rattle.std.proofs.Common.{◌≡◌, drop}
use Rattle.cc_redo.specs.Heard.{from_behind, from_of}
use Rattle.cc_redo.proofs.scan.first_redone.Given as goal

abbrev pub invariant-loop-entry : goal.invariant-loop-entry
invariant-loop-entry l = from_behind l.streams l.from (drop l.entry-index l.entries) ≡ from_of l.streams l.entries
