use Rattle.std.proofs.Common.{◌≡◌, drop}
use Rattle.cc_redo.specs.Heard.{last_behind, last_lsn_of}
use Rattle.cc_redo.proofs.scan.last_lsn.Given as goal

abbrev pub invariant-loop-entry : goal.invariant-loop-entry
invariant-loop-entry l = last_behind l.last (drop l.entry-index l.entries) ≡ last_lsn_of l.entries
