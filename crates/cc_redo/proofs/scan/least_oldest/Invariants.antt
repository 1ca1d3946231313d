use Rattle.std.proofs.Common.{◌≡◌, drop}
use Rattle.cc_redo.specs.Heard.{oldest_given_in}
use Rattle.cc_redo.proofs.scan.least_oldest.Given as goal

abbrev pub invariant-loop-row : goal.invariant-loop-row
invariant-loop-row l = oldest_given_in l.streams l.oldest (drop l.row-index l.rows) ≡ oldest_given_in l.streams l.lsn l.rows
