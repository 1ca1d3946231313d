use Rattle.std.proofs.Common.{◌-◌}
use Rattle.cc_dirty.proofs.Search.{Between}
use Rattle.cc_dirty.proofs.find.place_of.Given as goal

abbrev pub invariant-loop-low : goal.invariant-loop-low
invariant-loop-low l = Between l.rows (record { stream = l.stream; page = l.number }) l.low l.high

abbrev pub decreases-loop-low : goal.decreases-loop-low
decreases-loop-low l = l.high - l.low
