-- A number is told where one of the lines from here on tells it.
use Rattle.std.proofs.Common.{◌≡◌, ◌-◌, length, drop}
use Rattle.cc_pieces.specs.Explained.{posted_in}
use Rattle.cc_run.specs.Once.{tells_it}
use Rattle.cc_run.proofs.once.is_told.Given as goal

abbrev pub invariant-loop-at : goal.invariant-loop-at
invariant-loop-at l = tells_it l.id (posted_in l.lines l.replies) ≡ tells_it l.id (posted_in (drop l.at l.lines) (drop l.at l.replies))

abbrev pub decreases-loop-at : goal.decreases-loop-at
decreases-loop-at l = length l.lines - l.at
