-- The numbers from a place on were looked at.
use Rattle.cc_pieces.specs.Explained.{posted_in}
use Rattle.cc_run.proofs.Untold.{UntoldFrom}
use Rattle.cc_run.proofs.once.untold_ids.Given as goal

abbrev pub invariant-loop-at : goal.invariant-loop-at
invariant-loop-at l = UntoldFrom l.initial.ids.items (posted_in l.lines l.replies) l.at l.ids.items

abbrev pub decreases-loop-at : goal.decreases-loop-at
decreases-loop-at l = l.at
