-- The routines of the lines before this one are posted where the journal shows it.
use Rattle.std.proofs.Common.{◌-◌, length, reverse}
use Rattle.cc_run.proofs.PostSteps.{PostedTo}
use Rattle.cc_run.proofs.posts.post_routines.Given as goal

abbrev pub invariant-loop-at : goal.invariant-loop-at
invariant-loop-at g l = PostedTo g.Q.PostRoutine.posted l.lines l.answers (reverse l.entries) l.initial.posts.items l.at l.next l.posts.items

abbrev pub decreases-loop-at : goal.decreases-loop-at
decreases-loop-at g l = length l.lines - l.at
