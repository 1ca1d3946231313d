use Rattle.cc_lines.proofs.ThrottleLines.{PostsOn}
use Rattle.cc_lines.proofs.throttle_lines.post_all.Given as goal

abbrev pub invariant-loop : goal.invariant-loop
invariant-loop g l = PostsOn (g.T.Turns.standing l.fn.turns) (g.T.Turns.standing l.turns) l.ids.items
