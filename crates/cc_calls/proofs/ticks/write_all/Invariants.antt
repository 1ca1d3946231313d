use Rattle.cc_calls.proofs.TickPages.{WritesOn}
use Rattle.cc_calls.proofs.ticks.write_all.Given as goal

abbrev pub invariant-loop-page : goal.invariant-loop-page
invariant-loop-page g l = WritesOn (g.T.Turns.standing l.fn.turns) (g.T.Turns.standing l.turns) l.pages l.page-index l.counts
