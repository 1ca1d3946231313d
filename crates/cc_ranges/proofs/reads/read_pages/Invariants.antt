use Rattle.cc_ranges.proofs.ReadPages.{ReadsOn}
use Rattle.cc_ranges.proofs.reads.read_pages.Given as goal

abbrev pub invariant-loop-done : goal.invariant-loop-done
invariant-loop-done g l =
    ReadsOn (g.T.Turns.standing l.fn.turns) (g.T.Turns.standing l.turns) l.fn.file l.fn.first l.done l.told l.fn.out l.out
