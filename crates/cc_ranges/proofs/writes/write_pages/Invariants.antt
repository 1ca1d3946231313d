use Rattle.cc_ranges.proofs.WritePages.{WritesOn}
use Rattle.cc_ranges.proofs.writes.write_pages.Given as goal

abbrev pub invariant-loop-done : goal.invariant-loop-done
invariant-loop-done g l =
    WritesOn (g.T.Turns.standing l.fn.turns) (g.T.Turns.standing l.turns) l.fn.file l.fn.first l.done l.changed l.fn.piece
