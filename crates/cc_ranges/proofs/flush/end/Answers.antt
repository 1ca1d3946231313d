use Rattle.std.proofs.Common.{subst}
use Rattle.cc_entry.specs.declared.entry.End.{End}
use Rattle.cc_ranges.specs.Flush.{IsAtEnd}
use Rattle.cc_ranges.proofs.FlushHolding.{begun-nothing, memoryless-left}
use Rattle.cc_ranges.proofs.flush.end.Goals as goal

pub returns-in-NoMemory-clause-left : goal.returns-in-NoMemory-clause-left
returns-in-NoMemory-clause-left g c begun at =
    let w = g.T.Turns.standing c.args.turns.now in
    memoryless-left w.setup w.number c.args.file c.args.span.now begun w.seen
    (subst (λ (h : End). IsAtEnd w.setup w.number c.args.file c.args.span.now h begun w.seen) c.in-NoMemory.is at)

pub returns-in-NoMemory-clause-begun : goal.returns-in-NoMemory-clause-begun
returns-in-NoMemory-clause-begun g c = let w = g.T.Turns.standing c.args.turns.now in begun-nothing w.number w.seen
