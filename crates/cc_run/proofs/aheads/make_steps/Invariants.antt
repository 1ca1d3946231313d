-- So many steps of the phase were made, each of which took a request, and the pass goes on as it stood.
use Rattle.cc_lines.specs.Line.{WentOn}
use Rattle.cc_run.proofs.StepsRan.{TookSo}
use Rattle.cc_run.proofs.aheads.make_steps.Given as goal

abbrev pub invariant-loop : goal.invariant-loop
invariant-loop g l =
    let at = g.T.Turns.standing in
    record {
      made : TookSo (at l.initial.turns).setup l.phase l.counter l.initial.aheads l.aheads (at l.initial.turns).seen (at l.turns).seen;
      went : WentOn (at l.initial.turns) (at l.turns);
    }
