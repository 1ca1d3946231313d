-- So many ticks of the phase were made, and the pass goes on as it stood.
use Rattle.cc_lines.specs.Line.{WentOn}
use Rattle.cc_run.specs.Ticks.{TicksMade}
use Rattle.cc_run.proofs.ticks.make_ticks.Given as goal

abbrev pub invariant-loop : goal.invariant-loop
invariant-loop g l =
    let at = g.T.Turns.standing in
    record {
      made : TicksMade (at l.initial.turns).setup l.phase l.counter l.initial.ticks l.ticks (at l.initial.turns).seen (at l.turns).seen;
      went : WentOn (at l.initial.turns) (at l.turns);
    }
