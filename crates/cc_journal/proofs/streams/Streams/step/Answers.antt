use Rattle.std.proofs.Common.{sym, ◌∙◌}
use Rattle.cc_journal.proofs.StreamsSteps.{stands_left}
use Rattle.cc_journal.proofs.streams.Streams.step.Goals as goal

pub returns-else-not-leaves_streams-clause-stands : goal.returns-else-not-leaves_streams-clause-stands
returns-else-not-leaves_streams-clause-stands c past here keeps stands =
    stands_left c.args.entry.now past c.args.self.now.states.value c.args.self.now.places.places.entries c.args.self.now.dirty.rows
    (sym c.leaves_streams.ensures ∙ c.if-not-leaves_streams.false) stands
