use Rattle.std.proofs.Common.{◌∙◌}
use Rattle.cc_journal.proofs.StreamsSteps.{count_of}
use Rattle.cc_journal.proofs.streams.Streams.dirty_count.Goals as goal

pub returns : goal.returns
returns c past stands =
    c.total.ensures.count
    ∙ count_of past c.args.self.now.states.value c.args.self.now.places.places.entries c.args.self.now.dirty.rows c.args.stream c.total.ensures.sound stands
