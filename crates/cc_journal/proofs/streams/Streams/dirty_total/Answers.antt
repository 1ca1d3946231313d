use Rattle.cc_journal.proofs.StreamsSteps.{total_by}
use Rattle.cc_journal.proofs.streams.Streams.dirty_total.Goals as goal

pub returns : goal.returns
returns c past stands =
    rw c.rows.ensures.rows
    (total_by past c.args.self.now.states.value c.args.self.now.places.places.entries c.args.self.now.dirty.rows (rw c.rows.ensures.rows at c.rows.ensures.sound) stands)
