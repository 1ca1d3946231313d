use Rattle.std.proofs.Common.{◌∙◌}
use Rattle.cc_journal.proofs.StreamsSteps.{lazy_count_by}
use Rattle.cc_journal.proofs.streams.Streams.lazy_total.Goals as goal

pub returns : goal.returns
returns c past stands =
    c.lazy_count.ensures
    ∙ rw c.rows.ensures.rows
    (lazy_count_by past c.args.self.now.states.value c.args.self.now.places.places.entries c.args.self.now.dirty.rows c.marks.result (c.marks.ensures past stands)
    (rw c.rows.ensures.rows at c.rows.ensures.sound) stands)
