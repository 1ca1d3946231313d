use Rattle.std.specs.Prelude.{◌≡◌}
use Rattle.std.proofs.Common.{◌∙◌}
use Rattle.std.proofs.lemmas.Result.{IfOk-weaker}
use Rattle.cc_model.specs.Cache.{lazy_pages}
use Rattle.cc_journal.proofs.StreamsSteps.{lazy_by}
use Rattle.cc_journal.proofs.streams.Streams.lazy_pages.Goals as goal

pub returns : goal.returns
returns c past stands =
    let is = lazy_by past c.args.self.now.states.value c.args.self.now.places.places.entries c.args.self.now.dirty.rows c.marks.result (c.marks.ensures past stands)
    (rw c.rows.ensures.rows at c.rows.ensures.sound) stands in
    IfOk-weaker c.lazy_pages.result _ (λ pages. pages.items ≡ lazy_pages past) (λ pages found. found ∙ (rw c.rows.ensures.rows is)) c.lazy_pages.ensures
