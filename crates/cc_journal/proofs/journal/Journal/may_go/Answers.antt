use Rattle.std.specs.Prelude.{◌≡◌, List}
use Rattle.std.proofs.Common.{ap, sym, ◌∙◌}
use Rattle.cc_entry.specs.declared.entry.Entry.{Entry}
use Rattle.cc_model.specs.Throttle.{may_go}
use Rattle.cc_journal.proofs.KeptSteps.{may_go_by}
use Rattle.cc_journal.proofs.journal.Journal.may_go.Goals as goal

pub returns : goal.returns
returns g c u is =
    let past : List Entry = c.self.inside.entries.past in
    let streams = c.self.invariant.0.streams in
    let same : past ≡ c.args.self.now.entries = ap (λ j. j.entries) c.self.view_is in
    let limit : u.threshold ≡ c.self.inside.threshold = is ∙ sym (ap (λ j. j.threshold) c.self.view_is) in
    c.goes.ensures
    ∙ (sym (may_go_by u past c.args.stream c.args.pages c.threshold-own.result c.dirty_total-total.result c.dirty_count-count.result c.self.inside.threshold
    (c.threshold-own.ensures.stands _ (c.state.ensures.stands past streams)) (c.dirty_total-total.ensures past streams) (c.dirty_count-count.ensures past streams) limit)
    ∙ ap (λ p. may_go u p c.args.stream c.args.pages) same)
