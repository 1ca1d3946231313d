-- A read-ahead step needs its range where it is whole; any other call needs its own.
use Rattle.std.specs.Prelude.{Option}
use Rattle.std.proofs.Common.{ap, sym, ◌∙◌}
use Rattle.std.proofs.lemmas.Result.{IfOk-weaker}
use Rattle.cc_entry.specs.Place.{Range}
use Rattle.cc_model.specs.History.{history}
use Rattle.cc_step.specs.Step.{least_absent}
use Rattle.cc_step.proofs.Waiting.{needed-other}
use Rattle.cc_step.proofs.steps.absent.Goals as goal

pub returns-in-AheadStep : goal.returns-in-AheadStep
returns-in-AheadStep c =
    IfOk-weaker c.absent_ahead.result _ _
    (λ page given u opening past stands admitted. rw c.in-AheadStep.is (given opening past stands))
    c.absent_ahead.ensures

pub returns-in_default : goal.returns-in_default
returns-in_default c u opening past stands admitted =
    let h = history past c.args.book.now.stream in
    c.absent_in_range.ensures u opening past stands admitted
    ∙ ap (λ (r : Option Range). least_absent h r) (sym (needed-other h c.args.call.now c.in_default.not-AheadStep))
