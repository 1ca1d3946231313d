-- Where the request is whole its range is needed, and else no page.
use Rattle.cc_model.specs.History.{history}
use Rattle.cc_step.proofs.Waiting.{step-needs, step-needs-none}
use Rattle.cc_step.proofs.steps.absent_ahead.Goals as goal

pub returns-then-whole : goal.returns-then-whole
returns-then-whole c opening past stands =
    step-needs (history past c.args.book.now.stream) c.args.request.now _ _ (c.in_ok-whole.ensures opening past stands) c.if-whole.true
    (c.absent_below.ensures opening past stands)

pub returns-else-whole : goal.returns-else-whole
returns-else-whole c opening past stands =
    step-needs-none (history past c.args.book.now.stream) c.args.request.now _ (c.in_ok-whole.ensures opening past stands) c.if-whole.false
