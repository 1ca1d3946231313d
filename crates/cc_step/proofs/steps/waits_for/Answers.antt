-- A call that nothing refuses waits for its least absent page, if there is one; a refused one waits for none.
use Rattle.std.specs.Prelude.{◌≡◌, Option}
use Rattle.std.proofs.Common.{ap, sym, ◌∙◌}
use Rattle.std.proofs.lemmas.Result.{IfOk-weaker}
use Rattle.cc_entry.specs.declared.error.CcError.{CcError}
use Rattle.cc_model.specs.History.{history}
use Rattle.cc_step.specs.Step.{awaited_of, needed_range}
use Rattle.cc_step.proofs.steps.waits_for.Goals as goal

pub returns-in-None : goal.returns-in-None
returns-in-None g c =
    IfOk-weaker c.absent.result _ _
    (λ page given u stand.
    let h = history c.args.journal.now.entries c.args.book.now.stream in
    let admitted = sym (c.in_ok-refusal.ensures u (u.opening c.args.book.now.stream) stand.logs_are stand.stands) ∙ c.in-None.is in
    given u (u.opening c.args.book.now.stream) c.args.journal.now.entries stand.stands admitted
    ∙ ap (λ (o : Option CcError). awaited_of o h (needed_range h c.args.call.now)) (sym admitted))
    c.absent.ensures

pub returns-in-Some : goal.returns-in-Some
returns-in-Some g c u stand =
    let h = history c.args.journal.now.entries c.args.book.now.stream in
    let refused = sym (c.in_ok-refusal.ensures u (u.opening c.args.book.now.stream) stand.logs_are stand.stands) ∙ c.in-Some.is in
    ap (λ (o : Option CcError). awaited_of o h (needed_range h c.args.call.now)) (sym refused)
