use Rattle.std.proofs.Common.{rules, ◌≡◌, ◌∙◌, ◌==◌, true, false}
use Rattle.std.proofs.lemmas.Iterator.{cases_from_all, YieldsList-from_slice}
use borrow.Author.Tests.{tests}
use Rattle.cc_run.proofs.PhaseSteps.{passes, alone-first}
use Rattle.cc_run.proofs.phases.is_alone.Goals as goal

pub returns-in-Some : goal.returns-in-Some
returns-in-Some c = λ phase those.
    passes (λ line. line.caller == c.in-Some.first.now.caller) c.args.lines.now c.in-Some.first.now c.all.result
    (cases_from_all _ _ _ (λ line. (line.caller == c.in-Some.first.now.caller) ≡ true) (λ line. (line.caller == c.in-Some.first.now.caller) ≡ false) c.all.ensures.ran
    (YieldsList-from_slice c.args.lines.now cc) (λ x q k. search (rules, tests)) (λ x q k. search (rules, tests)))
    ∙ alone-first phase c.args.lines.now c.in-Some.first.now c.in-Some.ensures.value those
