use Rattle.std.proofs.Common.{ℕ, List, arith, sym, ◌∙◌, ap}
use Rattle.cc_model.specs.Numbers.{is_among, without}
use Rattle.cc_model.specs.Objects.{objects}
use Rattle.cc_crash.specs.Effects.{effects}
use Rattle.cc_crash.proofs.TouchSteps.{counts}
use Rattle.cc_crash.proofs.touches.truncation_at.Goals as goal

pub returns-then-to-size : goal.returns-then-to-size
returns-then-to-size c =
    counts (objects (effects c.args.rest.now c.args.stream)) c.in_ok-left.left.items c.args.size c.in-Some.to c.args.object _ c.in-Some.is
    (ap (λ (os : List ℕ). is_among c.args.object os) (sym c.in_ok-found.ensures ∙ sym c.deref.ensures.value) ∙ sym c.if-not-contains.ensures.value)
    (c.in_ok-left.ensures ∙ ap (λ (os : List ℕ). without c.args.object os) (c.deref-2.ensures.value ∙ c.in_ok-found.ensures))
    (omega arith) c.if-to-size.true
