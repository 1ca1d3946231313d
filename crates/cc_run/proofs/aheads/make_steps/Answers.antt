-- One step more: it took a request, or it found none, which ends the phase.
use Rattle.std.specs.Prelude.{◌≡◌, ℕ}
use Rattle.std.proofs.Common.{◌∙◌, refl, sym, subst, arith}
use Rattle.cc_run.specs.Aheads.{StepsMade}
use Rattle.cc_run.proofs.StepsRan.{step-last, step-on, took-made, took-none}
use Rattle.cc_run.proofs.TicksRan.{ticked-on}
use Rattle.cc_run.proofs.aheads.make_steps.Goals as goal

pub loop-init : goal.loop-init
loop-init g c =
    let w = g.T.Turns.standing c.args.turns.now in
    record { made = took-none w.setup c.args.phase c.args.aheads.now w.seen; went = record { same = refl } }

pub loop-preserved : goal.loop-preserved
loop-preserved g c =
    let at = g.T.Turns.standing in
    let w = at c.args.turns.now in
    let between = at c.loop.turns in
    let new = at c.serve_step-answer.new.turns in
    record {
      made =
          step-on w between new c.args.phase c.loop.counter c.args.aheads.now c.loop.aheads
          (record { each = c.loop.aheads.each; answers = c.push_reserved.new.self; place = c.serve_step-answer.new.place })
          c.serve_step-answer.result c.requires.may c.loop.invariant.went c.serve_step-answer.ensures.goes_on c.serve_step-answer.ensures.stepped
          c.serve_step-answer.ensures.full c.note_others.ensures.few c.loop.invariant.made c.push_reserved.ensures.items refl c.push_reserved.ensures.capacity
          (sym c.is_none-found_none.ensures ∙ c.if-found_none.false);
      went = ticked-on w between new c.loop.invariant.went c.serve_step-answer.ensures.goes_on;
    }

pub returns-then-found_none-clause-made : goal.returns-then-found_none-clause-made
returns-then-found_none-clause-made g c =
    let at = g.T.Turns.standing in
    step-last (at c.args.turns.now) (at c.loop.turns) (at c.serve_step-answer.new.turns) c.args.phase c.loop.counter c.args.aheads.now c.loop.aheads
    (record { each = c.loop.aheads.each; answers = c.push_reserved.new.self; place = c.serve_step-answer.new.place })
    c.serve_step-answer.result c.requires.may c.loop.invariant.went c.serve_step-answer.ensures.goes_on c.serve_step-answer.ensures.stepped
    c.serve_step-answer.ensures.full c.note_others.ensures.few c.loop.invariant.made c.push_reserved.ensures.items refl c.push_reserved.ensures.capacity
    c.args.aheads.now.each (omega (arith, c.loop-test.true)) (sym c.is_none-found_none.ensures ∙ c.if-found_none.true)

pub returns-then-found_none-clause-goes_on : goal.returns-then-found_none-clause-goes_on
returns-then-found_none-clause-goes_on g c =
    let at = g.T.Turns.standing in
    ticked-on (at c.args.turns.now) (at c.loop.turns) (at c.serve_step-answer.new.turns) c.loop.invariant.went c.serve_step-answer.ensures.goes_on

pub returns-clause-made : goal.returns-clause-made
returns-clause-made g c =
    let w = g.T.Turns.standing c.args.turns.now in
    let new = g.T.Turns.standing c.loop.turns in
    let all : c.loop.counter ≡ c.args.aheads.now.each = omega (arith, c.loop-test.false) in
    subst (λ (n : ℕ). StepsMade w.setup c.args.phase n c.args.aheads.now c.loop.aheads w.seen new.seen) all
    (took-made w.setup c.args.phase c.loop.counter c.args.aheads.now c.loop.aheads w.seen new.seen c.loop.invariant.made)
