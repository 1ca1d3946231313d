-- One line more counts where it is the caller's.
use Rattle.std.proofs.Common.{◌≡◌, ◌+◌, ◌==◌, true, false, ◌∷◌, ◌++◌, [], take, sym, ap, ◌∙◌, arith, if◌then◌else◌}
use Rattle.std.proofs.lemmas.Bool.{eq-eqb, ne_eqb}
use Rattle.std.proofs.lemmas.List.{take_more}
use Rattle.cc_run.specs.Callers.{count_of_caller}
use Rattle.cc_run.proofs.Rooms.{counted-more}
use Rattle.cc_run.proofs.threads.count_of.Goals as goal
use Rattle.cc_run.proofs.threads.count_of.Goals.{then-line-caller, else-line-caller}

pub loop-line-preserved : goal.loop-line-preserved
loop-line-preserved c =
    let before = take c.loop-line.line-index c.args.lines.now in
    let more : take (c.loop-line.line-index + 1) c.args.lines.now ≡ before ++ c.line-item.result ∷ [] =
    take_more c.args.lines.now c.loop-line.line-index c.line-item.result c.loop-line-test.true ∙ ap (λ x. before ++ x ∷ []) (sym c.line-item.is) in
    let sum : count_of_caller c.args.caller (take (c.loop-line.line-index + 1) c.args.lines.now) ≡ c.loop-line.count + (if c.line-item.result.caller == c.args.caller then 1 else 0) =
    ap (count_of_caller c.args.caller) more ∙ (counted-more c.args.caller before c.line-item.result ∙ ap (λ n. n + (if c.line-item.result.caller == c.args.caller then 1 else 0)) (sym c.loop-line.invariant.counted)) in
    elim c.if-line-caller.branch [
      | then-line-caller w ↦
          let is : (c.line-item.result.caller == c.args.caller) ≡ true = eq-eqb c.line-item.result.caller c.args.caller w.if-line-caller.true in
          record { counted = w.count-is ∙ sym (rw is at sum); within = omega (arith, w.count-is, c.loop-line.invariant.within) }
      | else-line-caller w ↦
          let is : (c.line-item.result.caller == c.args.caller) ≡ false = ne_eqb c.line-item.result.caller c.args.caller w.if-line-caller.false in
          record { counted = w.count-is ∙ sym (rw is at sum ∙ omega arith); within = omega (arith, w.count-is, c.loop-line.invariant.within) }
    ]
