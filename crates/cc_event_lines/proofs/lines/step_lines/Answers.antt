-- Each line steps behind the lines before, with room for its reply and its word; with the last all of them went.
use Rattle.std.proofs.Common.{ap, arith, refl, ◌∙◌}
use Rattle.cc_event_lines.proofs.LineSteps.{line-further, lines-went, no-line-yet}
use Rattle.cc_event_lines.proofs.lines.step_lines.Goals as goal

pub loop-line-init : goal.loop-line-init
loop-line-init g c = record {
  so_far = no-line-yet _ c.args.lines.now _ _ _ _ c.args.routines.now c.requires.routines c.requires.enough c.requires.words;
  kept = refl;
  counted = omega arith;
  capacity = refl;
}

pub loop-line-preserved : goal.loop-line-preserved
loop-line-preserved g c = record {
  so_far = line-further _ c.args.lines.now c.loop-line.line-index _ _ _ _ _ _ _ _ _ c.line-item.result c.loop-line-test.true c.line-item.is c.loop-line.invariant.so_far _ _ _ _ c.step_line-answer.result c.push_reserved.ensures.items (ap (λ n. n.named) c.follow.ensures) c.step_line-answer.ensures;
  kept = ap (λ n. n.room) c.follow.ensures ∙ c.loop-line.invariant.kept;
  counted = omega (arith, c.push_reserved.ensures.len, c.loop-line.invariant.counted);
  capacity = c.push_reserved.ensures.capacity ∙ c.loop-line.invariant.capacity;
}

pub returns : goal.returns
returns g c =
    lines-went _ c.args.lines.now c.loop-line.line-index _ _ _ _ _ _ _ _ _ c.loop-line-test.false c.loop-line.invariant.so_far
