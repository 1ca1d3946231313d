use Rattle.std.proofs.Common.{◌≡◌, sym, ◌∙◌, arith}
use Rattle.cc_script.proofs.Generated.{lines_done}
use Rattle.cc_script.proofs.generator.lines.Goals as goal

pub returns : goal.returns
returns c =
    let most = c.loop-number.invariant.1 in
    let last : c.loop-number.number ≡ 4003 = omega (arith, most, c.loop-number-test.false) in
    sym (lines_done c.loop-number.number c.loop-number.generator.state c.loop-number.lines last) ∙ c.loop-number.invariant.0
