use Rattle.std.proofs.Common.{reverse, sym, ap, ◌∙◌, arith}
use Rattle.cc_run.proofs.RowSteps.{reverse_twice, out_ended}
use Rattle.cc_run.proofs.row.first_of.Goals as goal

pub returns-clause-first : goal.returns-clause-first
returns-clause-first g c =
    (out_ended c.args.most c.args.row.now.items c.loop.first.items _ c.loop.invariant.moved (omega (arith, c.args.row.now.ok.0))).0

pub returns-clause-left : goal.returns-clause-left
returns-clause-left g c =
    let parts = out_ended c.args.most c.args.row.now.items c.loop.first.items (reverse c.loop.row.items) c.loop.invariant.moved (omega (arith, c.args.row.now.ok.0)) in
    sym (reverse_twice c.loop.row.items) ∙ ap reverse parts.1
