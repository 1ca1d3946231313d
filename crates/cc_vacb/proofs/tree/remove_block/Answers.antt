use Rattle.std.proofs.Common.{sym, arith}
use Rattle.cc_vacb.proofs.Prune.{removes}
use Rattle.cc_vacb.proofs.Removed.{now_same, now_other}
use Rattle.cc_vacb.proofs.tree.remove_block.Goals as goal

pub returns-then-parent-last : goal.returns-then-parent-last
returns-then-parent-last c =
    let r = c.requires in
    removes c.args.top c.args.blocks.now.items _ _ c.args.node c.unlink-parent.result c.args.node _ r.tree r.filled r.inner r.node_in r.empty c.unlink-parent.ensures c.swap_remove-removed.ensures.items (sym (now_same c.args.node _ c.unlink-parent.result (omega (arith, c.if-parent-last.true, c.len.ensures, c.args.blocks.now.ok.0))))

pub returns : goal.returns
returns c =
    let r = c.requires in
    removes c.args.top c.args.blocks.now.items _ _ c.args.node c.unlink-parent.result c.unlink-parent.result _ r.tree r.filled r.inner r.node_in r.empty c.unlink-parent.ensures c.swap_remove-removed.ensures.items (sym (now_other c.args.node _ c.unlink-parent.result (λ e. c.if-parent-last.false (omega (arith, e, c.len.ensures, c.args.blocks.now.ok.0)))))
