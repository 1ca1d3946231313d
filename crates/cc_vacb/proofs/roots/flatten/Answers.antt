use Rattle.std.proofs.Common.{arith}
use Rattle.cc_vacb.proofs.Root.{flattened}
use Rattle.cc_vacb.proofs.roots.flatten.Goals as goal

pub lower-requires-clause-small : goal.lower-requires-clause-small
lower-requires-clause-small c = λ n v e. omega (arith, c.requires.small n v e, c.requires.few, c.requires.tree.root_wide)

pub returns-clause-changed : goal.returns-clause-changed
returns-clause-changed c =
    let r = c.requires in
    (flattened c.args.top c.args.blocks.now.items _ _ _ c.args.width r.tree r.small r.few c.lower.ensures.changed c.lower.ensures.wide c.index_mut.ensures.value c.narrow.ensures).0

pub returns-clause-width : goal.returns-clause-width
returns-clause-width c =
    let r = c.requires in
    (flattened c.args.top c.args.blocks.now.items _ _ _ c.args.width r.tree r.small r.few c.lower.ensures.changed c.lower.ensures.wide c.index_mut.ensures.value c.narrow.ensures).1
