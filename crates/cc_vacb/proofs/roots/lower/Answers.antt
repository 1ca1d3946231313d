use Rattle.std.proofs.Common.{◌-◌}
use Rattle.std.proofs.Common.{arith, refl}
use Rattle.cc_vacb.proofs.Root.{small_then, same_top}
use Rattle.cc_vacb.proofs.Raise.{then_top}
use Rattle.cc_vacb.proofs.roots.lower.Goals as goal

pub lower_root-requires-clause-small : goal.lower_root-requires-clause-small
lower_root-requires-clause-small c =
    small_then c.args.top c.loop-height.height c.loop-height.height c.args.to c.args.blocks.now.items c.loop-height.blocks.items c.loop-height.invariant.0 c.requires.small c.loop-height-test.true refl

pub loop-height-init : goal.loop-height-init
loop-height-init c = (same_top c.args.top c.args.blocks.now.items c.requires.tree c.requires.filled, c.requires.order, omega arith, omega arith)

pub loop-height-preserved : goal.loop-height-preserved
loop-height-preserved c = (
  then_top c.args.top c.loop-height.height (c.loop-height.height - 1) c.args.blocks.now.items c.loop-height.blocks.items _ (omega (arith, c.loop-height.invariant.2)) c.loop-height.invariant.0 c.lower_root.ensures.changed,
  omega (arith, c.loop-height-test.true),
  omega (arith, c.loop-height.invariant.2),
  omega (arith, c.loop-height.invariant.3, c.lower_root.ensures.wide),
)
