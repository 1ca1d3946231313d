use Rattle.std.proofs.Common.{sym, ◌∙◌}
use Rattle.cc_views.specs.Views.{mapped_blocks}
use Rattle.cc_views.proofs.Orders.{stops, goes_on}
use Rattle.cc_views.proofs.views.Views.oldest_of.Goals as goal

pub returns-then-not-contains-clause-oldest : goal.returns-then-not-contains-clause-oldest
returns-then-not-contains-clause-oldest c = stops c.args.kept.now (mapped_blocks c.args.self.now) c.loop-place.place c.block_at-block.result c.block_at-block.ensures (sym c.contains.ensures.value ∙ c.if-not-contains.true) c.loop-place.invariant

pub loop-place-preserved : goal.loop-place-preserved
loop-place-preserved c = goes_on c.args.kept.now (mapped_blocks c.args.self.now) c.loop-place.place c.block_at-block.result c.block_at-block.ensures (sym c.contains.ensures.value ∙ c.if-not-contains.false) c.loop-place.invariant
