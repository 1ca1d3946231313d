use Rattle.cc_vacb.proofs.Alone.{blank_index}
use Rattle.cc_vacb.proofs.index.ViewIndex.new.Goals as goal

pub invariant_of-result : goal.invariant_of-result
invariant_of-result c = (blank_index c.args.size _ _ _ _ _ c.ranges.size.fits c.in_ok-blocks.ensures.items c.push_reserved.ensures.items c.in_ok-root.ensures c.top_for-top.ensures.levels c.width_for.ensures).index

pub returns-clause-empty : goal.returns-clause-empty
returns-clause-empty c = (blank_index c.args.size _ _ _ _ _ c.ranges.size.fits c.in_ok-blocks.ensures.items c.push_reserved.ensures.items c.in_ok-root.ensures c.top_for-top.ensures.levels c.width_for.ensures).empty

pub returns-clause-count : goal.returns-clause-count
returns-clause-count c = (blank_index c.args.size _ _ _ _ _ c.ranges.size.fits c.in_ok-blocks.ensures.items c.push_reserved.ensures.items c.in_ok-root.ensures c.top_for-top.ensures.levels c.width_for.ensures).count
