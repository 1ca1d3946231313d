use Rattle.std.proofs.Common.{arith}
use Rattle.cc_vacb.proofs.Sizes.{size_in, levels_range}
use Rattle.cc_vacb.proofs.levels.top_for.Goals as goal

pub overflow_sub-result : goal.overflow_sub-result
overflow_sub-result c = omega (arith, (levels_range c.args.size _ (size_in c.args.size)).0, c.levels_for.ensures)

pub returns-clause-levels : goal.returns-clause-levels
returns-clause-levels c = omega (arith, (levels_range c.args.size _ (size_in c.args.size)).0, c.levels_for.ensures)

pub returns-clause-bound : goal.returns-clause-bound
returns-clause-bound c = omega (arith, (levels_range c.args.size _ (size_in c.args.size)).1, c.levels_for.ensures)
