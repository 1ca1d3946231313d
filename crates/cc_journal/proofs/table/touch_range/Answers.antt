use Rattle.std.proofs.Common.{arith}
use Rattle.cc_journal.proofs.Touches.{last_below}
use Rattle.cc_journal.proofs.table.touch_range.Goals as goal

-- src/table.rt:32:21
pub overflow_cast-first : goal.overflow_cast-first
overflow_cast-first c = omega (arith, last_below c.args.from c.args.to 2251799813685248 c.if-from-to.true c.requires.within, c.if-from-to.true)

-- src/table.rt:33:20
pub overflow_cast-last : goal.overflow_cast-last
overflow_cast-last c = omega (arith, last_below c.args.from c.args.to 2251799813685248 c.if-from-to.true c.requires.within)

-- src/table.rt:34:43
pub overflow_add-last : goal.overflow_add-last
overflow_add-last c = omega (arith, last_below c.args.from c.args.to 2251799813685248 c.if-from-to.true c.requires.within)

-- src/table.rt:34:9
pub touch_pages-requires-clause-within : goal.touch_pages-requires-clause-within
touch_pages-requires-clause-within c = omega (arith, last_below c.args.from c.args.to 2251799813685248 c.if-from-to.true c.requires.within)
