use Rattle.cc_journal.proofs.Touches.{TouchedSoFar}
use Rattle.cc_journal.proofs.table.touch_pages.Given as goal

abbrev pub invariant-loop-number : goal.invariant-loop-number
invariant-loop-number l = TouchedSoFar l.stream l.from l.to l.number l.place l.lsn l.fn.table l.table
