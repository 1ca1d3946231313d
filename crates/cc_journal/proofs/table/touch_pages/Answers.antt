use Rattle.cc_journal.proofs.Touches.{touch_fits, touch_step}
use Rattle.cc_journal.proofs.table.touch_pages.Goals as goal

-- src/table.rt:49:9
pub touch-requires : goal.touch-requires
touch-requires c =
    touch_fits c.args.stream c.args.from c.args.to c.loop-number.number c.args.place c.args.lsn.now c.args.table.now c.loop-number.table c.unwrap-page.result
    c.loop-number-test.true (rw c.unwrap-page.ensures at c.new.ensures.stream) (rw c.unwrap-page.ensures at c.new.ensures.page) c.loop-number.invariant

-- src/table.rt:47:5
pub loop-number-preserved : goal.loop-number-preserved
loop-number-preserved c =
    touch_step c.args.stream c.args.from c.args.to c.loop-number.number c.args.place c.args.lsn.now c.args.table.now c.loop-number.table c.touch.new.self c.unwrap-page.result
    c.loop-number.auto.number c.loop-number-test.true (rw c.unwrap-page.ensures at c.new.ensures.stream) (rw c.unwrap-page.ensures at c.new.ensures.page)
    c.touch.ensures.row c.touch.ensures.others c.touch.ensures.len c.touch.ensures.capacity c.loop-number.invariant
