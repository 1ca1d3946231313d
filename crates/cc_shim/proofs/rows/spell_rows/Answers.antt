use Rattle.cc_shim.proofs.Checkpointing.{rows-more}
use Rattle.cc_shim.proofs.rows.spell_rows.Goals as goal

pub loop-row-preserved : goal.loop-row-preserved
loop-row-preserved c =
    rows-more c.args.rows.now c.loop-row.row-index c.row-item.result c.args.out.now.items c.loop-row.out.items c.spell_row.new.out.items c.loop-row-test.true c.row-item.is c.loop-row.invariant c.in_ok-spell_row.ensures
