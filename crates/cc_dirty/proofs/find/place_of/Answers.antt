use Rattle.std.proofs.Common.{rules, arith}
use Rattle.cc_dirty.proofs.Search.{Between-upper, Between-lower}
use Rattle.cc_dirty.proofs.find.place_of.Goals as goal

pub loop-low-preserved-then-precedes : goal.loop-low-preserved-then-precedes
loop-low-preserved-then-precedes c =
    Between-upper c.args.rows.now (record { stream = c.args.stream; page = c.args.number }) c.loop-low.low c.loop-low.high _ c.index-rows-middle.result c.requires c.loop-low.invariant (omega arith) (omega arith)
    c.index-rows-middle.is (search rules)

pub loop-low-preserved : goal.loop-low-preserved
loop-low-preserved c =
    Between-lower c.args.rows.now (record { stream = c.args.stream; page = c.args.number }) c.loop-low.low c.loop-low.high _ c.index-rows-middle.result c.requires c.loop-low.invariant (omega arith) (omega arith)
    c.index-rows-middle.is (search rules)
