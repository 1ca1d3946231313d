use Rattle.std.proofs.Common.{arith}
use Rattle.cc_entry.proofs.Kept.{byte_longer}
use Rattle.cc_entry.proofs.scan.end_of_same.Goals as goal

pub loop-end-preserved : goal.loop-end-preserved
loop-end-preserved c = record {
  from = omega (arith, c.loop-end.invariant.from);
  within = omega (arith, c.loop-end-test.true);
  same = byte_longer c.args.slice.now c.args.at c.loop-end.end c.args.byte c.loop-end.invariant.from (omega (arith, c.loop-end-test.true)) c.if-slice-end.true c.loop-end.invariant.same;
}
