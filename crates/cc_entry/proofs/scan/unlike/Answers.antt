use Rattle.std.proofs.Common.{arith}
use Rattle.cc_entry.proofs.Longest.{alone_more}
use Rattle.cc_entry.proofs.scan.unlike.Goals as goal

pub loop-n-preserved : goal.loop-n-preserved
loop-n-preserved c = record {
  within = omega (arith, c.loop-n-test.true);
  last = λ some. omega (arith, c.loop-n-test.true);
  told = λ behind. alone_more c.args.slice.now behind c.loop-n.n (omega (arith, c.loop-n-test.true)) c.if-slice-n.true (c.loop-n.invariant.told behind);
}
