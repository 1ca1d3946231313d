use Rattle.std.proofs.Common.{◌≡◌, ◌≤◌, ◌+◌, ◌-◌, length, arith, inr}
use Rattle.cc_entry.proofs.Kept.{block_longer}
use Rattle.cc_entry.proofs.scan.end_of_blocks.Goals as goal

pub loop-end-preserved : goal.loop-end-preserved
loop-end-preserved c =
    let slice = c.args.slice.now in let end = c.loop-end.end in
    let whole : end + 64 - end ≡ 64 = omega arith in
    let within : end + 64 ≤ length slice = omega (arith, c.loop-end.invariant.within, c.loop-end-test.true) in
    record {
      from = omega (arith, c.loop-end.invariant.from);
      within = within;
      same = block_longer slice c.args.at end (end + 64 - end) c.args.byte c.loop-end.invariant.from within whole (c.is_same.ensures c.if-is_same.true) c.loop-end.invariant.same;
      long = inr (omega (arith, c.loop-end.invariant.from));
    }
