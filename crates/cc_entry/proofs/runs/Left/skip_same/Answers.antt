use Rattle.cc_entry.proofs.Kept.{same_more}
use Rattle.cc_entry.proofs.runs.Left.skip_same.Goals as goal

pub loop-byte-preserved : goal.loop-byte-preserved
loop-byte-preserved c = same_more c.args.byte c.loop-byte.count c.skip_in_part-same.result.0 _ _ _ c.loop-byte.invariant c.skip_in_part-same.ensures.skipped
