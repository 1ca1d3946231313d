use Rattle.std.proofs.Common.{length, arith, ap}
use Rattle.std.proofs.lemmas.List.{length-append}
use Rattle.cc_entry.proofs.runs.Runs.skip_alone.Goals as goal

pub invariant_of-self : goal.invariant_of-self
invariant_of-self c =
    let all = ap length c.skip_unlike.ensures.split in
    omega (arith, all, c.self.invariant, length-append c.skip_unlike.result.now c.skip_unlike.new.self)
