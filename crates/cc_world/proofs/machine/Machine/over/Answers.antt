use Rattle.std.proofs.Common.{arith}
use Rattle.cc_world.proofs.Fresh.{fresh-world}
use Rattle.cc_world.proofs.machine.Machine.over.Goals as goal

pub invariant_of-result : goal.invariant_of-result
invariant_of-result g c =
    fresh-world _ c.args.setup c.of-begun.result.value c.rows_of.result.items c.logs_of.result.items c.args.rows.journal _ _ _ _
    c.of-begun.ensures (omega (arith, c.args.setup.few_disks, c.args.setup.disks.ok.0)) (omega (arith, c.args.setup.few_logs, c.args.setup.logs.ok.0))
    c.requires.journal c.rows_of.ensures.rows c.logs_of.ensures.logs c.rows_of.ensures.emptied c.logs_of.ensures.emptied
