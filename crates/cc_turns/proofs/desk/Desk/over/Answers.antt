use Rattle.std.proofs.Common.{ap, arith}
use Rattle.cc_turns.proofs.Fresh.{fresh_desk}
use Rattle.cc_turns.proofs.desk.Desk.over.Goals as goal

pub invariant_of-result : goal.invariant_of-result
invariant_of-result g c =
    fresh_desk _ c.args.setup c.of-begun.result.value c.args.rows.journal c.of-last.result.value c.of-since.result.value.value.entries c.out_of.result.items c.args.rows.books.items c.of_logs.result.items
    _ _ _ _ _ _ c.of-begun.ensures c.of-last.ensures (ap (λ snapshot. snapshot.value.entries) c.of-since.ensures) (omega (arith, c.args.setup.few_disks, c.args.setup.disks.ok.0))
    (omega (arith, c.args.setup.few_logs, c.args.setup.logs.ok.0)) c.requires.journal c.out_of.ensures.moved
    c.requires.books
    c.of_logs.ensures.home c.out_of.ensures.emptied c.of_logs.ensures.emptied
