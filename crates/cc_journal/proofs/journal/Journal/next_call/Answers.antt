use Rattle.std.specs.Prelude.{List}
use Rattle.std.proofs.Common.{ap, arith}
use Rattle.cc_entry.specs.declared.entry.Entry.{Entry}
use Rattle.cc_journal.proofs.CallSteps.{calls_within}
use Rattle.cc_journal.proofs.journal.Journal.next_call.Goals as goal

pub overflow_add-result : goal.overflow_add-result
overflow_add-result g c =
    let past : List Entry = c.self.inside.entries.past in
    omega (
      arith,
      c.of.ensures,
      c.self.invariant.0.calls.count c.args.pass,
      calls_within past c.args.pass,
      c.self.invariant.1.within,
      c.self.invariant.1.countable,
      c.requires,
      ap (λ j. j.reserved) c.self.view_is,
    )
