use Rattle.std.proofs.Common.{length, ap, arith}
use Rattle.cc_journal.proofs.journal.Journal.note_capacity.Goals as goal

pub returns : goal.returns
returns g c =
    omega (
      arith,
      c.self.invariant.1.within,
      ap (λ j. length j.entries) c.self.view_is,
      ap (λ j. j.reserved) c.self.view_is,
      ap (λ j. j.capacity) c.self.view_is,
    )
