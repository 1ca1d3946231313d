use Rattle.std.proofs.Common.{ap, ◌∙◌}
use Rattle.cc_turns.proofs.Taking.{adds_nothing}
use Rattle.cc_writes.proofs.log.give_back.Goals as goal

pub give_journal-requires-clause-adds : goal.give_journal-requires-clause-adds
give_journal-requires-clause-adds g c =
    adds_nothing (g.T.Turns.standing c.take_journal-journal.new.self) c.release.new.self.entries
    (ap (λ j. j.entries) c.release.ensures ∙ c.take_journal-journal.ensures.stands.entries_are)
