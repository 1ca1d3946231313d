use Rattle.std.proofs.Common.{refl, ap, ◌∙◌}
use Rattle.cc_turns.specs.Takes.{with_journal}
use Rattle.cc_turns.specs.Desk.{standing_of}
use Rattle.cc_turns.proofs.DeskSteps.{journal_found, journal_taken, takes_alone, seen_good}
use Rattle.cc_turns.proofs.desk.DeskTurns.take_journal.Goals as goal

pub invariant_of-self : goal.invariant_of-self
invariant_of-self g c =
    (journal_taken _ _ _ _ _ _ c.take.new.self c.take.ensures.after c.self.invariant.0, c.self.invariant.1, c.self.invariant.2)

pub returns-clause-took : goal.returns-clause-took
returns-clause-took g c = takes_alone with_journal _ _
    (ap (λ d. with_journal (standing_of g.D.Told.told g.D.Told.faults g.L.LogFile.told g.L.LogFile.faults d)) c.self.view_is) refl
    (seen_good _ _ _ _ _ _ _ c.self.view_is c.self.invariant.0)

pub returns-clause-stands : goal.returns-clause-stands
returns-clause-stands g c =
    journal_found _ _ _ _ _ _ c.take.result c.unwrap-journal.result (ap (λ d. d.held.journal) c.self.view_is ∙ c.requires.free)
    c.take.ensures.value c.unwrap-journal.ensures c.self.invariant.0
