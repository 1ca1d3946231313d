use Rattle.std.proofs.Common.{sym, subst}
use Rattle.cc_turns.specs.Journal.{JournalStands}
use Rattle.cc_turns.specs.Takes.{AddsEvent, without_journal}
use Rattle.cc_turns.specs.Desk.{standing_of}
use Rattle.cc_turns.proofs.DeskSteps.{journal_given, journal_back}
use Rattle.cc_turns.proofs.desk.DeskTurns.give_journal.Goals as goal

pub invariant_of-self : goal.invariant_of-self
invariant_of-self g c = (
  journal_given _ _ _ _ _ _ c.args.journal c.of.result.value c.of.ensures c.note_capacity.ensures
      (subst (λ d. AddsEvent (standing_of g.D.Told.told g.D.Told.faults g.L.LogFile.told g.L.LogFile.faults d) c.args.journal.entries) (sym c.self.view_is) c.requires.adds)
      (subst (λ d. JournalStands g.Q.PostRoutine.posted (without_journal c.args.journal (standing_of g.D.Told.told g.D.Told.faults g.L.LogFile.told g.L.LogFile.faults d)) c.args.journal) (sym c.self.view_is) c.requires.stands)
      c.self.invariant.0,
  c.self.invariant.1,
  c.self.invariant.2,
)

pub returns : goal.returns
returns g c = journal_back g.D.Told.told g.D.Told.faults g.L.LogFile.told g.L.LogFile.faults _ _ c.args.journal c.of.result.value c.self.view_is c.of.ensures
