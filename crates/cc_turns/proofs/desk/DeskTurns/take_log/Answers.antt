-- What was at home stands for the last journal, and nobody else went on; so the log taken stands for what is seen.
use Rattle.std.proofs.Common.{◌<◌, length, refl, sym, subst, ap, ◌∙◌}
use Rattle.cc_turns.specs.Takes.{with_log}
use Rattle.cc_turns.specs.Desk.{standing_of}
use Rattle.cc_turns.proofs.DeskSteps.{found, log_taken, takes_alone, seen_good}
use Rattle.cc_turns.proofs.desk.DeskTurns.take_log.Goals as goal

pub invariant_of-self : goal.invariant_of-self
invariant_of-self g c = (
  log_taken _ _ _ _ _ _ c.from.result c.args.handle c.take.new.self _ c.from.ensures c.take.ensures.after
      (subst (λ d. c.args.handle < length d.begun.logs) (sym c.self.view_is) c.requires.known)
      (ap (λ d. d.held.log) c.self.view_is ∙ c.requires.no_log) c.self.invariant.0,
  c.self.invariant.1,
  c.self.invariant.2,
)

pub returns-clause-took : goal.returns-clause-took
returns-clause-took g c = takes_alone (with_log c.args.handle) _ _
    (ap (λ d. with_log c.args.handle (standing_of g.D.Told.told g.D.Told.faults g.L.LogFile.told g.L.LogFile.faults d)) c.self.view_is) refl
    (seen_good _ _ _ _ _ _ _ c.self.view_is c.self.invariant.0)

pub returns-clause-handle : goal.returns-clause-handle
returns-clause-handle g c =
    (found _ _ _ c.from.result c.args.handle c.index_mut.result.now c.take.result c.unwrap-log.result c.self.invariant.0.logs_are
    c.from.ensures (subst (λ d. c.args.handle < length d.begun.logs) (sym c.self.view_is) c.requires.known)
    c.index_mut.ensures.value c.take.ensures.value c.unwrap-log.ensures).handle_is

pub returns-clause-stands : goal.returns-clause-stands
returns-clause-stands g c =
    (found _ _ _ c.from.result c.args.handle c.index_mut.result.now c.take.result c.unwrap-log.result c.self.invariant.0.logs_are
    c.from.ensures (subst (λ d. c.args.handle < length d.begun.logs) (sym c.self.view_is) c.requires.known)
    c.index_mut.ensures.value c.take.ensures.value c.unwrap-log.ensures).stands
