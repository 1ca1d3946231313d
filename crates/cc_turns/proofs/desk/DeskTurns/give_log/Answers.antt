-- The place is the one that the held log came from; with it back the rows stand, and no log is held.
use Rattle.std.proofs.Common.{◌<◌, length, refl, sym, subst, ap, ◌∙◌, arith}
use Rattle.std.specs.declared.option.Option.TheVariants.{Some}
use Rattle.std.specs.Prelude.{slice_get}
use Rattle.cc_turns.specs.Log.{LogStands}
use Rattle.cc_turns.specs.Desk.{log_at_first, standing_of}
use Rattle.cc_turns.specs.Takes.{without_log}
use Rattle.cc_turns.proofs.DeskSteps.{held_within, log_given}
use Rattle.cc_turns.proofs.desk.DeskTurns.give_log.Goals as goal

pub index_mut-requires : goal.index_mut-requires
index_mut-requires g c =
    let within : c.args.handle < length c.self.inside.logs.items =
    held_within _ _ _ c.args.handle c.self.invariant.0.logs_are (ap (λ d. d.held.log) c.self.view_is ∙ c.requires.held) in
    omega (arith, c.from.ensures, c.self.inside.logs.ok.0, within)

pub invariant_of-self : goal.invariant_of-self
invariant_of-self g c = (
  log_given _ _ _ _ _ _ c.from.result c.args.handle (Some c.args.log) c.args.log _ c.from.ensures refl
      (ap (λ d. d.held.log) c.self.view_is ∙ c.requires.held)
      (record { handle_is = c.requires.handle; stands = subst (λ d. LogStands g.L.LogFile.told g.L.LogFile.faults (log_at_first g.L.LogFile.told g.L.LogFile.faults (slice_get d.begun.logs c.args.handle)) d.last.entries c.args.log) (sym c.self.view_is) c.requires.stands }) c.self.invariant.0,
  c.self.invariant.1,
  c.self.invariant.2,
)

pub returns : goal.returns
returns g c =
    ap (λ d. without_log (standing_of g.D.Told.told g.D.Told.faults g.L.LogFile.told g.L.LogFile.faults d)) c.self.view_is
