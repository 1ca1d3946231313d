-- What was at home stands for the last journal, and nobody else went on; no transfer of the stream is under way.
use Rattle.std.proofs.Common.{◌≡◌, ◌<◌, ◌-◌, ◌^◌, suc, min, arith, length, refl, sym, subst, ap, ◌∙◌}
use Rattle.cc_turns.specs.Held.{untold_of_disk}
use Rattle.cc_turns.specs.Takes.{with_device}
use Rattle.cc_turns.specs.Desk.{standing_of}
use Rattle.cc_turns.proofs.DeskSteps.{found, device_taken, takes_alone, seen_good}
use Rattle.cc_turns.proofs.HeldSteps.{disk_stands, disk_told}
use Rattle.cc_turns.proofs.desk.DeskTurns.take_device.Goals as goal

pub invariant_of-self : goal.invariant_of-self
invariant_of-self g c = (
  device_taken _ _ _ _ _ _ c.from.result c.args.stream _ c.take.new.self _ (c.from.ensures ∙ c.number.ensures.same) c.take.ensures.after
      (subst (λ d. c.args.stream < length d.begun.disks) (sym c.self.view_is) c.requires.known)
      (ap (λ d. d.held.device) c.self.view_is ∙ ap (λ held. held.device) c.requires.free) c.self.invariant.0,
  c.self.invariant.1,
  c.self.invariant.2,
)

pub returns-clause-took : goal.returns-clause-took
returns-clause-took g c =
    let turns : c.saturating_add-self-inside.result ≡ min (suc c.self.inside.device_turns) (2 ^ 64 - 1) = omega (arith, c.saturating_add-self-inside.ensures) in
    let counted : c.self.inside.device_turns ≡ c.args.self.now.device_turns = ap (λ d. d.device_turns) c.self.view_is in
    takes_alone (with_device c.args.stream) _ _
    (ap (λ d. record (with_device c.args.stream (standing_of g.D.Told.told g.D.Told.faults g.L.LogFile.told g.L.LogFile.faults d)) { device_turns = c.saturating_add-self-inside.result }) c.self.view_is
    ∙ ap (λ n. record (with_device c.args.stream (standing_of g.D.Told.told g.D.Told.faults g.L.LogFile.told g.L.LogFile.faults c.args.self.now)) { device_turns = n }) (turns ∙ ap (λ n. min (suc n) (2 ^ 64 - 1)) counted))
    refl (seen_good _ _ _ _ _ _ _ c.self.view_is c.self.invariant.0)

pub returns-clause-stands : goal.returns-clause-stands
returns-clause-stands g c =
    disk_stands g.D.Told.told g.D.Told.faults _ _ c.args.stream c.unwrap-disk.result c.new.result c.new.ensures.disk
    (c.new.ensures.untold
    ∙ ap (λ d. untold_of_disk (standing_of g.D.Told.told g.D.Told.faults g.L.LogFile.told g.L.LogFile.faults d) c.args.stream (g.D.Told.faults c.unwrap-disk.result)) (c.of-at_take.ensures ∙ sym c.self.view_is))
    (found _ _ _ c.from.result c.args.stream c.index_mut.result.now c.take.result c.unwrap-disk.result c.self.invariant.0.disks_are
    (c.from.ensures ∙ c.number.ensures.same) (subst (λ d. c.args.stream < length d.begun.disks) (sym c.self.view_is) c.requires.known)
    c.index_mut.ensures.value c.take.ensures.value c.unwrap-disk.ensures).stands

pub returns-clause-counted : goal.returns-clause-counted
returns-clause-counted g c =
    disk_told g.D.Told.told g.D.Told.faults _ _ c.args.stream c.unwrap-disk.result c.new.result c.new.ensures.disk
    (c.new.ensures.untold
    ∙ ap (λ d. untold_of_disk (standing_of g.D.Told.told g.D.Told.faults g.L.LogFile.told g.L.LogFile.faults d) c.args.stream (g.D.Told.faults c.unwrap-disk.result)) (c.of-at_take.ensures ∙ sym c.self.view_is))
    (found _ _ _ c.from.result c.args.stream c.index_mut.result.now c.take.result c.unwrap-disk.result c.self.invariant.0.disks_are
    (c.from.ensures ∙ c.number.ensures.same) (subst (λ d. c.args.stream < length d.begun.disks) (sym c.self.view_is) c.requires.known)
    c.index_mut.ensures.value c.take.ensures.value c.unwrap-disk.ensures).stands

pub returns-clause-at_rest : goal.returns-clause-at_rest
returns-clause-at_rest g c =
    (found _ _ _ c.from.result c.args.stream c.index_mut.result.now c.take.result c.unwrap-disk.result c.self.invariant.0.disks_are
    (c.from.ensures ∙ c.number.ensures.same) (subst (λ d. c.args.stream < length d.begun.disks) (sym c.self.view_is) c.requires.known)
    c.index_mut.ensures.value c.take.ensures.value c.unwrap-disk.ensures).at_rest
