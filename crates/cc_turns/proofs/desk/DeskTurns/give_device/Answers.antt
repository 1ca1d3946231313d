-- The place is the one that the held disk came from, and empty; with it back the rows stand, and no disk is held.
use Rattle.std.proofs.Common.{◌≡◌, ◌<◌, length, sym, subst, ap, ◌∙◌, arith}
use Rattle.std.specs.Prelude.{slice_get, None}
use Rattle.cc_model.specs.History.{history}
use Rattle.cc_model.specs.Images.{open_of}
use Rattle.cc_turns.specs.Disk.{DiskStands}
use Rattle.cc_turns.specs.Desk.{disk_at_first, standing_of}
use Rattle.cc_turns.specs.Held.{held_told, held_faults}
use Rattle.cc_turns.specs.Takes.{without_device}
use Rattle.cc_turns.proofs.DeskSteps.{held_within, held_is_out, no_thing, device_given}
use Rattle.cc_turns.proofs.HeldSteps.{disk_back}
use Rattle.cc_turns.proofs.desk.DeskTurns.give_device.Goals as goal

pub index_mut-requires : goal.index_mut-requires
index_mut-requires g c =
    let within : c.args.stream < length c.self.inside.disks.items =
    held_within _ _ _ c.args.stream c.self.invariant.0.disks_are (ap (λ d. d.held.device) c.self.view_is ∙ ap (λ held. held.device) c.requires.held) in
    omega (arith, c.from.ensures, c.number.ensures.same, c.self.inside.disks.ok.0, within)

pub invariant_of-self : goal.invariant_of-self
invariant_of-self g c = (
  device_given _ _ _ _ _ _ c.from.result c.args.stream c.replace.new.self c.into_disk.result _ (c.from.ensures ∙ c.number.ensures.same) c.replace.ensures.after
      (ap (λ d. d.held.device) c.self.view_is ∙ ap (λ held. held.device) c.requires.held)
      (record { stands = disk_back g.D.Told.told g.D.Told.faults _ _ c.args.stream c.into_disk.result c.args.disk c.into_disk.ensures (subst (λ d. DiskStands (held_told g.D.Told.told) (held_faults g.D.Told.faults) (disk_at_first g.D.Told.told g.D.Told.faults (slice_get d.begun.disks c.args.stream)) d.last.entries c.args.stream c.args.disk) (sym c.self.view_is) c.requires.stands); at_rest = subst (λ d. open_of (history d.last.entries c.args.stream) ≡ None) (sym c.self.view_is) c.requires.at_rest }) c.self.invariant.0,
  c.self.invariant.1,
  c.self.invariant.2,
)

pub unreachable-requires : goal.unreachable-requires
unreachable-requires g c =
    no_thing c.replace.result c.index_mut.result.now _ c.replace.ensures.value c.in-Some.is
    (held_is_out _ _ _ c.from.result c.args.stream c.index_mut.result.now c.self.invariant.0.disks_are (c.from.ensures ∙ c.number.ensures.same)
    (ap (λ d. d.held.device) c.self.view_is ∙ ap (λ held. held.device) c.requires.held) c.index_mut.ensures.value)

pub returns : goal.returns
returns g c =
    ap (λ d. without_device (standing_of g.D.Told.told g.D.Told.faults g.L.LogFile.told g.L.LogFile.faults d)) c.self.view_is
