-- A deferral hands its routine back; any other event is refused.
use Rattle.std.specs.Prelude.{[], length}
use Rattle.std.proofs.Common.{subst, sym}
use Rattle.cc_entry.specs.declared.error.CcError.TheVariants as error
use Rattle.cc_effects.specs.Events.{IsKnown, IsWanting}
use Rattle.cc_effects.specs.declared.events.StepReply.TheVariants as step
use Rattle.cc_turns.specs.Desk.{tells_of}
use Rattle.cc_world.proofs.Wanting.{kept-left, no-deferral, refused-left}
use Rattle.cc_world.specs.World.{WorldEventLeft}
use Rattle.cc_world.proofs.machine.Machine.refuse.Goals as goal

pub returns-in-Defer : goal.returns-in-Defer
returns-in-Defer g c =
    let w = c.args.self.now in
    let it = c.in-Defer in
    subst (λ e. WorldEventLeft (tells_of g.D.Told.told g.D.Told.faults g.L.LogFile.told g.L.LogFile.faults g.Q.PostRoutine.posted) e (step.Kept it.routine error.NoMemory) w w) (sym it.is)
    (kept-left _ w c.stands.ensures it.pass it.file it.bytes it.retrying it.routine (subst (λ e. IsKnown (length w.begun.disks) e) it.is c.requires.known) (subst (λ e. IsWanting w.journal.entries e []) it.is c.requires.wanting))

pub returns : goal.returns
returns g c =
    let w = c.args.self.now in
    refused-left _ w c.stands.ensures c.args.event (no-deferral _ w c.stands.ensures c.args.event c.in_default.not-Defer) c.requires.known c.requires.wanting
