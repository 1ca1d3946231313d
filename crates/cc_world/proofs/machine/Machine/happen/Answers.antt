-- Of scans and posts, which happen to the journal alone; every other event is its own function's.
use Rattle.std.specs.Prelude.{refl}
use Rattle.std.proofs.Common.{sym, subst}
use Rattle.cc_turns.specs.Desk.{tells_of}
use Rattle.cc_world.specs.World.{WorldEventLeft, world_of}
use Rattle.cc_effects.specs.declared.events.Event.TheVariants as event
use Rattle.cc_world.proofs.JournalSteps.{journal-stands, journal-stepped}
use Rattle.cc_world.proofs.machine.Machine.happen.Goals as goal

pub invariant_of-self : goal.invariant_of-self
invariant_of-self g c =
    let both = journal-stepped _ _ c.self.invariant.0 (event.Scan c.in-Scan.pass) c.scan-reply.result c.scan-reply.new.journal c.note_capacity.ensures refl
    (c.scan-reply.ensures _ (journal-stands _ _ c.self.invariant.0)) in
    (both.0, c.self.invariant.1, c.self.invariant.2)

pub invariant_of-self-in-Post : goal.invariant_of-self-in-Post
invariant_of-self-in-Post g c =
    let both = journal-stepped _ _ c.self-in-Post.invariant.0 (event.Post c.in-Post.pass) c.post-reply.result c.post-reply.new.journal c.note_capacity-in-Post.ensures refl
    (c.post-reply.ensures _ (journal-stands _ _ c.self-in-Post.invariant.0)) in
    (both.0, c.self-in-Post.invariant.1, c.self-in-Post.invariant.2)

pub returns-in-Scan : goal.returns-in-Scan
returns-in-Scan g c =
    let both = journal-stepped _ _ c.self.invariant.0 (event.Scan c.in-Scan.pass) c.scan-reply.result c.scan-reply.new.journal c.note_capacity.ensures refl
    (c.scan-reply.ensures _ (journal-stands _ _ c.self.invariant.0)) in
    subst (λ it. WorldEventLeft (tells_of g.D.Told.told g.D.Told.faults g.L.LogFile.told g.L.LogFile.faults g.Q.PostRoutine.posted) it c.scan-reply.result c.args.self.now
    (world_of c.self.inside.begun.value c.self.inside.rows.items c.self.inside.logs.items c.scan-reply.new.journal)) (sym c.in-Scan.is)
    (subst (λ w. WorldEventLeft (tells_of g.D.Told.told g.D.Told.faults g.L.LogFile.told g.L.LogFile.faults g.Q.PostRoutine.posted) (event.Scan c.in-Scan.pass) c.scan-reply.result w
    (world_of c.self.inside.begun.value c.self.inside.rows.items c.self.inside.logs.items c.scan-reply.new.journal)) c.self.view_is both.1)

pub returns-in-Post : goal.returns-in-Post
returns-in-Post g c =
    let both = journal-stepped _ _ c.self-in-Post.invariant.0 (event.Post c.in-Post.pass) c.post-reply.result c.post-reply.new.journal c.note_capacity-in-Post.ensures refl
    (c.post-reply.ensures _ (journal-stands _ _ c.self-in-Post.invariant.0)) in
    subst (λ it. WorldEventLeft (tells_of g.D.Told.told g.D.Told.faults g.L.LogFile.told g.L.LogFile.faults g.Q.PostRoutine.posted) it c.post-reply.result c.args.self.now
    (world_of c.self-in-Post.inside.begun.value c.self-in-Post.inside.rows.items c.self-in-Post.inside.logs.items c.post-reply.new.journal)) (sym c.in-Post.is)
    (subst (λ w. WorldEventLeft (tells_of g.D.Told.told g.D.Told.faults g.L.LogFile.told g.L.LogFile.faults g.Q.PostRoutine.posted) (event.Post c.in-Post.pass) c.post-reply.result w
    (world_of c.self-in-Post.inside.begun.value c.self-in-Post.inside.rows.items c.self-in-Post.inside.logs.items c.post-reply.new.journal)) c.self-in-Post.view_is both.1)
