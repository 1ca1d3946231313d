-- The row of the page's stream stands, so the page comes in on it; with what that leaves of it the World stands.
use Rattle.std.proofs.Common.{◌<◌, ℕ, ap, length, sym, ◌∙◌, subst, arith}
use Rattle.cc_turns.specs.Desk.{tells_of}
use Rattle.std.specs.Prelude.{slice_set}
use Rattle.cc_effects.specs.Events.{OnStream}
use Rattle.cc_world.specs.World.{WorldEventLeft, world_of}
use Rattle.cc_effects.specs.declared.events.Event.TheVariants as event
use Rattle.cc_world.proofs.Steps.{read-there, row-stands, row-stream, stepped}
use Rattle.cc_world.proofs.machine.Machine.fill.Goals as goal

pub index_mut-row-requires : goal.index_mut-row-requires
index_mut-row-requires g c =
    let known : c.args.page.stream < length c.self.inside.begun.value.disks.items = subst (λ w. c.args.page.stream < length w.begun.disks) (sym c.self.view_is) c.requires in
    omega (arith, c.from.ensures, c.number.ensures.same, c.self.inside.rows.ok.0, c.self.invariant.0.rows.counted, known)

pub fill-reply-requires-clause-stream : goal.fill-reply-requires-clause-stream
fill-reply-requires-clause-stream g c =
    let known : c.args.page.stream < length c.self.inside.begun.value.disks.items = subst (λ w. c.args.page.stream < length w.begun.disks) (sym c.self.view_is) c.requires in
    let within : c.from.result < length c.self.inside.rows.items = omega (arith, c.from.ensures, c.number.ensures.same, c.self.invariant.0.rows.counted, known) in
    let there = read-there c.self.inside.rows.items c.from.result c.index_mut-row.result.now within c.index_mut-row.ensures.value in
    sym (row-stream _ _ c.self.invariant.0 c.from.result c.index_mut-row.result.now there ∙ (c.from.ensures ∙ (c.number.ensures.same ∙ c.stream.ensures)))

pub fill-reply-requires-clause-standing : goal.fill-reply-requires-clause-standing
fill-reply-requires-clause-standing g c =
    let known : c.args.page.stream < length c.self.inside.begun.value.disks.items = subst (λ w. c.args.page.stream < length w.begun.disks) (sym c.self.view_is) c.requires in
    let within : c.from.result < length c.self.inside.rows.items = omega (arith, c.from.ensures, c.number.ensures.same, c.self.invariant.0.rows.counted, known) in
    let there = read-there c.self.inside.rows.items c.from.result c.index_mut-row.result.now within c.index_mut-row.ensures.value in
    (_, _, row-stands _ _ c.self.invariant.0 c.from.result c.index_mut-row.result.now there)

pub invariant_of-self : goal.invariant_of-self
invariant_of-self g c =
    let known : c.args.page.stream < length c.self.inside.begun.value.disks.items = subst (λ w. c.args.page.stream < length w.begun.disks) (sym c.self.view_is) c.requires in
    let within : c.from.result < length c.self.inside.rows.items = omega (arith, c.from.ensures, c.number.ensures.same, c.self.invariant.0.rows.counted, known) in
    let there = read-there c.self.inside.rows.items c.from.result c.index_mut-row.result.now within c.index_mut-row.ensures.value in
    let both = stepped _ _ c.self.invariant.0 c.from.result c.index_mut-row.result.now there (event.Fill c.args.pass c.args.page) c.fill-reply.result c.fill-reply.new.self c.fill-reply.new.journal c.note_capacity.ensures (ap (λ (n : ℕ). OnStream n) (sym (c.from.ensures ∙ (c.number.ensures.same ∙ c.stream.ensures))))
    (c.fill-reply.ensures.left _ _ (row-stands _ _ c.self.invariant.0 c.from.result c.index_mut-row.result.now there)) in
    (both.0, c.self.invariant.1, c.self.invariant.2)

pub returns : goal.returns
returns g c =
    let known : c.args.page.stream < length c.self.inside.begun.value.disks.items = subst (λ w. c.args.page.stream < length w.begun.disks) (sym c.self.view_is) c.requires in
    let within : c.from.result < length c.self.inside.rows.items = omega (arith, c.from.ensures, c.number.ensures.same, c.self.invariant.0.rows.counted, known) in
    let there = read-there c.self.inside.rows.items c.from.result c.index_mut-row.result.now within c.index_mut-row.ensures.value in
    let both = stepped _ _ c.self.invariant.0 c.from.result c.index_mut-row.result.now there (event.Fill c.args.pass c.args.page) c.fill-reply.result c.fill-reply.new.self c.fill-reply.new.journal c.note_capacity.ensures (ap (λ (n : ℕ). OnStream n) (sym (c.from.ensures ∙ (c.number.ensures.same ∙ c.stream.ensures))))
    (c.fill-reply.ensures.left _ _ (row-stands _ _ c.self.invariant.0 c.from.result c.index_mut-row.result.now there)) in
    subst (λ w. WorldEventLeft (tells_of g.D.Told.told g.D.Told.faults g.L.LogFile.told g.L.LogFile.faults g.Q.PostRoutine.posted) (event.Fill c.args.pass c.args.page) c.fill-reply.result w
    (world_of c.self.inside.begun.value (slice_set c.self.inside.rows.items c.from.result c.fill-reply.new.self) c.self.inside.logs.items c.fill-reply.new.journal)) c.self.view_is both.1
