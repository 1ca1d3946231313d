-- The book of the file's stream is that of a row, and what the journal is left with the World is left with.
use Rattle.std.specs.Prelude.{◌<◌, length, refl}
use Rattle.std.proofs.Common.{sym, subst, ◌∙◌, arith}
use Rattle.cc_turns.specs.Desk.{tells_of}
use Rattle.cc_world.specs.World.{WorldEventLeft, world_of}
use Rattle.cc_effects.specs.declared.events.Event.TheVariants as event
use Rattle.cc_world.proofs.JournalSteps.{are-books, journal-stands, journal-stepped}
use Rattle.cc_world.proofs.Steps.{read-there, row-stream}
use Rattle.cc_world.proofs.machine.Machine.defer.Goals as goal

pub defer-reply-requires-clause-stream : goal.defer-reply-requires-clause-stream
defer-reply-requires-clause-stream g c =
    let known : c.args.file.stream < length c.self.inside.begun.value.disks.items = subst (λ w. c.args.file.stream < length w.begun.disks) (sym c.self.view_is) c.requires.stream in
    let within : c.from.result < length c.self.inside.rows.items = omega (arith, c.from.ensures, c.number.ensures.same, c.stream.ensures, c.self.invariant.0.rows.counted, known) in
    let there = read-there c.self.inside.rows.items c.from.result c.index-row.result.now within c.index-row.ensures in
    sym (row-stream _ _ c.self.invariant.0 c.from.result c.index-row.result.now there ∙ (c.from.ensures ∙ (c.number.ensures.same ∙ c.stream.ensures)))

pub defer-reply-requires-clause-book : goal.defer-reply-requires-clause-book
defer-reply-requires-clause-book g c =
    let known : c.args.file.stream < length c.self.inside.begun.value.disks.items = subst (λ w. c.args.file.stream < length w.begun.disks) (sym c.self.view_is) c.requires.stream in
    let within : c.from.result < length c.self.inside.rows.items = omega (arith, c.from.ensures, c.number.ensures.same, c.stream.ensures, c.self.invariant.0.rows.counted, known) in
    let there = read-there c.self.inside.rows.items c.from.result c.index-row.result.now within c.index-row.ensures in
    let books = are-books _ _ c.self.invariant.0 in
    books.stands c.from.result c.index-row.result.now there

pub invariant_of-self : goal.invariant_of-self
invariant_of-self g c =
    let both = journal-stepped _ _ c.self.invariant.0 (event.Defer c.args.pass c.args.file c.args.bytes c.args.retrying c.args.routine) c.defer-reply.result c.defer-reply.new.journal c.note_capacity.ensures refl
    (c.defer-reply.ensures _ (journal-stands _ _ c.self.invariant.0)) in
    (both.0, c.self.invariant.1, c.self.invariant.2)

pub returns : goal.returns
returns g c =
    let both = journal-stepped _ _ c.self.invariant.0 (event.Defer c.args.pass c.args.file c.args.bytes c.args.retrying c.args.routine) c.defer-reply.result c.defer-reply.new.journal c.note_capacity.ensures refl
    (c.defer-reply.ensures _ (journal-stands _ _ c.self.invariant.0)) in
    subst (λ w. WorldEventLeft (tells_of g.D.Told.told g.D.Told.faults g.L.LogFile.told g.L.LogFile.faults g.Q.PostRoutine.posted) (event.Defer c.args.pass c.args.file c.args.bytes c.args.retrying c.args.routine) c.defer-reply.result w
    (world_of c.self.inside.begun.value c.self.inside.rows.items c.self.inside.logs.items c.defer-reply.new.journal)) c.self.view_is both.1
