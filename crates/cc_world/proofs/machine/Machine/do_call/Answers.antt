-- By where the call is filed: it happens on the row of its stream, or to the journal alone; one that names a hold that is
-- open nowhere may not be made.
use Rattle.std.specs.Prelude.{ℕ, ◌<◌, Some, length, slice_set, refl}
use Rattle.std.proofs.Common.{ap, sym, subst, ◌∙◌, arith}
use Rattle.cc_model.specs.Acts.{file_of}
use Rattle.cc_turns.specs.Desk.{tells_of}
use Rattle.cc_world.specs.Pages.{AreFlushed}
use Rattle.cc_effects.specs.Events.{MayHappen, NamesOf}
use Rattle.cc_world.specs.Notes.{NotesStand}
use Rattle.cc_world.specs.World.{WorldEventLeft, world_of}
use Rattle.cc_effects.specs.declared.events.Event.TheVariants as event
use Rattle.cc_world.proofs.FiledUnder.{books-there, not-done, on-journal, on-stream, row-there}
use Rattle.cc_world.proofs.JournalSteps.{journal-stands, journal-stepped}
use Rattle.cc_world.proofs.Steps.{read-there, row-flushed, row-stands, row-stream, stepped}
use Rattle.cc_world.proofs.machine.Machine.do_call.Goals as goal
use Rattle.cc_turns.specs.Slots.{setup_in}

pub index_mut-row-requires : goal.index_mut-row-requires
index_mut-row-requires g c =
    let inv = c.self.invariant.0 in
    let names = subst (λ w. NamesOf (length w.begun.disks) (file_of c.args.call)) (sym c.self.view_is) c.requires.names in
    let under = c.in-Stream.ensures c.self.inside.journal.entries (books-there _ _ inv c.deref.result.now c.deref.ensures.value) in
    let known : c.in-Stream.stream < length c.self.inside.rows.items = row-there _ _ inv c.deref.result.now c.deref.ensures.value c.args.call c.in-Stream.stream names under in
    omega (arith, c.from.ensures, c.number.ensures.same, c.self.inside.rows.ok.0, known)

pub do_call-reply-requires-clause-filed : goal.do_call-reply-requires-clause-filed
do_call-reply-requires-clause-filed g c =
    let inv = c.self.invariant.0 in
    let names = subst (λ w. NamesOf (length w.begun.disks) (file_of c.args.call)) (sym c.self.view_is) c.requires.names in
    let under = c.in-Stream.ensures c.self.inside.journal.entries (books-there _ _ inv c.deref.result.now c.deref.ensures.value) in
    let known : c.in-Stream.stream < length c.self.inside.rows.items = row-there _ _ inv c.deref.result.now c.deref.ensures.value c.args.call c.in-Stream.stream names under in
    let within : c.from.result < length c.self.inside.rows.items = omega (arith, c.from.ensures, c.number.ensures.same, known) in
    let there = read-there c.self.inside.rows.items c.from.result c.index_mut-row.result.now within c.index_mut-row.ensures.value in
    under.0 ∙ ap (λ (n : ℕ). Some n) (sym (row-stream _ _ inv c.from.result c.index_mut-row.result.now there ∙ (c.from.ensures ∙ c.number.ensures.same)))

pub do_call-reply-requires-clause-standing : goal.do_call-reply-requires-clause-standing
do_call-reply-requires-clause-standing g c =
    let inv = c.self.invariant.0 in
    let names = subst (λ w. NamesOf (length w.begun.disks) (file_of c.args.call)) (sym c.self.view_is) c.requires.names in
    let under = c.in-Stream.ensures c.self.inside.journal.entries (books-there _ _ inv c.deref.result.now c.deref.ensures.value) in
    let known : c.in-Stream.stream < length c.self.inside.rows.items = row-there _ _ inv c.deref.result.now c.deref.ensures.value c.args.call c.in-Stream.stream names under in
    let within : c.from.result < length c.self.inside.rows.items = omega (arith, c.from.ensures, c.number.ensures.same, known) in
    let there = read-there c.self.inside.rows.items c.from.result c.index_mut-row.result.now within c.index_mut-row.ensures.value in
    (_, _, row-stands _ _ inv c.from.result c.index_mut-row.result.now there)

pub do_call-reply-requires-clause-logs : goal.do_call-reply-requires-clause-logs
do_call-reply-requires-clause-logs g c =
    let inv = c.self.invariant.0 in
    let names = subst (λ w. NamesOf (length w.begun.disks) (file_of c.args.call)) (sym c.self.view_is) c.requires.names in
    let under = c.in-Stream.ensures c.self.inside.journal.entries (books-there _ _ inv c.deref.result.now c.deref.ensures.value) in
    let known : c.in-Stream.stream < length c.self.inside.rows.items = row-there _ _ inv c.deref.result.now c.deref.ensures.value c.args.call c.in-Stream.stream names under in
    let within : c.from.result < length c.self.inside.rows.items = omega (arith, c.from.ensures, c.number.ensures.same, known) in
    let there = read-there c.self.inside.rows.items c.from.result c.index_mut-row.result.now within c.index_mut-row.ensures.value in
    subst (λ logs. AreFlushed c.index_mut-row.result.now.book.stream c.self.inside.journal.entries logs) (sym c.deref-in-Stream.ensures.value)
    (row-flushed _ _ inv c.from.result c.index_mut-row.result.now there)

pub do_call-reply-requires-clause-notes : goal.do_call-reply-requires-clause-notes
do_call-reply-requires-clause-notes g c = subst (λ w. NotesStand w.journal.entries c.args.notes.now) (sym c.self.view_is) c.requires.notes

pub invariant_of-self : goal.invariant_of-self
invariant_of-self g c =
    let inv = c.self.invariant.0 in
    let names = subst (λ w. NamesOf (length w.begun.disks) (file_of c.args.call)) (sym c.self.view_is) c.requires.names in
    let under = c.in-Stream.ensures c.self.inside.journal.entries (books-there _ _ inv c.deref.result.now c.deref.ensures.value) in
    let known : c.in-Stream.stream < length c.self.inside.rows.items = row-there _ _ inv c.deref.result.now c.deref.ensures.value c.args.call c.in-Stream.stream names under in
    let within : c.from.result < length c.self.inside.rows.items = omega (arith, c.from.ensures, c.number.ensures.same, known) in
    let there = read-there c.self.inside.rows.items c.from.result c.index_mut-row.result.now within c.index_mut-row.ensures.value in
    let at = on-stream c.self.inside.journal.entries c.args.call c.in-Stream.stream c.from.result under.0 (sym (c.from.ensures ∙ c.number.ensures.same)) in
    let both = stepped _ _ inv c.from.result c.index_mut-row.result.now there (event.Do c.args.pass c.args.call) c.do_call-reply.result c.do_call-reply.new.self c.do_call-reply.new.journal c.note_capacity.ensures at
    (c.do_call-reply.ensures _ _ (row-stands _ _ inv c.from.result c.index_mut-row.result.now there)) in
    (both.0, c.self.invariant.1, c.self.invariant.2)

pub do_unfiled-reply-requires-clause-unfiled : goal.do_unfiled-reply-requires-clause-unfiled
do_unfiled-reply-requires-clause-unfiled g c =
    let under = c.in-Journal.ensures c.self.inside.journal.entries (books-there _ _ c.self.invariant.0 c.deref.result.now c.deref.ensures.value) in
    under.1

pub invariant_of-self-in-Journal : goal.invariant_of-self-in-Journal
invariant_of-self-in-Journal g c =
    let inv = c.self.invariant.0 in
    let under = c.in-Journal.ensures c.self.inside.journal.entries (books-there _ _ inv c.deref.result.now c.deref.ensures.value) in
    let both = journal-stepped _ _ inv (event.Do c.args.pass c.args.call) c.do_unfiled-reply.result c.do_unfiled-reply.new.journal c.note_capacity-in-Journal.ensures (on-journal c.self.inside.journal.entries c.args.call under.0)
    (c.do_unfiled-reply.ensures _ (journal-stands _ _ inv)) in
    (both.0, c.self.invariant.1, c.self.invariant.2)

pub returns-in-Stream : goal.returns-in-Stream
returns-in-Stream g c =
    let inv = c.self.invariant.0 in
    let names = subst (λ w. NamesOf (length w.begun.disks) (file_of c.args.call)) (sym c.self.view_is) c.requires.names in
    let under = c.in-Stream.ensures c.self.inside.journal.entries (books-there _ _ inv c.deref.result.now c.deref.ensures.value) in
    let known : c.in-Stream.stream < length c.self.inside.rows.items = row-there _ _ inv c.deref.result.now c.deref.ensures.value c.args.call c.in-Stream.stream names under in
    let within : c.from.result < length c.self.inside.rows.items = omega (arith, c.from.ensures, c.number.ensures.same, known) in
    let there = read-there c.self.inside.rows.items c.from.result c.index_mut-row.result.now within c.index_mut-row.ensures.value in
    let at = on-stream c.self.inside.journal.entries c.args.call c.in-Stream.stream c.from.result under.0 (sym (c.from.ensures ∙ c.number.ensures.same)) in
    let both = stepped _ _ inv c.from.result c.index_mut-row.result.now there (event.Do c.args.pass c.args.call) c.do_call-reply.result c.do_call-reply.new.self c.do_call-reply.new.journal c.note_capacity.ensures at
    (c.do_call-reply.ensures _ _ (row-stands _ _ inv c.from.result c.index_mut-row.result.now there)) in
    subst (λ w. WorldEventLeft (tells_of g.D.Told.told g.D.Told.faults g.L.LogFile.told g.L.LogFile.faults g.Q.PostRoutine.posted) (event.Do c.args.pass c.args.call) c.do_call-reply.result w
    (world_of c.self.inside.begun.value (slice_set c.self.inside.rows.items c.from.result c.do_call-reply.new.self) c.self.inside.logs.items c.do_call-reply.new.journal)) c.self.view_is both.1

pub returns-in-Journal : goal.returns-in-Journal
returns-in-Journal g c =
    let inv = c.self.invariant.0 in
    let under = c.in-Journal.ensures c.self.inside.journal.entries (books-there _ _ inv c.deref.result.now c.deref.ensures.value) in
    let both = journal-stepped _ _ inv (event.Do c.args.pass c.args.call) c.do_unfiled-reply.result c.do_unfiled-reply.new.journal c.note_capacity-in-Journal.ensures (on-journal c.self.inside.journal.entries c.args.call under.0)
    (c.do_unfiled-reply.ensures _ (journal-stands _ _ inv)) in
    subst (λ w. WorldEventLeft (tells_of g.D.Told.told g.D.Told.faults g.L.LogFile.told g.L.LogFile.faults g.Q.PostRoutine.posted) (event.Do c.args.pass c.args.call) c.do_unfiled-reply.result w
    (world_of c.self.inside.begun.value c.self.inside.rows.items c.self.inside.logs.items c.do_unfiled-reply.new.journal)) c.self.view_is both.1

pub returns-in-NoHold : goal.returns-in-NoHold
returns-in-NoHold g c =
    let under = c.in-NoHold.ensures c.self.inside.journal.entries (books-there _ _ c.self.invariant.0 c.deref.result.now c.deref.ensures.value) in
    let tells = tells_of g.D.Told.told g.D.Told.faults g.L.LogFile.told g.L.LogFile.faults g.Q.PostRoutine.posted in (
      (
        subst (λ w. MayHappen {Q = g.row.Q.Denot} (setup_in tells w.begun) w.journal.entries (event.Do c.args.pass c.args.call) → ⊥) c.self.view_is
            (not-done g.row.Q.Denot _ c.self.inside.journal.entries c.args.pass c.args.call under.0 under.1),
        refl,
      ),
      refl,
    )
