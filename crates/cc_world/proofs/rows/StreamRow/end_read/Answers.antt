-- A read that ends leaves its entry on the row as on the book; without memory its place is given back.
use Rattle.std.specs.Prelude.{[], ◌∷◌, refl}
use Rattle.cc_entry.specs.declared.call.Call.TheVariants as call
use Rattle.cc_entry.specs.declared.reply.Outcome.TheVariants as outcome
use Rattle.cc_effects.specs.Events.{call_entry}
use Rattle.cc_world.proofs.CallRows.{row-called}
use Rattle.cc_world.proofs.UncachedCalls.{given-back, may-end-read}
use Rattle.cc_world.proofs.rows.StreamRow.end_read.Goals as goal

pub returns-in-Ok : goal.returns-in-Ok
returns-in-Ok g c u first ready read =
    let row = c.args.self.now in
    let j = c.args.journal.now in
    let it = call.NcRead c.args.file c.args.page in (
      call_entry j.entries c.args.pass it (outcome.Done c.in-Ok.reply) ∷ [],
      (ready.made.admitted, refl),
      row-called g.D.Told.told g.D.Told.faults u first 1 row j ready.made.stands _ _ _ it (outcome.Done c.in-Ok.reply) c.finish_read.new.book c.finish_read.new.journal
          (c.in-Ok.ensures.done u (may-end-read g.D.Told.told g.D.Told.faults u first c.args.pass c.args.file c.args.page c.args.raw.now row j ready read)),
    )

pub returns-in-Err : goal.returns-in-Err
returns-in-Err g c u first ready read = (
  [],
  refl,
  given-back g.D.Told.told g.D.Told.faults u first 1 c.args.self.now c.args.journal.now c.finish_read.new.journal c.release.new.self c.finish_read.new.book ready.made.stands c.in-Err.ensures.err c.release.ensures,
)
