-- A store that was done leaves its entry and that of its begin; without memory its four places are given back.
use Rattle.std.specs.Prelude.{◌≡◌, [], refl}
use Rattle.std.proofs.Common.{sym, subst}
use Rattle.cc_entry.specs.declared.call.Call.TheVariants as call
use Rattle.cc_entry.specs.declared.reply.Reply.TheVariants as reply
use Rattle.cc_world.specs.Rows.{RowWent}
use Rattle.cc_effects.specs.Events.{entries_done}
use Rattle.cc_world.specs.declared.rows.StreamRow.{StreamRow}
use Rattle.cc_world.proofs.UncachedCalls.{given-back}
use Rattle.cc_world.proofs.rows.StreamRow.store_ready.Goals as goal

pub returns-in-Ok : goal.returns-in-Ok
returns-in-Ok g c u first ready = (
  entries_done c.args.journal.now.entries c.args.pass (call.NcStore c.args.file c.args.page.page c.args.bytes) reply.Unit,
  (ready.made.admitted, refl),
  c.in-Ok.ensures u first ready,
)

pub returns-in-Err : goal.returns-in-Err
returns-in-Err g c u first ready =
    let left = c.in-Err.ensures u first ready in (
      [],
      refl,
      subst (λ (now : StreamRow g.row.D.Denot). RowWent g.D.Told.told g.D.Told.faults u first 0 [] c.args.self.now now c.args.journal.now c.release.new.self) (sym left.0)
          (given-back g.D.Told.told g.D.Told.faults u first 4 c.args.self.now c.args.journal.now c.store.new.journal c.release.new.self c.store.new.self.book ready.made.stands left.1 c.release.ensures),
    )
