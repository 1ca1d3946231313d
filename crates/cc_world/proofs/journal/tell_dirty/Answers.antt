-- The flag is what the journal's rows tell, so the entry may stand.
use Rattle.std.specs.Prelude.{refl}
use Rattle.cc_entry.specs.declared.call.Call.TheVariants as call
use Rattle.cc_entry.specs.declared.query.Query.TheVariants as query
use Rattle.cc_entry.specs.declared.reply.Outcome.TheVariants as outcome
use Rattle.cc_entry.specs.declared.reply.Reply.{Reply}
use Rattle.cc_entry.specs.declared.reply.Reply.TheVariants as reply
use Rattle.cc_entry.specs.declared.query.Value.TheVariants as value
use Rattle.cc_world.specs.Reserving.{unreserved}
use Rattle.cc_world.proofs.JournalEvents.{done-left}
use Rattle.cc_world.proofs.Unfiled.{asked-dirty, dirty-outcome, dirty-unrefused, good-unfiled, may-ask-dirty}
use Rattle.cc_world.proofs.journal.tell_dirty.Goals as goal

pub place-requires-clause-good : goal.place-requires-clause-good
place-requires-clause-good g c =
    let past = c.args.journal.now.entries in
    let u = c.requires.reserved.standing.0 in (
      u,
      good-unfiled u past c.args.pass (call.Query query.IsDirtyData) (outcome.Done (reply.Value (value.Flag c.is_any_dirty-flag.result))) refl
          (dirty-outcome u past c.args.pass c.is_any_dirty-flag.result c.is_any_dirty-flag.ensures) c.requires.reserved.standing.1.good,
    )

pub returns : goal.returns
returns g c u stand =
    let past = c.args.journal.now.entries in
    let told : Reply = reply.Value (value.Flag c.is_any_dirty-flag.result) in (
      done-left g.Q.PostRoutine.posted u c.args.pass (call.Query query.IsDirtyData) told told (unreserved c.args.journal.now) c.place.new.journal refl
          (may-ask-dirty u past c.args.pass) (dirty-unrefused u past) refl (asked-dirty past c.args.pass _) c.requires.reserved.room
          (c.place.ensures.went u stand (good-unfiled u past c.args.pass (call.Query query.IsDirtyData) (outcome.Done told) refl
          (dirty-outcome u past c.args.pass c.is_any_dirty-flag.result c.is_any_dirty-flag.ensures) stand.good)),
      c.place.ensures.queue,
    )
