-- The oldest fault is a failure of the call, which nothing refuses, so its entry may stand.
use Rattle.std.specs.Prelude.{List, [], ◌∷◌, refl}
use Rattle.std.proofs.Common.{ap, sym, ◌∙◌, subst}
use Rattle.cc_entry.specs.declared.entry.Entry.{Entry}
use Rattle.cc_entry.specs.declared.error.CcError.{CcError}
use Rattle.cc_entry.specs.declared.reply.Outcome.TheVariants as outcome
use Rattle.cc_journal.specs.Journal.{JournalState, room_of}
use Rattle.cc_model.specs.Good.{IsGood}
use Rattle.cc_world.specs.Faults.{fault_in}
use Rattle.cc_world.specs.Journals.{JournalEnded, JournalWent}
use Rattle.cc_effects.specs.Events.{call_entry}
use Rattle.cc_effects.specs.declared.events.Event.TheVariants as event
use Rattle.cc_effects.specs.declared.events.StepReply.TheVariants as step
use Rattle.cc_world.proofs.JournalEvents.{told-left}
use Rattle.cc_world.proofs.JournalStanding.{as-unreserved, same-entries, same-queue, stands-unreserved, wanting}
use Rattle.cc_world.proofs.Unfiled.{asked-fail, fault-stands, good-told}
use Rattle.cc_world.proofs.Standing.{roomy}
use Rattle.cc_world.proofs.journal.tell_fault.Goals as goal

pub place-requires-clause-good : goal.place-requires-clause-good
place-requires-clause-good g c =
    let j = c.args.journal.now in
    let u = c.requires.standing.0 in
    let stand = c.requires.standing.1 in (
      u,
      subst (λ (past : List Entry). IsGood u (call_entry past c.args.pass c.args.call (outcome.Failed c.error_of-error.result) ∷ past))
          (sym (same-entries g.Q.PostRoutine.posted u j stand c.reserve.new.self c.in-Ok.ensures.reserved))
          (good-told u j.entries c.args.pass c.args.call (fault_in c.args.fault) c.error_of-error.result c.requires.unfiled (c.requires.admitted u stand.limits.0) c.requires.oldest
          c.error_of-error.ensures stand.good),
    )

pub returns-in-Ok : goal.returns-in-Ok
returns-in-Ok g c u stand =
    let j = c.args.journal.now in
    let i = c.reserve.new.self in
    let k = c.place.new.journal in
    let same = c.in-Ok.ensures.reserved in
    let none = c.requires.admitted u stand.limits.0 in
    let good = subst (λ (past : List Entry). IsGood u (call_entry past c.args.pass c.args.call (outcome.Failed c.error_of-error.result) ∷ past))
    (sym (same-entries g.Q.PostRoutine.posted u j stand i same))
    (good-told u j.entries c.args.pass c.args.call (fault_in c.args.fault) c.error_of-error.result c.requires.unfiled none c.requires.oldest c.error_of-error.ensures stand.good) in
    let went = subst (λ (x : JournalState g.row.Q.Denot). JournalWent g.Q.PostRoutine.posted u (call_entry x.entries c.args.pass c.args.call (outcome.Failed c.error_of-error.result) ∷ []) x k)
    (as-unreserved g.Q.PostRoutine.posted u j stand i same)
    (c.place.ensures.went u (stands-unreserved g.Q.PostRoutine.posted u j stand i same) good) in (
      subst (λ (e : CcError). JournalEnded g.Q.PostRoutine.posted u (event.Fail c.args.pass c.args.call) (step.Refused e) j k) (sym c.error_of-error.ensures)
          (told-left g.Q.PostRoutine.posted u c.args.pass c.args.call (fault_in c.args.fault) j k c.requires.unfiled none c.requires.oldest (roomy (room_of j) 1 _ _ c.in-Ok.ensures.full.1)
          (subst (λ (e : CcError). JournalWent g.Q.PostRoutine.posted u (call_entry j.entries c.args.pass c.args.call (outcome.Failed e) ∷ []) j k) c.error_of-error.ensures went)),
      c.place.ensures.queue ∙ same-queue g.Q.PostRoutine.posted u j stand i same,
    )

pub returns-in-Err : goal.returns-in-Err
returns-in-Err g c u stand =
    let j = c.args.journal.now in (
      wanting g.Q.PostRoutine.posted u j stand (event.Fail c.args.pass c.args.call) c.in-Err.error c.reserve.new.self
          (fault-stands u j.entries c.args.pass c.args.call (fault_in c.args.fault) c.requires.unfiled (c.requires.admitted u stand.limits.0) c.requires.oldest)
          (asked-fail j.entries c.args.pass c.args.call c.requires.unfiled) refl c.in-Err.ensures.full c.in-Err.ensures.causes c.in-Err.ensures.err,
      ap (λ x. x.queue) c.in-Err.ensures.err,
    )
