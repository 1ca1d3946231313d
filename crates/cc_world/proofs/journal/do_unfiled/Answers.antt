-- What is told with a place reserved is what the event leaves; where none was reserved nothing changed.
use Rattle.std.specs.Prelude.{refl}
use Rattle.std.proofs.Common.{ap, sym, ◌∙◌, subst}
use Rattle.cc_entry.specs.declared.call.Call.{Call}
use Rattle.cc_entry.specs.declared.call.Call.TheVariants as call
use Rattle.cc_entry.specs.declared.query.Query.TheVariants as query
use Rattle.cc_journal.specs.Journal.{JournalState}
use Rattle.cc_world.specs.Journals.{JournalLeft}
use Rattle.cc_effects.specs.declared.events.Event.TheVariants as event
use Rattle.cc_world.proofs.JournalStanding.{as-unreserved, stands-unreserved, wanting}
use Rattle.cc_world.proofs.Unfiled.{asked-ask, asks-dirty, asks-rows, may-ask}
use Rattle.cc_world.proofs.journal.do_unfiled.Goals as goal

pub returns-in-Some : goal.returns-in-Some
returns-in-Some g c u stand =
    let j = c.args.journal.now in
    let i = c.reserve.new.self in
    let k = c.tell_rows.new.journal in
    let same = c.in-Ok.ensures.reserved in
    subst (λ (it : Call). JournalLeft g.Q.PostRoutine.posted u (event.Do c.args.pass it) c.tell_rows.result j k)
    (sym (asks-rows c.args.call c.in-Some.handle (sym c.log_of.ensures ∙ c.in-Some.is)))
    (subst (λ (x : JournalState g.row.Q.Denot). JournalLeft g.Q.PostRoutine.posted u (event.Do c.args.pass (call.Query (query.DirtyPages c.in-Some.handle))) c.tell_rows.result x k) (as-unreserved g.Q.PostRoutine.posted u j stand i same)
    (c.tell_rows.ensures u (stands-unreserved g.Q.PostRoutine.posted u j stand i same)))

pub returns-in-Ok : goal.returns-in-Ok
returns-in-Ok g c u stand =
    let j = c.args.journal.now in
    let i = c.reserve.new.self in
    let k = c.tell_dirty.new.journal in
    let same = c.in-Ok.ensures.reserved in
    subst (λ (it : Call). JournalLeft g.Q.PostRoutine.posted u (event.Do c.args.pass it) c.tell_dirty.result j k)
    (sym (asks-dirty c.args.call c.requires.unfiled (sym c.log_of.ensures ∙ c.in-None.is)))
    (subst (λ (x : JournalState g.row.Q.Denot). JournalLeft g.Q.PostRoutine.posted u (event.Do c.args.pass (call.Query query.IsDirtyData)) c.tell_dirty.result x k) (as-unreserved g.Q.PostRoutine.posted u j stand i same)
    (c.tell_dirty.ensures u (stands-unreserved g.Q.PostRoutine.posted u j stand i same)))

pub returns : goal.returns
returns g c u stand =
    let j = c.args.journal.now in (
      wanting g.Q.PostRoutine.posted u j stand (event.Do c.args.pass c.args.call) c.in-Err.error c.reserve.new.self (may-ask u j.entries c.args.pass c.args.call c.requires.unfiled)
          (asked-ask j.entries c.args.pass c.args.call _ c.requires.unfiled) refl c.in-Err.ensures.full c.in-Err.ensures.causes c.in-Err.ensures.err,
      ap (λ x. x.queue) c.in-Err.ensures.err,
    )
