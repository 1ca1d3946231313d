-- Both tables are that of the past, so the entry may stand; or there is no such log, or no memory.
use Rattle.std.specs.Prelude.{◌≡◌, ◌≤◌, ◌<◌, ℕ, List, refl}
use Rattle.std.proofs.Common.{ap, sym, ◌∙◌, subst}
use Rattle.std.proofs.lemmas.Bool.{lt-leb}
use Rattle.cc_entry.specs.declared.call.Call.TheVariants as call
use Rattle.cc_entry.specs.declared.query.Query.TheVariants as query
use Rattle.cc_entry.specs.declared.error.CcError.TheVariants as error
use Rattle.cc_entry.specs.declared.place.DirtyRow.{DirtyRow}
use Rattle.cc_entry.specs.declared.reply.Outcome.TheVariants as outcome
use Rattle.cc_entry.specs.declared.reply.Reply.TheVariants as reply
use Rattle.cc_world.specs.Reserving.{unreserved}
use Rattle.cc_world.proofs.JournalEvents.{done-left, no-log-left}
use Rattle.cc_world.proofs.Unfiled.{asked-table, good-unfiled, log-there, may-ask-table, no-log-outcome, table-outcome}
use Rattle.cc_world.proofs.journal.tell_rows.Goals as goal

beyond : (u logs handle : ℕ) → u ≡ logs → logs ≤ handle → u ≤ handle
beyond u logs handle same most = subst (λ (n : ℕ). n ≤ handle) (sym same) most

among : (u logs handle : ℕ) → u ≡ logs → handle < logs → handle < u
among u logs handle same known = subst (λ (n : ℕ). handle < n) (sym same) known

pub place-requires-clause-good : goal.place-requires-clause-good
place-requires-clause-good g c =
    let past = c.args.journal.now.entries in
    let u = c.requires.reserved.standing.0 in
    let stand = c.requires.reserved.standing.1 in (
      u,
      good-unfiled u past c.args.pass (call.Query (query.DirtyPages c.args.handle)) (outcome.Failed (error.NoLog c.from.result)) refl
          (no-log-outcome u past c.args.pass c.args.handle c.from.result c.from.ensures (beyond u.logs c.logs.result c.args.handle (stand.limits.0 ∙ sym c.logs.ensures) c.if-logs-handle.true)) stand.good,
    )

pub returns-then-logs-handle : goal.returns-then-logs-handle
returns-then-logs-handle g c u stand =
    let past = c.args.journal.now.entries in
    let refused = no-log-outcome u past c.args.pass c.args.handle c.from.result c.from.ensures (beyond u.logs c.logs.result c.args.handle (stand.limits.0 ∙ sym c.logs.ensures) c.if-logs-handle.true) in (
      no-log-left g.Q.PostRoutine.posted u c.args.pass c.args.handle c.from.result (unreserved c.args.journal.now) c.place.new.journal refused c.requires.reserved.room
          (c.place.ensures.went u stand (good-unfiled u past c.args.pass (call.Query (query.DirtyPages c.args.handle)) (outcome.Failed (error.NoLog c.from.result)) refl refused stand.good)),
      c.place.ensures.queue,
    )

pub place-requires-in-Ok-clause-good : goal.place-requires-in-Ok-clause-good
place-requires-in-Ok-clause-good g c =
    let past = c.args.journal.now.entries in
    let u = c.requires.reserved.standing.0 in
    let stand = c.requires.reserved.standing.1 in (
      u,
      good-unfiled u past c.args.pass (call.Query (query.DirtyPages c.args.handle)) (outcome.Done (reply.Rows c.in-Ok.rows)) refl
          (table-outcome u past c.args.pass c.args.handle c.in-Ok.rows (among u.logs c.logs.result c.args.handle (stand.limits.0 ∙ sym c.logs.ensures) c.if-logs-handle.false) c.in-Ok.ensures.0) stand.good,
    )

pub returns-in-Ok : goal.returns-in-Ok
returns-in-Ok g c u stand =
    let past = c.args.journal.now.entries in
    let known = among u.logs c.logs.result c.args.handle (stand.limits.0 ∙ sym c.logs.ensures) c.if-logs-handle.false in
    let told : c.in-Ok.rows ≡ c.in-Ok.told = c.in-Ok.ensures.0 ∙ sym c.in-Ok.ensures.1 in (
      done-left g.Q.PostRoutine.posted u c.args.pass (call.Query (query.DirtyPages c.args.handle)) (reply.Rows c.in-Ok.rows) (reply.Rows c.in-Ok.told) (unreserved c.args.journal.now) c.place-in-Ok.new.journal refl
          (may-ask-table u past c.args.pass c.args.handle) (log-there u past c.args.handle (lt-leb u.logs c.args.handle known)) (ap (λ (rows : List DirtyRow). reply.Rows rows) told)
          (asked-table past c.args.pass c.args.handle _) c.requires.reserved.room
          (c.place-in-Ok.ensures.went u stand (good-unfiled u past c.args.pass (call.Query (query.DirtyPages c.args.handle)) (outcome.Done (reply.Rows c.in-Ok.rows)) refl
          (table-outcome u past c.args.pass c.args.handle c.in-Ok.rows known c.in-Ok.ensures.0) stand.good)),
      c.place-in-Ok.ensures.queue,
    )
