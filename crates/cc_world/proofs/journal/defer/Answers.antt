-- The deferral may stand, with the next id, and owes nothing.
use Rattle.std.specs.Prelude.{◌≡◌, ℕ, suc, List, [], ◌∷◌, refl}
use Rattle.std.proofs.Common.{ap, sym, ◌∙◌, subst}
use Rattle.cc_entry.specs.declared.entry.Entry.{Entry}
use Rattle.cc_entry.specs.declared.entry.Entry.TheVariants as entry
use Rattle.cc_journal.specs.Queue.{AllUnposted}
use Rattle.cc_model.specs.Throttle.{deferred, pages_for}
use Rattle.cc_world.proofs.JournalEvents.{defer-queued, whole-pages}
use Rattle.cc_world.proofs.JournalStanding.{same-entries, same-queue, went-plain}
use Rattle.cc_world.proofs.journal.defer.Goals as goal

pub returns-in-Ok : goal.returns-in-Ok
returns-in-Ok g c u stand =
    let j = c.args.journal.now in
    let i = c.reserve_deferral.new.journal in
    let k = c.push_defer.new.self in
    let can = c.in-Ok.ensures.ok.0 in
    let same = c.in-Ok.ensures.ok.1 in
    let queued = same-queue g.Q.PostRoutine.posted u j stand i same in
    let id : c.push_defer.result ≡ suc (deferred j.entries) = c.push_defer.ensures.id ∙ ap (λ (past : List Entry). suc (deferred past)) (same-entries g.Q.PostRoutine.posted u j stand i same) in
    let pages : c.div_ceil-pages.result ≡ pages_for c.args.bytes = c.div_ceil-pages.ensures ∙ whole-pages c.args.bytes in
    let e : Entry = entry.Defer c.args.pass c.push_defer.result c.args.file c.div_ceil-pages.result c.args.retrying in
    let unposted = c.push_defer.ensures.unposted (subst (λ q. AllUnposted g.Q.PostRoutine.posted q) (sym queued) stand.unposted) in (
      (
        tt,
        can.room,
        (
          e ∷ [],
          (id, ap (λ (n : ℕ). entry.Defer c.args.pass c.push_defer.result c.args.file n c.args.retrying ∷ []) pages),
          went-plain g.Q.PostRoutine.posted u j stand e i.rows k.queue i k refl refl (record { cached = can.cached; in_queue = can.few; next = id }) same c.push_defer.ensures.placed unposted,
        ),
      ),
      defer-queued _ _ c.args.routine _ c.push_defer.result c.args.file _ _ c.args.retrying queued pages c.push_defer.ensures.waits,
    )
