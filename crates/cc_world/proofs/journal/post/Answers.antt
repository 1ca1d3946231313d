-- The write that is posted is the head of the past's queue, which may go; so its entry may stand, and owes nothing.
use Rattle.std.specs.Prelude.{◌≡◌, ◌≤◌, true, Bool, List, [], ◌∷◌, drop, refl, if◌then◌else◌}
use Rattle.std.specs.Option.{option_map}
use Rattle.std.specs.Prelude.{slice_get, Some}
use Rattle.std.proofs.Common.{ap, sym, ◌∙◌, subst}
use Rattle.cc_entry.specs.declared.entry.Entry.{Entry}
use Rattle.cc_entry.specs.declared.entry.Entry.TheVariants as entry
use Rattle.cc_journal.specs.Journal.{head_may_go, room_of}
use Rattle.cc_journal.specs.Queue.{AllUnposted}
use Rattle.cc_model.specs.Throttle.{queue}
use Rattle.cc_world.proofs.JournalEvents.{goes-first, may-post}
use Rattle.cc_world.proofs.JournalStanding.{same-entries, same-queue, went-plain}
use Rattle.cc_world.proofs.Standing.{roomy}
use Rattle.cc_world.proofs.journal.post.Goals as goal

pub returns-in-Ok : goal.returns-in-Ok
returns-in-Ok g c u stand =
    let j = c.args.journal.now in
    let i = c.reserve.new.self in
    let k = c.push_posted.new.self in
    let same = c.in-Ok.ensures.reserved in
    let entries : i.entries ≡ j.entries = same-entries g.Q.PostRoutine.posted u j stand i same in
    let queued = same-queue g.Q.PostRoutine.posted u j stand i same in
    let goes : head_may_go u j.entries (queue j.entries) ≡ true = sym (c.may_post.ensures u stand.limits.1) ∙ c.if-not-may_post.false in
    let first = subst (λ (past : List Entry). option_map (λ d. d.id) (slice_get (queue past) 0) ≡ Some c.push_posted.result.id) entries c.push_posted.ensures.first in
    let room : 1 ≤ room_of j = roomy (room_of j) 1 _ _ c.in-Ok.ensures.full.1 in
    let e : Entry = entry.Posted c.push_posted.result.id in (
      (
        tt,
        subst (λ (b : Bool). (if b then 1 else 0) ≤ room_of j) (sym (goes-first u j.entries (queue j.entries) ∙ goes)) room,
        (
          e ∷ [],
          refl,
          went-plain g.Q.PostRoutine.posted u j stand e i.rows (drop 1 i.queue) i k refl refl (may-post u j.entries c.push_posted.result.id (queue j.entries) goes first) same c.push_posted.ensures.placed
              (subst (λ q. AllUnposted g.Q.PostRoutine.posted q) (ap (λ x. x.queue) c.push_posted.ensures.placed) (c.push_posted.ensures.still_unposted)),
        ),
      ),
      (
        subst (λ q. option_map (λ w. w.0.id) (slice_get q 0) ≡ Some c.push_posted.result.id) queued c.push_posted.ensures.head,
        c.push_posted.ensures.posted,
        ap (λ x. x.queue) c.push_posted.ensures.placed ∙ ap (λ q. drop 1 q) queued,
      ),
    )
