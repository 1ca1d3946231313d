-- The pick is that of the past, so its entry may stand, and owes nothing.
use Rattle.std.specs.Prelude.{◌≡◌, List, [], ◌∷◌, refl}
use Rattle.std.proofs.Common.{ap, sym, ◌∙◌, subst}
use Rattle.cc_entry.specs.Place.{Page}
use Rattle.cc_entry.specs.declared.entry.Entry.{Entry}
use Rattle.cc_entry.specs.declared.entry.Entry.TheVariants as entry
use Rattle.cc_journal.specs.Journal.{MayBePushed, room_of}
use Rattle.cc_journal.specs.Queue.{AllUnposted}
use Rattle.cc_model.specs.Pick.{pick}
use Rattle.cc_world.proofs.JournalStanding.{may-push-plain, same-entries, same-queue, same-threshold, went-plain}
use Rattle.cc_world.proofs.Standing.{roomy}
use Rattle.cc_world.proofs.journal.scan.Goals as goal

pub push-requires-clause-may : goal.push-requires-clause-may
push-requires-clause-may g c =
    let j = c.args.journal.now in
    let i = c.reserve.new.self in
    let u = c.requires.standing.0 in
    let stand = c.requires.standing.1 in
    let same = c.in-Ok.ensures.reserved in
    let entries : i.entries ≡ j.entries = same-entries g.Q.PostRoutine.posted u j stand i same in
    subst (λ (past : List Entry). MayBePushed past (entry.Scan c.args.pass c.in-Ok-pick.picked)) (sym entries)
    (may-push-plain g.Q.PostRoutine.posted u j stand (entry.Scan c.args.pass c.in-Ok-pick.picked) refl
    (c.in-Ok-pick.ensures u (same-threshold g.Q.PostRoutine.posted u j stand i same) ∙ ap (λ (past : List Entry). pick u past) entries))

pub returns-in-Ok-pick : goal.returns-in-Ok-pick
returns-in-Ok-pick g c u stand =
    let j = c.args.journal.now in
    let i = c.reserve.new.self in
    let k = c.push.new.self in
    let same = c.in-Ok.ensures.reserved in
    let entries : i.entries ≡ j.entries = same-entries g.Q.PostRoutine.posted u j stand i same in
    let queue : i.queue ≡ j.queue = same-queue g.Q.PostRoutine.posted u j stand i same in
    let picked : c.in-Ok-pick.picked ≡ pick u j.entries =
    c.in-Ok-pick.ensures u (same-threshold g.Q.PostRoutine.posted u j stand i same) ∙ ap (λ (past : List Entry). pick u past) entries in
    let e : Entry = entry.Scan c.args.pass c.in-Ok-pick.picked in (
      (
        tt,
        roomy (room_of j) 1 _ _ c.in-Ok.ensures.full.1,
        (
          e ∷ [],
          ap (λ (p : List Page). entry.Scan c.args.pass p ∷ []) picked,
          went-plain g.Q.PostRoutine.posted u j stand e k.rows i.queue i k refl refl picked same c.push.ensures.placed
              (subst (λ q. AllUnposted g.Q.PostRoutine.posted q) (sym queue) stand.unposted),
        ),
      ),
      ap (λ x. x.queue) c.push.ensures.placed ∙ queue,
    )
