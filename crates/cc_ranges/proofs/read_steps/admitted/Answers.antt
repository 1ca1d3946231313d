-- By the page: dirty, and not written for the read yet, it is to be written; starting below the size it is to be read;
-- else the read is done without bytes, on its reserved place.
use Rattle.std.specs.Prelude.{◌≡◌, ◌<◌, ◌≤◌, ◌*◌, ◌-◌, ℕ, List, []}
use Rattle.std.proofs.Common.{ap, sym, ◌∙◌, subst}
use Rattle.cc_entry.specs.declared.call.Call.TheVariants as call
use Rattle.cc_entry.specs.declared.reply.Reply.TheVariants as reply
use Rattle.cc_effects.specs.Calls.{has_no_write}
use Rattle.cc_step.specs.Fill.{book_page}
use Rattle.cc_journal.specs.Journal.{JournalState}
use Rattle.cc_model.specs.History.{history}
use Rattle.cc_model.specs.Replies.{Reads}
use Rattle.cc_model.specs.Touches.{size_of}
use Rattle.cc_step.specs.Step.{AttemptDone}
use Rattle.cc_step.proofs.Attempts.{forgoing}
use Rattle.cc_book.proofs.NoncachedReads.{reads-none}
use Rattle.cc_ranges.proofs.DirtyNext.{never, always}
use Rattle.cc_ranges.proofs.ReadStepping.{forgone-left, may-do, done-here, to-write, to-read}
use Rattle.cc_ranges.proofs.read_steps.admitted.Goals.{else-not-written-via-then-not-written+else-is_to_write, else-not-written-via-else-not-written}
use Rattle.cc_ranges.proofs.read_steps.admitted.Goals as goal
use Rattle.cc_ranges.specs.FlushSteps.{without_one}

pub returns-then-is_to_write : goal.returns-then-is_to_write
returns-then-is_to_write g c u may admitted =
    let b = c.args.book.now in
    let j = c.args.journal.now in
    to-write u c.args.pass c.args.file c.args.page b j may c.requires.reserved admitted c.args.written c.release.new.self
    c.if-not-written.true
    (never (has_no_write (book_page b c.args.page) j.entries) (sym (c.is_to_write.ensures (u.opening b.stream) may.may.stand.stands) ∙ c.if-is_to_write.true))
    c.release.ensures

pub done-requires-clause-may : goal.done-requires-clause-may
done-requires-clause-may g c =
    let u = c.requires.may.0 in
    let may = c.requires.may.1 in
    let b = c.args.book.now in
    let j = c.args.journal.now in (
      u,
      may-do u c.args.pass c.args.file c.args.page b j may c.requires.reserved c.requires.may.2 (reply.Read c.new.result)
          (subst (λ (bytes : List ℕ). Reads (u.opening b.stream) (history j.entries b.stream) (4096 * c.args.page) 4096 (reply.Read bytes)) (sym c.new.ensures)
          (reads-none (u.opening b.stream) (history j.entries b.stream) c.args.page (c.in-None.ensures (u.opening b.stream) j.entries may.may.stand.stands))),
    )

pub returns-in-Some : goal.returns-in-Some
returns-in-Some g c u may admitted =
    let b = c.args.book.now in
    let j = c.args.journal.now in
    let start = c.in-Some.ensures (u.opening b.stream) j.entries may.may.stand.stands in
    to-read u c.args.pass c.args.file c.args.page b j may c.requires.reserved admitted c.args.written
    (λ unwritten.
    elim c.else-not-written.branch [
      | else-not-written-via-then-not-written+else-is_to_write w ↦ always (has_no_write (book_page b c.args.page) j.entries) (sym (w.is_to_write.ensures (u.opening b.stream) may.may.stand.stands) ∙ w.if-is_to_write.false)
      | else-not-written-via-else-not-written w ↦ absurd (cc (w.if-not-written.false, unwritten))
    ])
    (subst (λ (n : ℕ). n < size_of (history j.entries b.stream)) start.0 start.1)

pub release-requires-in-Ok : goal.release-requires-in-Ok
release-requires-in-Ok g c =
    let u = c.requires.may.0 in
    subst (λ (n : ℕ). n ≤ c.done.new.journal.reserved) (sym c.owed_end-owed.ensures)
    (forgone-left u c.args.pass c.args.file c.args.page c.args.book.now c.args.journal.now c.requires.may.1 c.requires.reserved _ c.done.new.journal c.in-Ok.ensures.placed)

pub returns-in-Ok : goal.returns-in-Ok
returns-in-Ok g c u may admitted =
    let b = c.args.book.now in
    let j = c.args.journal.now in
    let reads = subst (λ (bytes : List ℕ). Reads (u.opening b.stream) (history j.entries b.stream) (4096 * c.args.page) 4096 (reply.Read bytes)) (sym c.new.ensures)
    (reads-none (u.opening b.stream) (history j.entries b.stream) c.args.page (c.in-None.ensures (u.opening b.stream) j.entries may.may.stand.stands)) in
    let given : c.release-in-Ok.new.self ≡ forgoing c.args.journal.now c.args.pass c.done.new.journal =
    c.release-in-Ok.ensures
    ∙ ap (λ (n : ℕ). record c.done.new.journal { reserved = c.done.new.journal.reserved - n }) c.owed_end-owed.ensures in
    record {
      clean = λ unwritten.
          elim c.else-not-written.branch [
            | else-not-written-via-then-not-written+else-is_to_write w ↦ always (has_no_write (book_page b c.args.page) j.entries) (sym (w.is_to_write.ensures (u.opening b.stream) may.may.stand.stands) ∙ w.if-is_to_write.false)
            | else-not-written-via-else-not-written w ↦ absurd (cc (w.if-not-written.false, unwritten))
          ];
      attempt = subst (λ (k : JournalState g.row.Q.Denot). AttemptDone u c.args.pass (call.NcRead c.args.file c.args.page) (reply.Read []) b c.done.new.self (without_one j) k) (sym given)
          (subst (λ (bytes : List ℕ). AttemptDone u c.args.pass (call.NcRead c.args.file c.args.page) (reply.Read bytes) b c.done.new.self (without_one j) (forgoing j c.args.pass c.done.new.journal)) c.new.ensures
          (done-here u c.args.pass c.args.file c.args.page b j may c.requires.reserved admitted (reply.Read c.new.result) reads c.done.new.self c.done.new.journal
          c.in-Ok.ensures.placed
          (c.in-Ok.ensures.stands u (may-do u c.args.pass c.args.file c.args.page b j may c.requires.reserved admitted (reply.Read c.new.result) reads))
          c.in-Ok.ensures.stream));
    }
