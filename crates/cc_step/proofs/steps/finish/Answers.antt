-- The reply is the right one, and the places asked more are reserved before; then the call may be placed.
use Rattle.std.proofs.Common.{sym, subst}
use Rattle.cc_journal.specs.Journal.{JournalState}
use Rattle.cc_step.specs.Step.{MayStep, IsReadyFor, IsReplyOf, StepPlacingLeft}
use Rattle.cc_step.proofs.Finishing.{reserving-more, may-more, placed-step}
use Rattle.cc_step.proofs.steps.finish.Goals as goal

pub place-requires-clause-may : goal.place-requires-clause-may
place-requires-clause-may g c =
    let u = c.requires.may.0 in
    let may = c.requires.may.1 in
    let ready = c.requires.may.2 in
    rw c.in-Ok-reserve.ensures.reserved
    (u, may-more u c.args.pass c.args.more c.args.call c.args.book.now c.args.journal.now may, ready, c.in-Ok.ensures u c.args.pass may.stand may.filed ready)

pub returns-in-Ok-reserve : goal.returns-in-Ok-reserve
returns-in-Ok-reserve g c u may ready =
    let reserved = c.in-Ok-reserve.ensures.reserved in
    let answers = c.in-Ok.ensures u c.args.pass may.stand may.filed ready in
    let left : StepPlacingLeft u c.args.pass c.args.more c.args.call c.in-Ok.answer c.place.result c.args.book.now c.place.new.book (reserving-more c.args.more c.args.journal.now) c.place.new.journal =
    subst (λ (j : JournalState g.row.Q.Denot). StepPlacingLeft u c.args.pass c.args.more c.args.call c.in-Ok.answer c.place.result c.args.book.now c.place.new.book j c.place.new.journal) reserved
    (c.place.ensures u
    (subst (λ (j : JournalState g.row.Q.Denot). MayStep u c.args.pass c.args.call c.args.book.now j) (sym reserved) (may-more u c.args.pass c.args.more c.args.call c.args.book.now c.args.journal.now may))
    (subst (λ (j : JournalState g.row.Q.Denot). IsReadyFor u j.entries c.args.book.now.stream c.args.call) (sym reserved) ready)
    (subst (λ (j : JournalState g.row.Q.Denot). IsReplyOf u j.entries c.args.book.now.stream c.args.pass c.args.call c.in-Ok.answer) (sym reserved) answers)) in
    placed-step u c.args.pass c.args.more c.args.call c.in-Ok.answer c.place.result c.args.book.now c.place.new.book c.args.journal.now c.place.new.journal c.requires.reserved left
