-- A round goes on from what the rounds before left, and comes nearer to the end; where it ends the call, that is the end.
use Rattle.std.specs.Prelude.{ℕ}
use Rattle.std.proofs.Common.{subst}
use Rattle.cc_writes.specs.Writes.{HasBoth}
use Rattle.cc_entry.specs.declared.call.Call.{Call}
use Rattle.cc_writes.specs.Fetch.{IsFullFetching}
use Rattle.cc_writes.specs.Rounds.{IsFullCourse, IsNearer}
use Rattle.cc_writes.specs.declared.course.Course.{Course}
use Rattle.cc_writes.specs.declared.course.Course.TheVariants as course
use Rattle.cc_step.proofs.Placed.{so-far}
use Rattle.cc_writes.proofs.Nearing.{steps-less}
use Rattle.cc_writes.proofs.Repeated.{HasGoneRound, left_so_far, goes_on}
use Rattle.cc_writes.proofs.rounds.until_ended.Goals as goal

pub returns-in-Ended-clause-left : goal.returns-in-Ended-clause-left
returns-in-Ended-clause-left g c =
    let w = g.T.Turns.standing c.args.turns.now in
    let v = g.T.Turns.standing c.pages.turns in
    let x = g.T.Turns.standing c.round-now.new.turns in
    left_so_far g.T.Disk.Told.told g.T.Disk.Told.faults w v x c.args.book.stream c.args.call c.pages.call c.pages.book c.pages.disk
    c.args.out.now c.pages.out c.round-now.new.out c.pages.invariant c.round-now.ensures.went (course.Ended c.in-Ended.answer)
    (subst (λ (o : Course Call). HasGoneRound v x c.pages.call o c.pages.out c.round-now.new.out) c.in-Ended.is c.round-now.ensures.left)

pub returns-in-Ended-clause-full : goal.returns-in-Ended-clause-full
returns-in-Ended-clause-full g c =
    let x = g.T.Turns.standing c.round-now.new.turns in
    subst (λ (it : Call). IsFullFetching it x c.in-Ended.answer) c.pages.invariant.same
    (subst (λ (o : Course Call). IsFullCourse c.pages.call x o) c.in-Ended.is c.round-now.ensures.full)

pub pages-preserved : goal.pages-preserved
pages-preserved g c =
    let w = g.T.Turns.standing c.args.turns.now in
    let v = g.T.Turns.standing c.pages.turns in
    let x = g.T.Turns.standing c.round-now.new.turns in
    goes_on g.T.Disk.Told.told g.T.Disk.Told.faults w v x c.args.book.stream c.args.call c.pages.call c.pages.book c.pages.disk
    c.args.out.now c.pages.out c.round-now.new.out c.pages.invariant c.round-now.ensures.went c.in-GoesOn.again c.round-now.result.0 c.round-now.new.disk
    (subst (λ (n : ℕ). HasBoth g.T.Disk.Told.told g.T.Disk.Told.faults x n c.round-now.result.0 c.round-now.new.disk) c.pages.invariant.both.book.stream c.round-now.ensures.both)
    (subst (λ (o : Course Call). HasGoneRound v x c.pages.call o c.pages.out c.round-now.new.out) c.in-GoesOn.is c.round-now.ensures.left)

pub pages-smaller : goal.pages-smaller
pages-smaller g c =
    let v = g.T.Turns.standing c.pages.turns in
    let x = g.T.Turns.standing c.round-now.new.turns in
    steps-less x.setup c.args.book.stream c.args.call c.in-GoesOn.again c.pages.rounds c.round-now.new.rounds v.seen x.seen (so-far x.setup x.seen c.round-now.ensures.both.book.good)
    (subst (λ (n : ℕ). IsNearer n c.args.call (course.GoesOn c.in-GoesOn.again) c.pages.rounds c.round-now.new.rounds v.seen x.seen) c.pages.invariant.both.book.stream
    (subst (λ (a : Call). IsNearer c.pages.book.stream a (course.GoesOn c.in-GoesOn.again) c.pages.rounds c.round-now.new.rounds v.seen x.seen) c.pages.invariant.same
    (subst (λ (o : Course Call). IsNearer c.pages.book.stream c.pages.call o c.pages.rounds c.round-now.new.rounds v.seen x.seen) c.in-GoesOn.is c.round-now.ensures.nearer)))
