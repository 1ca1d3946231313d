-- Each round leaves the write under way, and nearer to its page being ready, or that page ready, or its end.
use Rattle.std.specs.Prelude.{List}
use Rattle.std.proofs.Common.{subst, inl}
use Rattle.cc_entry.specs.declared.call.Call.TheVariants as call
use Rattle.cc_entry.specs.declared.entry.Entry.{Entry}
use Rattle.cc_step.proofs.Placed.{so-far}
use Rattle.cc_writes.proofs.Nearing.{steps-less}
use Rattle.cc_ranges.specs.WriteHeld.{IsFullWriteRound, WriteIsNearer, WriteRoundLeft}
use Rattle.cc_ranges.specs.WriteVisits.{WriteIsUnderWay}
use Rattle.cc_ranges.specs.declared.write_held.Round.{Round}
use Rattle.cc_ranges.specs.declared.write_held.Round.TheVariants as round
use Rattle.cc_ranges.proofs.WriteHolding.{comes-on, round-on}
use Rattle.cc_ranges.proofs.write_held.make_room.Goals as goal

pub returns-in-Ended-clause-left : goal.returns-in-Ended-clause-left
returns-in-Ended-clause-left g c =
    let w = g.T.Turns.standing c.args.turns.now in
    let v = g.T.Turns.standing c.pages.turns in
    let x = g.T.Turns.standing c.advance-now.new.turns in
    let left = subst (λ (r : Round). (begun : List Entry) → WriteIsUnderWay v.number c.args.file c.args.page begun v.seen → WriteRoundLeft v.setup v.number c.args.file c.args.page r begun x.seen) c.in-Ended.is c.advance-now.ensures.left in
    round-on g.T.Disk.Told.told g.T.Disk.Told.faults w v x c.args.file c.args.page c.pages.book c.advance-now.result.0 c.pages.disk c.advance-now.new.disk c.pages.invariant
    (round.Ended c.in-Ended.error) left

pub returns-in-Ready-clause-left : goal.returns-in-Ready-clause-left
returns-in-Ready-clause-left g c =
    let w = g.T.Turns.standing c.args.turns.now in
    let v = g.T.Turns.standing c.pages.turns in
    let x = g.T.Turns.standing c.advance-now.new.turns in
    let left = subst (λ (r : Round). (begun : List Entry) → WriteIsUnderWay v.number c.args.file c.args.page begun v.seen → WriteRoundLeft v.setup v.number c.args.file c.args.page r begun x.seen) c.in-Ready.is c.advance-now.ensures.left in
    round-on g.T.Disk.Told.told g.T.Disk.Told.faults w v x c.args.file c.args.page c.pages.book c.advance-now.result.0 c.pages.disk c.advance-now.new.disk c.pages.invariant
    round.Ready left

pub pages-preserved : goal.pages-preserved
pages-preserved g c =
    let w = g.T.Turns.standing c.args.turns.now in
    let v = g.T.Turns.standing c.pages.turns in
    let x = g.T.Turns.standing c.advance-now.new.turns in
    let left = subst (λ (r : Round). (begun : List Entry) → WriteIsUnderWay v.number c.args.file c.args.page begun v.seen → WriteRoundLeft v.setup v.number c.args.file c.args.page r begun x.seen) c.in-GoesOn.is c.advance-now.ensures.left in
    comes-on g.T.Disk.Told.told g.T.Disk.Told.faults w v x c.args.file c.args.page c.pages.book c.advance-now.result.0 c.pages.disk c.advance-now.new.disk c.pages.invariant
    c.advance-now.ensures.both c.advance-now.ensures.went
    (round-on g.T.Disk.Told.told g.T.Disk.Told.faults w v x c.args.file c.args.page c.pages.book c.advance-now.result.0 c.pages.disk c.advance-now.new.disk c.pages.invariant round.GoesOn left)

pub returns-in-Ended-clause-full : goal.returns-in-Ended-clause-full
returns-in-Ended-clause-full g c =
    subst (λ (r : Round). IsFullWriteRound c.args.file c.args.page (g.T.Turns.standing c.advance-now.new.turns) r) c.in-Ended.is c.advance-now.ensures.full

pub returns-in-Ready-clause-full : goal.returns-in-Ready-clause-full
returns-in-Ready-clause-full g c = inl tt

pub pages-smaller : goal.pages-smaller
pages-smaller g c =
    let v = g.T.Turns.standing c.pages.turns in
    let x = g.T.Turns.standing c.advance-now.new.turns in
    let it = call.NcWrite c.args.file c.args.page in
    steps-less x.setup c.args.file.stream it it c.pages.rounds c.advance-now.new.rounds v.seen x.seen (so-far x.setup x.seen c.advance-now.ensures.both.book.good)
    (subst (λ (r : Round). WriteIsNearer c.args.file c.args.page r c.pages.rounds c.advance-now.new.rounds v.seen x.seen) c.in-GoesOn.is c.advance-now.ensures.nearer)
