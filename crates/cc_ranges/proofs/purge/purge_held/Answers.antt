-- The page that the purge came to rises; each round leaves it under way, at the end of its span, or ended.
use Rattle.std.specs.Prelude.{ℕ, false, List}
use Rattle.std.proofs.Common.{ap, ◌∙◌, subst}
use Rattle.cc_entry.specs.declared.call.Call.TheVariants as call
use Rattle.cc_entry.specs.declared.entry.Entry.{Entry}
use Rattle.cc_effects.specs.Calls.{IsUnderWay}
use Rattle.cc_turns.specs.Standing.{Standing}
use Rattle.cc_writes.specs.Alone.{NobodyElseChanged}
use Rattle.cc_ranges.specs.Flush.{outcome_of}
use Rattle.cc_ranges.specs.Purge.{IsFullPurgeRound, PurgeRoundRises, PurgeRoundLeft, RoundPlaced}
use Rattle.cc_ranges.specs.declared.purge.Round.{Round}
use Rattle.cc_ranges.specs.declared.purge.Round.TheVariants as round
use Rattle.cc_ranges.proofs.PurgeHolding.{comes-first, round-on, comes-on, placed-on, ended-on}
use Rattle.cc_ranges.proofs.PurgeRounds.{emptied-done, emptied-ended, emptied-failed, emptied-then, failed-ended, up-begins, up-wrote}
use Rattle.cc_ranges.proofs.purge.purge_held.Goals as goal

pub pages-init : goal.pages-init
pages-init g c =
    let w = g.T.Turns.standing c.args.turns.now in
    record {
      on = comes-first g.T.Disk.Told.told g.T.Disk.Told.faults w c.args.file c.args.span c.args.book c.args.disk.now c.requires.stream c.requires.known c.requires.both c.requires.none;
      up = up-begins w.number w.seen;
    }

pub returns-in-Ended-clause-left : goal.returns-in-Ended-clause-left
returns-in-Ended-clause-left g c begun way =
    let w = g.T.Turns.standing c.args.turns.now in
    let v = g.T.Turns.standing c.pages.turns in
    let x = g.T.Turns.standing c.advance-now.new.turns in
    let left = subst (λ (r : Round). (begun : List Entry) → IsUnderWay v.number (call.Purge c.args.file c.args.span) begun v.seen → PurgeRoundLeft v.setup v.number c.args.file c.args.span r begun x.seen) c.in-Ended.is c.advance-now.ensures.left in
    round-on g.T.Disk.Told.told g.T.Disk.Told.faults w v x c.args.file c.args.span c.pages.from c.pages.book c.advance-now.result.0 c.pages.disk c.advance-now.new.disk c.pages.invariant.on
    (round.Ended c.in-Ended.answer) left begun way

pub pages-preserved : goal.pages-preserved
pages-preserved g c =
    let w = g.T.Turns.standing c.args.turns.now in
    let v = g.T.Turns.standing c.pages.turns in
    let x = g.T.Turns.standing c.advance-now.new.turns in
    let left = subst (λ (r : Round). (begun : List Entry) → IsUnderWay v.number (call.Purge c.args.file c.args.span) begun v.seen → PurgeRoundLeft v.setup v.number c.args.file c.args.span r begun x.seen) c.in-CameTo.is c.advance-now.ensures.left in
    let rising = subst (λ (r : Round). PurgeRoundRises r c.pages.from) c.in-CameTo.is c.advance-now.ensures.rising in
    let placed =
    placed-on g.T.Disk.Told.told g.T.Disk.Told.faults w v x c.args.file c.args.span c.pages.from c.pages.book c.advance-now.result.0 c.pages.disk c.advance-now.new.disk c.pages.invariant.on
    c.pages.from false c.advance-now.result.1 c.advance-now.ensures.placed in
    record {
      on =
          comes-on g.T.Disk.Told.told g.T.Disk.Told.faults w v x c.args.file c.args.span c.pages.from c.pages.book c.advance-now.result.0 c.pages.disk c.advance-now.new.disk c.pages.invariant.on
          c.advance-now.ensures.both c.advance-now.ensures.went c.in-CameTo.page rising.1
          (round-on g.T.Disk.Told.told g.T.Disk.Told.faults w v x c.args.file c.args.span c.pages.from c.pages.book c.advance-now.result.0 c.pages.disk c.advance-now.new.disk c.pages.invariant.on (round.CameTo c.in-CameTo.page) left);
      up =
          up-wrote w.number c.pages.from c.in-CameTo.page w.seen v.seen x.seen c.pages.invariant.up
          (subst (λ (r : Round). RoundPlaced w.number c.args.file.stream c.pages.from false r v.seen x.seen) c.in-CameTo.is placed).0;
    }

pub returns-in-GoesOn-clause-left : goal.returns-in-GoesOn-clause-left
returns-in-GoesOn-clause-left g c begun way =
    let w = g.T.Turns.standing c.args.turns.now in
    let v = g.T.Turns.standing c.pages.turns in
    let x = g.T.Turns.standing c.advance-now.new.turns in
    let left = subst (λ (r : Round). (begun : List Entry) → IsUnderWay v.number (call.Purge c.args.file c.args.span) begun v.seen → PurgeRoundLeft v.setup v.number c.args.file c.args.span r begun x.seen) c.in-GoesOn.is c.advance-now.ensures.left in
    let still = round-on g.T.Disk.Told.told g.T.Disk.Told.faults w v x c.args.file c.args.span c.pages.from c.pages.book c.advance-now.result.0 c.pages.disk c.advance-now.new.disk c.pages.invariant.on round.GoesOn left in
    ended-on g.T.Disk.Told.told g.T.Disk.Told.faults w v x c.args.file c.args.span c.pages.from c.pages.book c.advance-now.result.0 c.pages.disk c.advance-now.new.disk c.pages.invariant.on
    (outcome_of c.empty_held.result.1) (g.T.Turns.standing c.empty_held.new.turns).seen c.empty_held.ensures.left c.advance-now.ensures.went still begun way

-- it was emptied with nobody else there
pub returns-in-Ended-clause-emptied : goal.returns-in-Ended-clause-emptied
returns-in-Ended-clause-emptied g c =
    let w = g.T.Turns.standing c.args.turns.now in
    let v = g.T.Turns.standing c.pages.turns in
    let x = g.T.Turns.standing c.advance-now.new.turns in
    let placed =
    placed-on g.T.Disk.Told.told g.T.Disk.Told.faults w v x c.args.file c.args.span c.pages.from c.pages.book c.advance-now.result.0 c.pages.disk c.advance-now.new.disk c.pages.invariant.on
    c.pages.from false c.advance-now.result.1 c.advance-now.ensures.placed in
    emptied-ended w.number c.args.file.stream c.pages.from false c.in-Ended.answer w.seen v.seen x.seen c.pages.invariant.up
    (subst (λ (r : Round). RoundPlaced w.number c.args.file.stream c.pages.from false r v.seen x.seen) c.in-Ended.is placed)

pub returns-in-Ended-clause-failed : goal.returns-in-Ended-clause-failed
returns-in-Ended-clause-failed g c =
    let w = g.T.Turns.standing c.args.turns.now in
    let v = g.T.Turns.standing c.pages.turns in
    let x = g.T.Turns.standing c.advance-now.new.turns in
    let placed =
    placed-on g.T.Disk.Told.told g.T.Disk.Told.faults w v x c.args.file c.args.span c.pages.from c.pages.book c.advance-now.result.0 c.pages.disk c.advance-now.new.disk c.pages.invariant.on
    c.pages.from false c.advance-now.result.1 c.advance-now.ensures.placed in
    failed-ended w.number c.args.file.stream c.pages.from false c.in-Ended.answer w.seen v.seen x.seen c.pages.invariant.up
    (subst (λ (r : Round). RoundPlaced w.number c.args.file.stream c.pages.from false r v.seen x.seen) c.in-Ended.is placed)

pub returns-in-GoesOn-clause-emptied : goal.returns-in-GoesOn-clause-emptied
returns-in-GoesOn-clause-emptied g c =
    let w = g.T.Turns.standing c.args.turns.now in
    let v = g.T.Turns.standing c.pages.turns in
    let x = g.T.Turns.standing c.advance-now.new.turns in
    let y = g.T.Turns.standing c.empty_held.new.turns in
    let placed =
    placed-on g.T.Disk.Told.told g.T.Disk.Told.faults w v x c.args.file c.args.span c.pages.from c.pages.book c.advance-now.result.0 c.pages.disk c.advance-now.new.disk c.pages.invariant.on
    c.pages.from false c.advance-now.result.1 c.advance-now.ensures.placed in
    let number = ap (λ (y : Standing). y.number) c.advance-now.ensures.went.same ∙ ap (λ (y : Standing). y.number) c.pages.invariant.on.went.same in
    let emptied =
    emptied-then w.number c.args.file.stream c.pages.from w.seen v.seen x.seen y.seen c.pages.invariant.up
    (subst (λ (r : Round). RoundPlaced w.number c.args.file.stream c.pages.from false r v.seen x.seen) c.in-GoesOn.is placed)
    (subst (λ (n : ℕ). NobodyElseChanged n c.args.file.stream x.seen y.seen) number c.empty_held.ensures.alone) in
    emptied-done w.number c.args.file.stream c.empty_held.result.1 w.seen y.seen emptied

-- or failed so
pub returns-in-GoesOn-clause-failed : goal.returns-in-GoesOn-clause-failed
returns-in-GoesOn-clause-failed g c =
    let w = g.T.Turns.standing c.args.turns.now in
    let v = g.T.Turns.standing c.pages.turns in
    let x = g.T.Turns.standing c.advance-now.new.turns in
    let y = g.T.Turns.standing c.empty_held.new.turns in
    let placed =
    placed-on g.T.Disk.Told.told g.T.Disk.Told.faults w v x c.args.file c.args.span c.pages.from c.pages.book c.advance-now.result.0 c.pages.disk c.advance-now.new.disk c.pages.invariant.on
    c.pages.from false c.advance-now.result.1 c.advance-now.ensures.placed in
    let number = ap (λ (y : Standing). y.number) c.advance-now.ensures.went.same ∙ ap (λ (y : Standing). y.number) c.pages.invariant.on.went.same in
    let emptied =
    emptied-then w.number c.args.file.stream c.pages.from w.seen v.seen x.seen y.seen c.pages.invariant.up
    (subst (λ (r : Round). RoundPlaced w.number c.args.file.stream c.pages.from false r v.seen x.seen) c.in-GoesOn.is placed)
    (subst (λ (n : ℕ). NobodyElseChanged n c.args.file.stream x.seen y.seen) number c.empty_held.ensures.alone) in
    emptied-failed w.number c.args.file.stream c.empty_held.result.1 w.seen y.seen emptied

pub returns-in-Ended-clause-full : goal.returns-in-Ended-clause-full
returns-in-Ended-clause-full g c =
    let x = g.T.Turns.standing c.advance-now.new.turns in
    subst (λ (r : Round). IsFullPurgeRound (call.Purge c.args.file c.args.span) x r) c.in-Ended.is c.advance-now.ensures.full
