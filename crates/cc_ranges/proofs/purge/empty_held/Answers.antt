-- Each round goes on with a purge under way, with less left to do and nobody else there, and one that ends is the answer.
use Rattle.std.specs.Prelude.{◌<◌, ℕ, true, refl, List}
use Rattle.std.proofs.Common.{sym, ◌∙◌, subst}
use Rattle.cc_entry.specs.declared.call.Call.TheVariants as call
use Rattle.cc_entry.specs.declared.entry.Entry.{Entry}
use Rattle.cc_effects.specs.Calls.{IsUnderWay}
use Rattle.cc_ranges.specs.Purge.{left_to_empty}
use Rattle.cc_writes.proofs.Alone.{alone-begins, alone-then}
use Rattle.cc_ranges.proofs.PurgeHolding.{comes-first, round-on, comes-on, placed-on, still-left, ended-left, ended-full}
use Rattle.cc_ranges.proofs.PurgeRounds.{ended-alone, still-alone, still-less}
use Rattle.cc_ranges.proofs.purge.empty_held.Goals as goal

pub pages-init : goal.pages-init
pages-init g c =
    let w = g.T.Turns.standing c.args.turns.now in
    record {
      on = comes-first g.T.Disk.Told.told g.T.Disk.Told.faults w c.args.file c.args.span.now c.args.book c.args.disk.now c.requires.stream c.requires.known c.requires.both c.requires.none;
      alone = alone-begins w.number c.args.file.stream w.seen;
    }

pub returns-in-Some-clause-left : goal.returns-in-Some-clause-left
returns-in-Some-clause-left g c begun way =
    let w = g.T.Turns.standing c.args.turns.now in
    let v = g.T.Turns.standing c.pages.turns in
    let x = g.T.Turns.standing c.advance-now.new.turns in
    ended-left w.setup w.number c.args.file c.args.span.now c.advance-now.result.1 c.in-Some.answer begun x.seen (sym c.ended_of.ensures ∙ c.in-Some.is)
    (round-on g.T.Disk.Told.told g.T.Disk.Told.faults w v x c.args.file c.args.span.now 0 c.pages.book c.advance-now.result.0 c.pages.disk c.advance-now.new.disk c.pages.invariant.on
    c.advance-now.result.1 c.advance-now.ensures.left begun way)

pub returns-in-Some-clause-full : goal.returns-in-Some-clause-full
returns-in-Some-clause-full g c =
    ended-full (call.Purge c.args.file c.args.span.now) (g.T.Turns.standing c.advance-now.new.turns) c.advance-now.result.1 c.in-Some.answer (sym c.ended_of.ensures ∙ c.in-Some.is) c.advance-now.ensures.full

pub returns-in-Some-clause-alone : goal.returns-in-Some-clause-alone
returns-in-Some-clause-alone g c =
    let w = g.T.Turns.standing c.args.turns.now in
    let v = g.T.Turns.standing c.pages.turns in
    let x = g.T.Turns.standing c.advance-now.new.turns in
    ended-alone w.number c.args.file.stream 0 c.advance-now.result.1 c.in-Some.answer w.seen v.seen x.seen (sym c.ended_of.ensures ∙ c.in-Some.is) c.pages.invariant.alone
    (placed-on g.T.Disk.Told.told g.T.Disk.Told.faults w v x c.args.file c.args.span.now 0 c.pages.book c.advance-now.result.0 c.pages.disk c.advance-now.new.disk c.pages.invariant.on
    0 true c.advance-now.result.1 c.advance-now.ensures.placed)

pub pages-preserved : goal.pages-preserved
pages-preserved g c =
    let w = g.T.Turns.standing c.args.turns.now in
    let v = g.T.Turns.standing c.pages.turns in
    let x = g.T.Turns.standing c.advance-now.new.turns in
    let none = sym c.ended_of.ensures ∙ c.in-None.is in
    let left : (begun : List Entry) → IsUnderWay w.number (call.Purge c.args.file c.args.span.now) begun w.seen → IsUnderWay w.number (call.Purge c.args.file c.args.span.now) begun x.seen =
    λ begun way. still-left w.setup w.number c.args.file c.args.span.now c.advance-now.result.1 begun x.seen none
    (round-on g.T.Disk.Told.told g.T.Disk.Told.faults w v x c.args.file c.args.span.now 0 c.pages.book c.advance-now.result.0 c.pages.disk c.advance-now.new.disk c.pages.invariant.on
    c.advance-now.result.1 c.advance-now.ensures.left begun way) in
    record {
      on =
          comes-on g.T.Disk.Told.told g.T.Disk.Told.faults w v x c.args.file c.args.span.now 0 c.pages.book c.advance-now.result.0 c.pages.disk c.advance-now.new.disk c.pages.invariant.on
          c.advance-now.ensures.both c.advance-now.ensures.went 0 c.pages.invariant.on.within left;
      alone =
          alone-then w.number c.args.file.stream w.seen v.seen x.seen c.pages.invariant.alone
          (still-alone w.number c.args.file.stream 0 c.advance-now.result.1 v.seen x.seen none
          (placed-on g.T.Disk.Told.told g.T.Disk.Told.faults w v x c.args.file c.args.span.now 0 c.pages.book c.advance-now.result.0 c.pages.disk c.advance-now.new.disk c.pages.invariant.on
          0 true c.advance-now.result.1 c.advance-now.ensures.placed));
    }

pub pages-smaller : goal.pages-smaller
pages-smaller g c =
    let v = g.T.Turns.standing c.pages.turns in
    let x = g.T.Turns.standing c.advance-now.new.turns in
    subst (λ (n : ℕ). left_to_empty n x.seen < left_to_empty n v.seen) c.pages.invariant.on.stream
    (still-less c.pages.book.stream c.advance-now.result.1 v.seen x.seen (sym c.ended_of.ensures ∙ c.in-None.is) (c.advance-now.ensures.lessens refl refl))
