-- The page that the flush came to rises; each round leaves a flush under way, its sync or its end.
use Rattle.std.specs.Prelude.{◌^◌, List}
use Rattle.std.proofs.Common.{inl, subst}
use Rattle.cc_entry.specs.declared.entry.Entry.{Entry}
use Rattle.cc_effects.proofs.Starts.{begins}
use Rattle.cc_entry.specs.declared.call.Call.TheVariants as call
use Rattle.cc_ranges.specs.Flush.{IsFlushing, IsFullFlushRound, FlushRoundRises, RoundBegins, FlushRoundLeft, RoundWent, outcome_of}
use Rattle.cc_ranges.specs.declared.flush.Round.{Round}
use Rattle.cc_ranges.specs.declared.flush.Round.TheVariants as round
use Rattle.cc_ranges.proofs.FlushHolding.{begun-ended, begun-on, comes-first, some-flushing, round-on, comes-on, at-sync-on, ended-on}
use Rattle.cc_ranges.proofs.flush.flush_with_book.Goals as goal

pub write_next-now-requires-clause-flushing : goal.write_next-now-requires-clause-flushing
write_next-now-requires-clause-flushing g c =
    let w = g.T.Turns.standing c.args.turns.now in
    let v = g.T.Turns.standing c.pages.turns in
    some-flushing g.T.Disk.Told.told g.T.Disk.Told.faults w v v c.args.file c.args.span c.pages.from c.pages.book c.pages.book c.pages.disk c.pages.disk c.pages.invariant

pub returns-in-Ended-clause-left : goal.returns-in-Ended-clause-left
returns-in-Ended-clause-left g c begun way =
    let w = g.T.Turns.standing c.args.turns.now in
    let v = g.T.Turns.standing c.pages.turns in
    let x = g.T.Turns.standing c.write_next-now.new.turns in
    let left = subst (λ (r : Round). (begun : List Entry) → IsFlushing v.number c.args.file c.args.span c.pages.from begun v.seen → FlushRoundLeft v.setup v.number c.args.file c.args.span r begun x.seen) c.in-Ended.is c.write_next-now.ensures.left in
    round-on g.T.Disk.Told.told g.T.Disk.Told.faults w v x c.args.file c.args.span c.pages.from c.pages.book c.write_next-now.result.0 c.pages.disk c.write_next-now.new.disk c.pages.invariant
    (round.Ended c.in-Ended.error) left begun way

pub pages-preserved : goal.pages-preserved
pages-preserved g c =
    let w = g.T.Turns.standing c.args.turns.now in
    let v = g.T.Turns.standing c.pages.turns in
    let x = g.T.Turns.standing c.write_next-now.new.turns in
    let left = subst (λ (r : Round). (begun : List Entry) → IsFlushing v.number c.args.file c.args.span c.pages.from begun v.seen → FlushRoundLeft v.setup v.number c.args.file c.args.span r begun x.seen) c.in-CameTo.is c.write_next-now.ensures.left in
    let went = subst (λ (r : Round). RoundWent r v x) c.in-CameTo.is c.write_next-now.ensures.went in
    let rising = subst (λ (r : Round). FlushRoundRises r c.pages.from) c.in-CameTo.is c.write_next-now.ensures.rising in
    let more = subst (λ (r : Round). RoundBegins v.number r c.pages.from v.seen x.seen) c.in-CameTo.is c.write_next-now.ensures.ascending in
    comes-on g.T.Disk.Told.told g.T.Disk.Told.faults w v x c.args.file c.args.span c.pages.from c.pages.book c.write_next-now.result.0 c.pages.disk c.write_next-now.new.disk c.pages.invariant
    c.in-CameTo.page c.write_next-now.ensures.both went rising.1 more left

pub sync_held-requires-clause-at : goal.sync_held-requires-clause-at
sync_held-requires-clause-at g c =
    let w = g.T.Turns.standing c.args.turns.now in
    let v = g.T.Turns.standing c.pages.turns in
    let x = g.T.Turns.standing c.write_next-now.new.turns in
    let left = subst (λ (r : Round). (begun : List Entry) → IsFlushing v.number c.args.file c.args.span c.pages.from begun v.seen → FlushRoundLeft v.setup v.number c.args.file c.args.span r begun x.seen) c.in-Syncs.is c.write_next-now.ensures.left in
    let went = subst (λ (r : Round). RoundWent r v x) c.in-Syncs.is c.write_next-now.ensures.went in (
      w.seen,
      at-sync-on g.T.Disk.Told.told g.T.Disk.Told.faults w v x c.args.file c.args.span c.pages.from c.pages.book c.write_next-now.result.0 c.pages.disk c.write_next-now.new.disk c.pages.invariant
          1 went left w.seen (begins w.number (call.Flush c.args.file c.args.span) w.seen),
    )

pub returns-in-Syncs-clause-left : goal.returns-in-Syncs-clause-left
returns-in-Syncs-clause-left g c begun way =
    let w = g.T.Turns.standing c.args.turns.now in
    let v = g.T.Turns.standing c.pages.turns in
    let x = g.T.Turns.standing c.write_next-now.new.turns in
    let left = subst (λ (r : Round). (begun : List Entry) → IsFlushing v.number c.args.file c.args.span c.pages.from begun v.seen → FlushRoundLeft v.setup v.number c.args.file c.args.span r begun x.seen) c.in-Syncs.is c.write_next-now.ensures.left in
    let went = subst (λ (r : Round). RoundWent r v x) c.in-Syncs.is c.write_next-now.ensures.went in
    ended-on g.T.Disk.Told.told g.T.Disk.Told.faults w v x c.args.file c.args.span c.pages.from c.pages.book c.write_next-now.result.0 c.pages.disk c.write_next-now.new.disk c.pages.invariant 1 went
    (outcome_of c.sync_held.result.1) begun (g.T.Turns.standing c.sync_held.new.turns).seen
    (c.sync_held.ensures.left begun
    (at-sync-on g.T.Disk.Told.told g.T.Disk.Told.faults w v x c.args.file c.args.span c.pages.from c.pages.book c.write_next-now.result.0 c.pages.disk c.write_next-now.new.disk c.pages.invariant 1 went left begun way))

pub write_next-now-requires-clause-within : goal.write_next-now-requires-clause-within
write_next-now-requires-clause-within g c = c.pages.invariant.within

pub returns-in-Ended-clause-ascending : goal.returns-in-Ended-clause-ascending
returns-in-Ended-clause-ascending g c =
    let w = g.T.Turns.standing c.args.turns.now in
    let v = g.T.Turns.standing c.pages.turns in
    let x = g.T.Turns.standing c.write_next-now.new.turns in
    begun-on g.T.Disk.Told.told g.T.Disk.Told.faults w v x c.args.file c.args.span c.pages.from c.pages.book c.write_next-now.result.0 c.pages.disk c.write_next-now.new.disk c.pages.invariant
    (2 ^ 51) (subst (λ (r : Round). RoundBegins v.number r c.pages.from v.seen x.seen) c.in-Ended.is c.write_next-now.ensures.ascending)

pub returns-in-Syncs-clause-ascending : goal.returns-in-Syncs-clause-ascending
returns-in-Syncs-clause-ascending g c =
    let w = g.T.Turns.standing c.args.turns.now in
    let v = g.T.Turns.standing c.pages.turns in
    let x = g.T.Turns.standing c.write_next-now.new.turns in
    let went = subst (λ (r : Round). RoundWent r v x) c.in-Syncs.is c.write_next-now.ensures.went in
    begun-ended g.T.Disk.Told.told g.T.Disk.Told.faults w v x c.args.file c.args.span c.pages.from c.pages.book c.write_next-now.result.0 c.pages.disk c.write_next-now.new.disk c.pages.invariant 1 went
    (subst (λ (r : Round). RoundBegins v.number r c.pages.from v.seen x.seen) c.in-Syncs.is c.write_next-now.ensures.ascending)
    (g.T.Turns.standing c.sync_held.new.turns).seen c.sync_held.ensures.begun

pub pages-init : goal.pages-init
pages-init g c =
    comes-first g.T.Disk.Told.told g.T.Disk.Told.faults (g.T.Turns.standing c.args.turns.now) c.args.file c.args.span c.args.book c.args.disk.now
    c.requires.stream c.requires.known c.requires.both c.requires.none

pub returns-in-Ended-clause-full : goal.returns-in-Ended-clause-full
returns-in-Ended-clause-full g c =
    let x = g.T.Turns.standing c.write_next-now.new.turns in
    subst (λ (r : Round). IsFullFlushRound (call.Flush c.args.file c.args.span) x r) c.in-Ended.is c.write_next-now.ensures.full

pub returns-in-Syncs-clause-full : goal.returns-in-Syncs-clause-full
returns-in-Syncs-clause-full g c = inl c.sync_held.ensures.full
