-- By the first look: the read ended, its dirty page is written first, or a place is reserved and the disk is read.
use Rattle.std.specs.Prelude.{ℕ, false, List}
use Rattle.std.proofs.Common.{sym, ◌∙◌, subst, arith, inl}
use Rattle.cc_entry.specs.declared.entry.Entry.{Entry}
use Rattle.cc_effects.specs.Calls.{IsUnderWay}
use Rattle.cc_effects.proofs.Starts.{begins}
use Rattle.cc_entry.specs.declared.call.Call.TheVariants as call
use Rattle.cc_writes.specs.Writes.{HasBoth}
use Rattle.cc_writes.proofs.Disks.{still_of}
use Rattle.cc_ranges.specs.ReadVisits.{IsAtRead, IsReading, IsToWriteFirst, ReadEnded}
use Rattle.cc_ranges.proofs.ReadHolding.{said-before, said-after, begins-reading}
use Rattle.cc_ranges.proofs.read_held.read_held.Goals as goal

pub write_first-requires-clause-both : goal.write_first-requires-clause-both
write_first-requires-clause-both g c =
    let w = g.T.Turns.standing c.args.turns.now in
    let v = g.T.Turns.standing c.look_at.new.turns in
    let file = c.args.file in
    subst (λ (n : ℕ). HasBoth g.T.Disk.Told.told g.T.Disk.Told.faults v n c.look_at.new.book c.args.disk.now) (c.requires.stream ∙ sym c.look_at.ensures.book.stream)
    (still_of g.T.Disk.Told.told g.T.Disk.Told.faults w.in_flight w v c.args.book.stream file.stream c.args.book c.look_at.new.book c.args.disk.now
    (sym c.requires.stream) c.requires.both c.look_at.ensures.book c.look_at.ensures.rest c.in-Writes.ensures.went c.look_at.ensures.disk)

pub write_first-requires-clause-dirty : goal.write_first-requires-clause-dirty
write_first-requires-clause-dirty g c =
    let w = g.T.Turns.standing c.args.turns.now in
    let v = g.T.Turns.standing c.look_at.new.turns in
    let file = c.args.file in
    let page = c.args.page in
    said-after (λ u n. IsToWriteFirst u file page v.seen) w.in_flight w v c.in-Writes.ensures.went c.in-Writes.ensures.asks.1

pub read_disk-requires-clause-both : goal.read_disk-requires-clause-both
read_disk-requires-clause-both g c =
    let w = g.T.Turns.standing c.args.turns.now in
    let v = g.T.Turns.standing c.look_at.new.turns in
    let file = c.args.file in
    subst (λ (n : ℕ). HasBoth g.T.Disk.Told.told g.T.Disk.Told.faults v n c.look_at.new.book c.args.disk.now) (c.requires.stream ∙ sym c.look_at.ensures.book.stream)
    (still_of g.T.Disk.Told.told g.T.Disk.Told.faults 1 w v c.args.book.stream file.stream c.args.book c.look_at.new.book c.args.disk.now
    (sym c.requires.stream) c.requires.both c.look_at.ensures.book c.look_at.ensures.rest c.in-Reads.ensures.went c.look_at.ensures.disk)

pub read_disk-requires-clause-wanted : goal.read_disk-requires-clause-wanted
read_disk-requires-clause-wanted g c =
    let w = g.T.Turns.standing c.args.turns.now in
    let v = g.T.Turns.standing c.look_at.new.turns in
    let file = c.args.file in
    let page = c.args.page in
    let some : (begun : List Entry) × IsReading w.number file page false begun w.seen =
    (w.seen, begins-reading w.number file page w.seen w.seen (begins w.number (call.NcRead file page) w.seen)) in
    (some.0, said-after (λ u n. IsAtRead u n file page some.0 v.seen) 1 w v c.in-Reads.ensures.went (c.in-Reads.ensures.left some.0 some.1))

pub returns-in-Ended-clause-both : goal.returns-in-Ended-clause-both
returns-in-Ended-clause-both g c =
    let w = g.T.Turns.standing c.args.turns.now in
    let v = g.T.Turns.standing c.look_at.new.turns in
    let file = c.args.file in
    still_of g.T.Disk.Told.told g.T.Disk.Told.faults w.in_flight w v c.args.book.stream file.stream c.args.book c.look_at.new.book c.args.disk.now
    (sym c.requires.stream) c.requires.both c.look_at.ensures.book c.look_at.ensures.rest c.in-Ended.ensures.went c.look_at.ensures.disk

pub returns-in-Ended-clause-left : goal.returns-in-Ended-clause-left
returns-in-Ended-clause-left g c begun is =
    let w = g.T.Turns.standing c.args.turns.now in
    let file = c.args.file in
    let page = c.args.page in
    c.in-Ended.ensures.left begun (begins-reading w.number file page begun w.seen is) c.args.out.now

pub returns-in-Writes-clause-left : goal.returns-in-Writes-clause-left
returns-in-Writes-clause-left g c begun is =
    let w = g.T.Turns.standing c.args.turns.now in
    let v = g.T.Turns.standing c.look_at.new.turns in
    let file = c.args.file in
    let page = c.args.page in
    said-before (λ u n. ReadEnded u n file page c.write_first.result.1 begun (g.T.Turns.standing c.write_first.new.turns).seen c.args.out.now c.write_first.new.out) w.in_flight w v c.in-Writes.ensures.went
    (c.write_first.ensures.left begun (said-after (λ u n. IsUnderWay n (call.NcRead file page) begun v.seen) w.in_flight w v c.in-Writes.ensures.went (c.in-Writes.ensures.left begun (begins-reading w.number file page begun w.seen is))))

pub returns-in-Reads-clause-left : goal.returns-in-Reads-clause-left
returns-in-Reads-clause-left g c begun is =
    let w = g.T.Turns.standing c.args.turns.now in
    let v = g.T.Turns.standing c.look_at.new.turns in
    let file = c.args.file in
    let page = c.args.page in
    said-before (λ u n. ReadEnded u n file page c.read_disk.result.1 begun (g.T.Turns.standing c.read_disk.new.turns).seen c.args.out.now c.read_disk.new.out) 1 w v c.in-Reads.ensures.went
    (c.read_disk.ensures.left begun (said-after (λ u n. IsAtRead u n file page begun v.seen) 1 w v c.in-Reads.ensures.went (c.in-Reads.ensures.left begun (begins-reading w.number file page begun w.seen is))))

pub returns-in-Writes-clause-unread : goal.returns-in-Writes-clause-unread
returns-in-Writes-clause-unread g c beyond = absurd (omega (arith, beyond, c.in-Writes.ensures.below))

pub returns-in-Reads-clause-unread : goal.returns-in-Reads-clause-unread
returns-in-Reads-clause-unread g c beyond = absurd (omega (arith, beyond, c.in-Reads.ensures.below))

pub returns-in-Ended-clause-full : goal.returns-in-Ended-clause-full
returns-in-Ended-clause-full g c = inl c.in-Ended.ensures.full

pub returns-in-Reads-clause-full : goal.returns-in-Reads-clause-full
returns-in-Reads-clause-full g c = inl c.read_disk.ensures.full
