-- By the look at a page that was written for the read: the read ended, or a place is reserved and the disk is read.
use Rattle.std.specs.Prelude.{ℕ}
use Rattle.std.proofs.Common.{sym, ◌∙◌, subst, inl}
use Rattle.cc_writes.specs.Writes.{HasBoth}
use Rattle.cc_writes.proofs.Disks.{still_of}
use Rattle.cc_ranges.specs.ReadVisits.{IsAtRead, ReadEnded}
use Rattle.cc_ranges.proofs.ReadHolding.{said-before, said-after}
use Rattle.cc_ranges.proofs.read_held.read_written.Goals as goal

pub read_disk-requires-clause-both : goal.read_disk-requires-clause-both
read_disk-requires-clause-both g c =
    let w = g.T.Turns.standing c.args.turns.now in
    let v = g.T.Turns.standing c.look_at.new.turns in
    let file = c.args.file in
    subst (λ (n : ℕ). HasBoth g.T.Disk.Told.told g.T.Disk.Told.faults v n c.look_at.new.book c.args.disk.now) (c.requires.stream ∙ sym c.look_at.ensures.book.stream)
    (still_of g.T.Disk.Told.told g.T.Disk.Told.faults 1 w v c.args.book.stream file.stream c.args.book c.look_at.new.book c.args.disk.now
    (sym c.requires.stream) c.requires.both c.look_at.ensures.book c.look_at.ensures.rest c.in-Reads.ensures.went c.look_at.ensures.disk)

pub read_disk-requires-clause-wanted : goal.read_disk-requires-clause-wanted
read_disk-requires-clause-wanted g c =
    let w = g.T.Turns.standing c.args.turns.now in
    let v = g.T.Turns.standing c.look_at.new.turns in
    let file = c.args.file in
    let page = c.args.page in
    let some = c.requires.reading in
    (some.0, said-after (λ u n. IsAtRead u n file page some.0 v.seen) 1 w v c.in-Reads.ensures.went (c.in-Reads.ensures.left some.0 some.1))

pub returns-in-Ended-clause-both : goal.returns-in-Ended-clause-both
returns-in-Ended-clause-both g c =
    let w = g.T.Turns.standing c.args.turns.now in
    let v = g.T.Turns.standing c.look_at.new.turns in
    let file = c.args.file in
    still_of g.T.Disk.Told.told g.T.Disk.Told.faults w.in_flight w v c.args.book.stream file.stream c.args.book c.look_at.new.book c.args.disk.now
    (sym c.requires.stream) c.requires.both c.look_at.ensures.book c.look_at.ensures.rest c.in-Ended.ensures.went c.look_at.ensures.disk

pub returns-in-Ended-clause-left : goal.returns-in-Ended-clause-left
returns-in-Ended-clause-left g c begun is =
    c.in-Ended.ensures.left begun (is) c.args.out.now

pub returns-in-Reads-clause-left : goal.returns-in-Reads-clause-left
returns-in-Reads-clause-left g c begun is =
    let w = g.T.Turns.standing c.args.turns.now in
    let v = g.T.Turns.standing c.look_at.new.turns in
    let file = c.args.file in
    let page = c.args.page in
    said-before (λ u n. ReadEnded u n file page c.read_disk.result.1 begun (g.T.Turns.standing c.read_disk.new.turns).seen c.args.out.now c.read_disk.new.out) 1 w v c.in-Reads.ensures.went
    (c.read_disk.ensures.left begun (said-after (λ u n. IsAtRead u n file page begun v.seen) 1 w v c.in-Reads.ensures.went (c.in-Reads.ensures.left begun (is))))

pub returns-in-Ended-clause-full : goal.returns-in-Ended-clause-full
returns-in-Ended-clause-full g c = inl c.in-Ended.ensures.full

pub returns-in-Reads-clause-full : goal.returns-in-Reads-clause-full
returns-in-Reads-clause-full g c = inl c.read_disk.ensures.full
