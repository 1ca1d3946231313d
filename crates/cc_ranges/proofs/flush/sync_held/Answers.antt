-- The entry of the sync brings the flush to its end; what the end leaves is what the flush leaves.
use Rattle.std.specs.Prelude.{ℕ}
use Rattle.std.proofs.Common.{sym, subst}
use Rattle.cc_writes.proofs.Disks.{still_of}
use Rattle.cc_ranges.specs.Flush.{IsSyncTold, outcome_of}
use Rattle.cc_ranges.proofs.FlushHolding.{at-end-of, begun-end, ended-of}
use Rattle.cc_ranges.proofs.flush.sync_held.Goals as goal

pub end-answer-requires-clause-at : goal.end-answer-requires-clause-at
end-answer-requires-clause-at g c =
    let w = g.T.Turns.standing c.args.turns.now in
    let v = g.T.Turns.standing c.sync_free-book.new.turns in
    let told = subst (λ (s : ℕ). IsSyncTold w s c.sync_free-book.result.1 v.seen) c.requires.stream c.sync_free-book.ensures.told in
    (c.requires.at.0, at-end-of w v c.args.file c.args.span.now c.sync_free-book.result.1 c.sync_free-book.ensures.went told c.requires.at.0 c.requires.at.1)

pub returns-clause-both : goal.returns-clause-both
returns-clause-both g c =
    let v = g.T.Turns.standing c.sync_free-book.new.turns in
    let x = g.T.Turns.standing c.end-answer.new.turns in
    still_of g.T.Disk.Told.told g.T.Disk.Told.faults v.in_flight v x c.args.book.stream c.args.file.stream c.sync_free-book.result.0 c.end-answer.new.book c.sync_free-book.new.disk
    (sym c.requires.stream) c.sync_free-book.ensures.both c.end-answer.ensures.book c.end-answer.ensures.rest c.end-answer.ensures.went c.end-answer.ensures.disk

pub returns-clause-left : goal.returns-clause-left
returns-clause-left g c begun at =
    let w = g.T.Turns.standing c.args.turns.now in
    let v = g.T.Turns.standing c.sync_free-book.new.turns in
    let x = g.T.Turns.standing c.end-answer.new.turns in
    let told = subst (λ (s : ℕ). IsSyncTold w s c.sync_free-book.result.1 v.seen) c.requires.stream c.sync_free-book.ensures.told in
    ended-of w v c.args.file c.args.span.now (outcome_of c.end-answer.result) begun x.seen c.sync_free-book.ensures.went
    (c.end-answer.ensures.left begun (at-end-of w v c.args.file c.args.span.now c.sync_free-book.result.1 c.sync_free-book.ensures.went told begun at))

pub returns-clause-begun : goal.returns-clause-begun
returns-clause-begun g c =
    let w = g.T.Turns.standing c.args.turns.now in
    let v = g.T.Turns.standing c.sync_free-book.new.turns in
    begun-end w v c.args.book.stream c.sync_free-book.result.1 (g.T.Turns.standing c.end-answer.new.turns).seen c.sync_free-book.ensures.went c.sync_free-book.ensures.told c.end-answer.ensures.begun
