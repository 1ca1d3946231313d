-- Others went on while the disk was read, and the read still waits for it: the page lands, its failure is told, or for
-- want of memory the place is given back.
use Rattle.std.specs.Prelude.{ℕ, Result, Err, OnOk, Some, refl}
use Rattle.std.proofs.Common.{sym, subst}
use Rattle.cc_entry.specs.declared.call.Call.TheVariants as call
use Rattle.cc_entry.specs.declared.error.CcError.TheVariants as error
use Rattle.cc_traits.specs.declared.stop.Stop.{Stop}
use Rattle.cc_writes.specs.Visits.{WasReadFor}
use Rattle.cc_writes.proofs.Disks.{still_of}
use Rattle.cc_writes.proofs.ReadFailures.{told_of}
use Rattle.cc_writes.proofs.Reading.{where_failed}
use Rattle.cc_ranges.specs.ReadVisits.{IsAtRead, ReadEnded}
use Rattle.cc_ranges.proofs.ReadCalls.{at_read-on}
use Rattle.cc_ranges.proofs.ReadHolding.{said-before, said-after, no-room}
use Rattle.cc_ranges.proofs.read_held.read_disk.Goals as goal

pub unread-error-requires-clause-wanted : goal.unread-error-requires-clause-wanted
unread-error-requires-clause-wanted g c =
    let w = g.T.Turns.standing c.args.turns.now in
    let v = g.T.Turns.standing c.read_free-book.new.turns in
    let file = c.args.file in
    let page = c.args.page in
    let went = c.read_free-book.ensures.went in
    let idle = c.read_free-book.ensures.idle in (
      c.requires.wanted.0,
      said-after (λ u n. IsAtRead u n file page c.requires.wanted.0 v.seen) w.in_flight w v went (at_read-on w.setup w.number file page c.requires.wanted.0 w.seen v.seen c.requires.wanted.1 idle),
    )

pub land_at-told-requires-clause-read : goal.land_at-told-requires-clause-read
land_at-told-requires-clause-read g c absent below =
    let v = g.T.Turns.standing c.read_free-book.new.turns in
    let page = c.args.page in
    subst (λ (n : ℕ). WasReadFor v n page (Some c.read_free-book.new.raw)) (c.requires.stream)
    (subst (λ (r : Result (Unit {0}) Stop). OnOk r (WasReadFor v c.args.book.stream page (Some c.read_free-book.new.raw))) c.in-Ok.is c.read_free-book.ensures.found) absent

pub returns-in-Ok-clause-both : goal.returns-in-Ok-clause-both
returns-in-Ok-clause-both g c =
    let v = g.T.Turns.standing c.read_free-book.new.turns in
    let file = c.args.file in
    let x = g.T.Turns.standing c.land_at-told.new.turns in
    still_of g.T.Disk.Told.told g.T.Disk.Told.faults 0 v x c.args.book.stream file.stream c.read_free-book.result.0 c.land_at-told.new.book c.read_free-book.new.disk
    (sym c.requires.stream) c.read_free-book.ensures.both c.land_at-told.ensures.book c.land_at-told.ensures.rest c.land_at-told.ensures.went c.land_at-told.ensures.disk

pub returns-in-Ok-clause-left : goal.returns-in-Ok-clause-left
returns-in-Ok-clause-left g c begun is =
    let w = g.T.Turns.standing c.args.turns.now in
    let v = g.T.Turns.standing c.read_free-book.new.turns in
    let file = c.args.file in
    let page = c.args.page in
    let went = c.read_free-book.ensures.went in
    let idle = c.read_free-book.ensures.idle in
    said-before (λ u n. ReadEnded u n file page c.land_at-told.result begun (g.T.Turns.standing c.land_at-told.new.turns).seen c.args.out.now c.land_at-told.new.out) w.in_flight w v went
    (c.land_at-told.ensures.left begun (
    said-after (λ u n. IsAtRead u n file page begun v.seen) w.in_flight w v went (at_read-on w.setup w.number file page begun w.seen v.seen is idle)))

pub returns-in-Err-Failed-clause-both : goal.returns-in-Err-Failed-clause-both
returns-in-Err-Failed-clause-both g c =
    let v = g.T.Turns.standing c.read_free-book.new.turns in
    let file = c.args.file in
    let page = c.args.page in
    let x = g.T.Turns.standing c.unread-error.new.turns in
    told_of g.T.Disk.Told.told g.T.Disk.Told.faults 0 v x c.args.book.stream file.stream c.read_free-book.result.0 c.unread-error.new.book c.read_free-book.new.disk
    (sym c.requires.stream) c.read_free-book.ensures.both c.unread-error.ensures.book c.unread-error.ensures.rest c.unread-error.ensures.went page
    (where_failed c.read_free-book.result.1 c.in-Err-Failed.field-0 c.in-Err-Failed.is (rw c.in-Err-Failed.is at c.in-Err-Failed.field-0-is) c.read_free-book.ensures.failed) c.unread-error.ensures.told

pub returns-in-Err-Failed-clause-left : goal.returns-in-Err-Failed-clause-left
returns-in-Err-Failed-clause-left g c begun is =
    let w = g.T.Turns.standing c.args.turns.now in
    let v = g.T.Turns.standing c.read_free-book.new.turns in
    let file = c.args.file in
    let page = c.args.page in
    let went = c.read_free-book.ensures.went in
    let idle = c.read_free-book.ensures.idle in
    said-before (λ u n. ReadEnded u n file page (Err c.unread-error.result) begun (g.T.Turns.standing c.unread-error.new.turns).seen c.args.out.now c.args.out.now) w.in_flight w v went
    (c.unread-error.ensures.left begun (
    said-after (λ u n. IsAtRead u n file page begun v.seen) w.in_flight w v went (at_read-on w.setup w.number file page begun w.seen v.seen is idle)) c.args.out.now)

pub returns-in-Err-NoMemory-clause-both : goal.returns-in-Err-NoMemory-clause-both
returns-in-Err-NoMemory-clause-both g c =
    let v = g.T.Turns.standing c.read_free-book.new.turns in
    let x = g.T.Turns.standing c.release_at.new.turns in
    still_of g.T.Disk.Told.told g.T.Disk.Told.faults 0 v x c.args.book.stream c.args.book.stream c.read_free-book.result.0 c.read_free-book.result.0 c.read_free-book.new.disk
    refl c.read_free-book.ensures.both (c.release_at.ensures.book c.args.book.stream c.read_free-book.result.0 c.read_free-book.ensures.both.book) (c.release_at.ensures.rest c.args.book.stream c.read_free-book.ensures.both.rest) c.release_at.ensures.went
    (c.release_at.ensures.disk c.args.book.stream c.read_free-book.ensures.both.rest.device)

pub returns-in-Err-NoMemory-clause-left : goal.returns-in-Err-NoMemory-clause-left
returns-in-Err-NoMemory-clause-left g c begun is =
    let w = g.T.Turns.standing c.args.turns.now in
    let v = g.T.Turns.standing c.read_free-book.new.turns in
    let file = c.args.file in
    let page = c.args.page in
    let went = c.read_free-book.ensures.went in
    let idle = c.read_free-book.ensures.idle in
    let x = g.T.Turns.standing c.release_at.new.turns in
    said-before (λ u n. ReadEnded u n file page (Err error.NoMemory) begun x.seen c.args.out.now c.args.out.now) w.in_flight w v went
    (no-room v.setup v.number file page begun x.seen c.args.out.now
    (c.release_at.ensures.left (call.NcRead file page) begun (
    said-after (λ u n. IsAtRead u n file page begun v.seen) w.in_flight w v went (at_read-on w.setup w.number file page begun w.seen v.seen is idle)).way))
