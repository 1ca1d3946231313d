-- By how the transfer ended: after a good end the write may finish, after a failed one it may fail, and without memory
-- nothing follows.
use Rattle.std.specs.Prelude.{◌≡◌, ℕ}
use Rattle.std.proofs.Common.{ap, sym, ◌∙◌, subst, refl, false}
use Rattle.cc_entry.specs.declared.entry.End.{End}
use Rattle.cc_effects.specs.Moments.{IsIdle}
use Rattle.cc_writes.specs.Hands.{WentWith}
use Rattle.cc_writes.specs.Transfers.{IsFinished}
use Rattle.cc_writes.proofs.Disks.{still_of}
use Rattle.cc_writes.proofs.OneVisit.{went-number, went-then}
use Rattle.cc_ranges.specs.Stores.{places_kept}
use Rattle.cc_ranges.proofs.EndVisits.{kept-most}
use Rattle.cc_ranges.proofs.TidyEnds.{ended-tidy}
use Rattle.cc_ranges.proofs.PageWriting.{finishes-after, fails-after, both-done, both-told}
use Rattle.cc_ranges.proofs.pages.finish_page.Goals as goal

pub finish_at-requires-clause-finishes : goal.finish_at-requires-clause-finishes
finish_at-requires-clause-finishes g c =
    let w = g.T.Turns.standing c.args.turns.now in
    let x = g.T.Turns.standing c.finish_transfer-book.new.turns in
    finishes-after w.in_flight w x c.args.page c.finish_transfer-book.ensures.went c.requires.stored
    (subst (λ (how : End). IsFinished w c.args.page how false x.seen) c.in-Good.is c.finish_transfer-book.ensures.left)

pub fail_at-requires-clause-fails : goal.fail_at-requires-clause-fails
fail_at-requires-clause-fails g c =
    let w = g.T.Turns.standing c.args.turns.now in
    let x = g.T.Turns.standing c.finish_transfer-book.new.turns in
    fails-after w.in_flight w x c.args.page c.finish_transfer-book.ensures.went c.requires.stored
    (subst (λ (how : End). IsFinished w c.args.page how false x.seen) c.in-Failed.is c.finish_transfer-book.ensures.left)

pub returns-in-Good-clause-both : goal.returns-in-Good-clause-both
returns-in-Good-clause-both g c =
    let x = g.T.Turns.standing c.finish_transfer-book.new.turns in
    let y = g.T.Turns.standing c.finish_at.new.turns in
    both-done g.T.Disk.Told.told g.T.Disk.Told.faults 0 x y c.args.file c.args.page c.finish_transfer-book.result.0 c.finish_at.new.book c.finish_transfer-book.new.disk
    c.finish_transfer-book.ensures.both c.finish_at.ensures.went c.finish_at.ensures.book c.finish_at.ensures.rest c.finish_at.ensures.left

pub returns-in-Failed-clause-both : goal.returns-in-Failed-clause-both
returns-in-Failed-clause-both g c =
    let x = g.T.Turns.standing c.finish_transfer-book.new.turns in
    let y = g.T.Turns.standing c.fail_at.new.turns in
    both-told g.T.Disk.Told.told g.T.Disk.Told.faults 0 x y c.args.file c.args.page c.finish_transfer-book.result.0 c.fail_at.new.book c.finish_transfer-book.new.disk
    c.finish_transfer-book.ensures.both c.fail_at.ensures.went c.fail_at.ensures.book c.fail_at.ensures.rest c.fail_at.ensures.left

pub returns-in-Good-clause-left : goal.returns-in-Good-clause-left
returns-in-Good-clause-left g c =
    let w = g.T.Turns.standing c.args.turns.now in
    let x = g.T.Turns.standing c.finish_transfer-book.new.turns in (
      refl,
      record {
        then_was = x;
        went = c.finish_transfer-book.ensures.went;
        finished = subst (λ (how : End). IsFinished w c.args.page how false x.seen) c.in-Good.is c.finish_transfer-book.ensures.left;
        ended = c.finish_at.ensures.left;
      },
    )

pub returns-in-Failed-clause-left : goal.returns-in-Failed-clause-left
returns-in-Failed-clause-left g c =
    let w = g.T.Turns.standing c.args.turns.now in
    let x = g.T.Turns.standing c.finish_transfer-book.new.turns in (
      c.page.ensures.same,
      record {
        then_was = x;
        went = c.finish_transfer-book.ensures.went;
        finished = subst (λ (how : End). IsFinished w c.args.page how false x.seen) c.in-Failed.is c.finish_transfer-book.ensures.left;
        ended = c.fail_at.ensures.left;
      },
    )

pub returns-in-NoMemory-clause-left : goal.returns-in-NoMemory-clause-left
returns-in-NoMemory-clause-left g c =
    let w = g.T.Turns.standing c.args.turns.now in
    let x = g.T.Turns.standing c.finish_transfer-book.new.turns in
    let y = g.T.Turns.standing c.forgo_at.new.turns in
    record {
      then_was = x;
      finished = subst (λ (how : End). IsFinished w c.args.page how false x.seen) c.in-NoMemory.is c.finish_transfer-book.ensures.left;
      idle = subst (λ (n : ℕ). IsIdle n x.seen y.seen) (went-number w.in_flight w x c.finish_transfer-book.ensures.went) c.forgo_at.ensures.idle;
    }

pub finish_transfer-book-requires-clause-few : goal.finish_transfer-book-requires-clause-few
finish_transfer-book-requires-clause-few g c = rw c.requires.kept (kept-most c.args.kept)

pub finish_at-requires-clause-kept : goal.finish_at-requires-clause-kept
finish_at-requires-clause-kept g c = ap (λ y. y.in_flight) c.finish_transfer-book.ensures.went.same ∙ c.requires.kept

pub fail_at-requires-clause-kept : goal.fail_at-requires-clause-kept
fail_at-requires-clause-kept g c = ap (λ y. y.in_flight) c.finish_transfer-book.ensures.went.same ∙ c.requires.kept

pub forgo_at-requires-clause-kept : goal.forgo_at-requires-clause-kept
forgo_at-requires-clause-kept g c = ap (λ y. y.in_flight) c.finish_transfer-book.ensures.went.same ∙ c.requires.kept

pub returns-in-Good-clause-went : goal.returns-in-Good-clause-went
returns-in-Good-clause-went g c =
    let w = g.T.Turns.standing c.args.turns.now in
    went-then w.in_flight 0 w (g.T.Turns.standing c.finish_transfer-book.new.turns) (g.T.Turns.standing c.finish_at.new.turns) c.finish_transfer-book.ensures.went c.finish_at.ensures.went

pub returns-in-Failed-clause-went : goal.returns-in-Failed-clause-went
returns-in-Failed-clause-went g c =
    let w = g.T.Turns.standing c.args.turns.now in
    went-then w.in_flight 0 w (g.T.Turns.standing c.finish_transfer-book.new.turns) (g.T.Turns.standing c.fail_at.new.turns) c.finish_transfer-book.ensures.went c.fail_at.ensures.went

pub returns-in-NoMemory-clause-went : goal.returns-in-NoMemory-clause-went
returns-in-NoMemory-clause-went g c =
    let w = g.T.Turns.standing c.args.turns.now in
    went-then w.in_flight 0 w (g.T.Turns.standing c.finish_transfer-book.new.turns) (g.T.Turns.standing c.forgo_at.new.turns) c.finish_transfer-book.ensures.went c.forgo_at.ensures.went

pub returns-in-NoMemory-clause-both : goal.returns-in-NoMemory-clause-both
returns-in-NoMemory-clause-both g c =
    let x = g.T.Turns.standing c.finish_transfer-book.new.turns in
    let y = g.T.Turns.standing c.forgo_at.new.turns in
    still_of g.T.Disk.Told.told g.T.Disk.Told.faults 0 x y c.args.page.stream c.args.page.stream c.finish_transfer-book.result.0 c.finish_transfer-book.result.0 c.finish_transfer-book.new.disk
    refl c.finish_transfer-book.ensures.both c.forgo_at.ensures.book c.forgo_at.ensures.rest c.forgo_at.ensures.went c.forgo_at.ensures.disk

pub returns-in-Good-clause-tidy : goal.returns-in-Good-clause-tidy
returns-in-Good-clause-tidy g c =
    let w = g.T.Turns.standing c.args.turns.now in
    let x = g.T.Turns.standing c.finish_transfer-book.new.turns in
    ended-tidy w x c.args.file c.args.page c.args.kept (g.T.Turns.standing c.finish_at.new.turns).seen (ap (λ h. h.book) c.requires.begun.book.held) c.requires.begun.device
    c.finish_transfer-book.ensures.went (λ kept. c.requires.kept ∙ ap places_kept kept)
    (subst (λ (how : End). IsFinished w c.args.page how false x.seen) c.in-Good.is c.finish_transfer-book.ensures.left) c.finish_at.ensures.left
