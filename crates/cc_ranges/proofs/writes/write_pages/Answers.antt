-- Each page goes on behind the pages before, with its own 4096 bytes of the piece; one that failed, or the last, ends
-- the write.
use Rattle.std.specs.Prelude.{◌≡◌, ℕ, suc, ◌+◌, ◌/◌, Ok, Err, length, refl}
use Rattle.std.proofs.Common.{arith, subst}
use Rattle.cc_ranges.specs.Writes.{PageWriteEnds}
use Rattle.cc_ranges.proofs.Callers.{can-again}
use Rattle.cc_ranges.proofs.WritePages.{WritesOn, ends-all, ends-refused, one-page, writes-begin, writes-more}
use Rattle.cc_ranges.proofs.writes.write_pages.Goals as goal

pub loop-done-init : goal.loop-done-init
loop-done-init g c = writes-begin (g.T.Turns.standing c.args.turns.now) c.args.file c.args.first c.args.piece.now

pub write_page-requires : goal.write_page-requires
write_page-requires g c =
    record { can = can-again (g.T.Turns.standing c.args.turns.now) (g.T.Turns.standing c.loop-done.turns) c.args.file.stream c.requires.can c.loop-done.invariant.went }

pub loop-done-preserved : goal.loop-done-preserved
loop-done-preserved g c =
    let w = g.T.Turns.standing c.args.turns.now in
    let v = g.T.Turns.standing c.loop-done.turns in
    let x = g.T.Turns.standing c.write_page.new.turns in
    let done = c.loop-done.done in
    let piece = c.args.piece.now in
    let bytes = c.copy_from_slice.new.self in
    let page : PageWriteEnds v x c.args.file (c.args.first + done) bytes (Ok c.in-Ok.count) =
    subst (λ (n : ℕ). PageWriteEnds v x c.args.file (c.args.first + n) bytes (Ok c.in-Ok.count)) c.from.ensures c.in-Ok.ensures.ends in
    subst (λ (n : ℕ). WritesOn w x c.args.file c.args.first n (c.loop-done.changed + c.in-Ok.count) piece) (next done)
    (writes-more w v x c.args.file c.args.first done c.loop-done.changed piece c.loop-done.invariant bytes (one-page done piece bytes c.copy_from_slice.ensures.after) c.in-Ok.count page)
  where
    next : (n : ℕ) → suc n ≡ n + 1
    next n = omega arith

pub returns-in-Err : goal.returns-in-Err
returns-in-Err g c =
    let w = g.T.Turns.standing c.args.turns.now in
    let v = g.T.Turns.standing c.loop-done.turns in
    let x = g.T.Turns.standing c.write_page.new.turns in
    let done = c.loop-done.done in
    let piece = c.args.piece.now in
    let bytes = c.copy_from_slice.new.self in
    let page : PageWriteEnds v x c.args.file (c.args.first + done) bytes (Err c.in-Err.cause) =
    subst (λ (n : ℕ). PageWriteEnds v x c.args.file (c.args.first + n) bytes (Err c.in-Err.cause)) c.from.ensures c.in-Err.ensures.ends in
    record {
      ends = ends-refused w v x c.args.file c.args.first done c.loop-done.changed (length piece / 4096) piece bytes (record { done = done; cause = c.in-Err.cause })
          c.loop-done.invariant (one-page done piece bytes c.copy_from_slice.ensures.after) page refl c.loop-done-test.true refl;
    }

pub returns : goal.returns
returns g c =
    let w = g.T.Turns.standing c.args.turns.now in
    let v = g.T.Turns.standing c.loop-done.turns in
    let piece = c.args.piece.now in
    record {
      ends = ends-all w v c.args.file c.args.first c.loop-done.done c.loop-done.changed (length piece / 4096) piece c.loop-done.invariant
          (omega (arith, c.loop-done-test.false, c.loop-done.auto.done-end)) refl;
    }
