-- The scan stands before the pages that it picked, each of which is counted.
use Rattle.std.specs.Prelude.{Err, List}
use Rattle.std.proofs.Common.{sym, subst}
use Rattle.cc_entry.specs.Place.{Page}
use Rattle.cc_calls.specs.Ticks.{ArePicked, AreWritten, AllLeft, IsFullAmong}
use Rattle.cc_calls.proofs.TickPages.{counts-sum}
use Rattle.cc_calls.proofs.Ticking.{can-after, picked-after, tick-counted, tick-cut, tick-unscanned}
use Rattle.cc_calls.proofs.ticks.tick.Goals as goal

pub write_all-requires-clause-can : goal.write_all-requires-clause-can
write_all-requires-clause-can g c = can-after (g.T.Turns.standing c.args.turns.now) (g.T.Turns.standing c.scan.new.turns) c.requires.can c.scan.ensures.went

pub write_all-requires-clause-picked : goal.write_all-requires-clause-picked
write_all-requires-clause-picked g c =
    subst (λ (l : List Page). ArePicked (g.T.Turns.standing c.scan.new.turns).streams l) (sym c.as_slice.ensures)
    (picked-after (g.T.Turns.standing c.args.turns.now) (g.T.Turns.standing c.scan.new.turns) c.in-Ok.picked c.scan.ensures.went c.in-Ok.ensures.left.1)

pub returns-in-Ok-write_all : goal.returns-in-Ok-write_all
returns-in-Ok-write_all g c =
    let w = g.T.Turns.standing c.args.turns.now in
    let x = g.T.Turns.standing c.scan.new.turns in
    let z = g.T.Turns.standing c.write_all.new.turns in
    let left : AreWritten x.number c.in-Ok.picked c.in-Ok.picked c.in-Ok-write_all.counts x.seen z.seen =
    subst (λ (l : List Page). AreWritten x.number l l c.in-Ok-write_all.counts x.seen z.seen) c.as_slice.ensures c.in-Ok-write_all.ensures.left in
    record {
      ends =
          tick-counted w x z c.in-Ok.picked c.scan.ensures.went c.in-Ok.ensures.left.0 c.write_all.ensures.goes_on c.scan.ensures.good c.write_all.ensures.good
          c.in-Ok-write_all.counts left;
      adds_up = counts-sum x.number c.in-Ok.picked c.in-Ok.picked c.in-Ok-write_all.counts x.seen z.seen left;
    }

pub returns-in-Err-write_all : goal.returns-in-Err-write_all
returns-in-Err-write_all g c =
    let w = g.T.Turns.standing c.args.turns.now in
    let x = g.T.Turns.standing c.scan.new.turns in
    let z = g.T.Turns.standing c.write_all.new.turns in
    record {
      ends =
          tick-cut w x z c.in-Ok.picked c.scan.ensures.went c.in-Ok.ensures.left.0 c.write_all.ensures.goes_on c.scan.ensures.good c.write_all.ensures.good
          c.in-Err-write_all.error
          (subst (λ (l : List Page). AllLeft x.number l (Err c.in-Err-write_all.error) x.seen z.seen) c.as_slice.ensures c.in-Err-write_all.ensures.left)
          (subst (λ (l : List Page). IsFullAmong l z (Err c.in-Err-write_all.error)) c.as_slice.ensures c.in-Err-write_all.ensures.full);
      adds_up = tt;
    }

pub returns-in-Err : goal.returns-in-Err
returns-in-Err g c = record {
  ends =
      tick-unscanned (g.T.Turns.standing c.args.turns.now) (g.T.Turns.standing c.scan.new.turns) c.in-Err.error c.in-Err.ensures.went c.in-Err.ensures.good c.in-Err.ensures.left c.in-Err.ensures.full;
  adds_up = tt;
}
