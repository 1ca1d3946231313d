-- Each page is written with the turns of its stream, and counted behind the pages before.
use Rattle.std.specs.Prelude.{ℕ, ◌+◌, Result}
use Rattle.std.proofs.Common.{arith, sym, subst}
use Rattle.cc_calls.specs.Ticks.{counted_page}
use Rattle.cc_calls.specs.declared.ticks.TickCounts.{TickCounts}
use Rattle.cc_calls.proofs.TickPages.{WritesOn, few-counted, writes-all, writes-begin, writes-can, writes-cut, writes-full, writes-good, writes-more, writes-went}
use Rattle.cc_calls.proofs.ticks.write_all.Goals as goal

pub loop-page-init : goal.loop-page-init
loop-page-init g c = writes-begin (g.T.Turns.standing c.args.turns.now) c.args.pages.now

pub write_picked-requires : goal.write_picked-requires
write_picked-requires g c = record {
  can =
      writes-can (g.T.Turns.standing c.args.turns.now) (g.T.Turns.standing c.loop-page.turns) (g.T.Turns.standing c.loop-page.turns) c.args.pages.now c.loop-page.page-index c.loop-page.counts c.page-item.result
      c.requires.picked c.loop-page.invariant c.loop-page-test.true (sym c.page-item.is) c.requires.can;
}

pub count-requires : goal.count-requires
count-requires g c = record {
  few =
      few-counted (g.T.Turns.standing c.args.turns.now) (g.T.Turns.standing c.loop-page.turns) c.args.pages.now c.loop-page.page-index c.loop-page.counts
      (omega (arith, c.loop-page-test.true)) c.requires.picked.few c.loop-page.invariant;
}

pub loop-page-preserved : goal.loop-page-preserved
loop-page-preserved g c =
    subst (λ (n : TickCounts). WritesOn (g.T.Turns.standing c.args.turns.now) (g.T.Turns.standing c.write_picked.new.turns) c.args.pages.now (c.loop-page.page-index + 1) n) (sym c.count.ensures)
    (writes-more (g.T.Turns.standing c.args.turns.now) (g.T.Turns.standing c.loop-page.turns) (g.T.Turns.standing c.write_picked.new.turns) c.args.pages.now c.loop-page.page-index c.loop-page.counts c.page-item.result
    c.requires.picked c.loop-page.invariant c.loop-page-test.true (sym c.page-item.is) c.in-Ok.told c.write_picked.ensures.goes_on c.write_picked.ensures.good c.in-Ok.ensures.left)

pub returns-in-Err : goal.returns-in-Err
returns-in-Err g c =
    let w = g.T.Turns.standing c.args.turns.now in
    let v = g.T.Turns.standing c.loop-page.turns in
    let x = g.T.Turns.standing c.write_picked.new.turns in
    record {
      left = writes-cut w v x c.args.pages.now c.loop-page.page-index c.loop-page.counts c.page-item.result c.requires.picked c.loop-page.invariant c.loop-page-test.true (sym c.page-item.is) c.in-Err.error c.in-Err.ensures.left;
      full = writes-full w v x c.args.pages.now c.loop-page.page-index c.loop-page.counts c.page-item.result c.requires.picked c.loop-page.invariant c.loop-page-test.true (sym c.page-item.is) c.in-Err.error c.in-Err.ensures.full;
      goes_on = writes-went w v x c.args.pages.now c.loop-page.page-index c.loop-page.counts c.page-item.result c.requires.picked c.loop-page.invariant c.loop-page-test.true (sym c.page-item.is) c.in-Err.ensures.goes_on;
      good = writes-good w v x c.args.pages.now c.loop-page.page-index c.loop-page.counts c.page-item.result c.requires.picked c.loop-page.invariant c.loop-page-test.true (sym c.page-item.is) c.in-Err.ensures.good;
    }

pub returns : goal.returns
returns g c = record {
  left =
      writes-all (g.T.Turns.standing c.args.turns.now) (g.T.Turns.standing c.loop-page.turns) c.args.pages.now c.loop-page.page-index c.loop-page.counts c.loop-page-test.false c.loop-page.invariant;
  full = tt;
  goes_on = c.loop-page.invariant.went;
  good = c.loop-page.invariant.good;
}
