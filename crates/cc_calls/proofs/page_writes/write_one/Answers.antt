-- What the writing of a page left, in the words of its answer.
use Rattle.cc_calls.proofs.OnePage.{one-left}
use Rattle.cc_calls.proofs.page_writes.write_one.Goals as goal

pub returns : goal.returns
returns g c =
    let w = g.T.Turns.standing c.args.turns.now in
    let z = g.T.Turns.standing c.write_picked.new.turns in
    record {
      ends = record {
        left = one-left w.number c.args.page c.write_picked.result w.seen z.seen c.write_picked.ensures.left;
        full = c.write_picked.ensures.full;
        goes_on = c.write_picked.ensures.goes_on;
        good = c.write_picked.ensures.good;
      };
    }
