-- The bytes that are kept are those in the front of what was handed in.
use Rattle.std.specs.Prelude.{refl}
use Rattle.cc_async.proofs.Kept.{kept-done}
use Rattle.cc_async.proofs.copies.read_into.Goals as goal

pub returns-in-Ok : goal.returns-in-Ok
returns-in-Ok g c = record {
  left =
      kept-done (g.T.Turns.standing c.args.turns.now) (g.T.Turns.standing c.copy_read.new.turns) c.args.file c.args.at _ c.args.wait
      c.args.out.now c.copy_read.new.out refl c.in-Ok.count c.keep.result c.keep.ensures (rw c.in-Ok.is at c.copy_read.ensures.ends);
}
