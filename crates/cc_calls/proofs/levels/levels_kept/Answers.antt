-- By whether the object is open, and by what the book has of an index.
use Rattle.cc_calls.proofs.LevelCalls.{kept-closed, kept-open, kept-unmapped}
use Rattle.cc_calls.proofs.levels.levels_kept.Goals as goal

pub returns-in-Some : goal.returns-in-Some
returns-in-Some c = record {
  kept = kept-open c.args.book.now c.args.file c.requires.same c.is_open.result c.in-Some.levels (rw c.object.ensures.same at c.is_open.ensures) c.if-is_open.true c.in-Some.ensures.of_size;
}

pub returns-in-None : goal.returns-in-None
returns-in-None c = record { kept = kept-unmapped c.args.book.now c.args.file c.requires.same c.in-None.ensures.mapped }

pub returns-else-is_open : goal.returns-else-is_open
returns-else-is_open c = record { kept = kept-closed c.args.book.now c.args.file c.requires.same c.is_open.result (rw c.object.ensures.same at c.is_open.ensures) c.if-is_open.false }
