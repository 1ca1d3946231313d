-- By copies, or page by page, noncached; what holds of its parts leave is what the read leaves.
use Rattle.std.specs.Prelude.{Ok, Err}
use Rattle.cc_shim.proofs.Reading.{read-cached, read-noncached}
use Rattle.cc_shim.proofs.reads.read_along.Goals as goal

pub returns-in-Cached : goal.returns-in-Cached
returns-in-Cached g c =
    let w = g.T.Turns.standing c.args.turns.now in
    let v = g.T.Turns.standing c.copy_read-answer.new.turns in
    record { ends = read-cached w v c.args.file c.args.path c.args.at c.args.out.now c.copy_read-answer.new.out c.requires.fine c.copy_read-answer.result c.in-Cached.is c.note_others.ensures.few c.copy_read-answer.ensures.ends }

pub returns-in-Ok : goal.returns-in-Ok
returns-in-Ok g c =
    let w = g.T.Turns.standing c.args.turns.now in
    let v = g.T.Turns.standing c.noncached_read.new.turns in
    record { ends = read-noncached w v c.args.file c.args.path c.args.at c.args.out.now c.noncached_read.new.out c.requires.fine (Ok c.in-Ok.count) c.in-Noncached.is c.noncached_read.auto.out tt c.in-Ok.ensures.ends }

pub returns-in-Err : goal.returns-in-Err
returns-in-Err g c =
    let w = g.T.Turns.standing c.args.turns.now in
    let v = g.T.Turns.standing c.noncached_read.new.turns in
    record { ends = read-noncached w v c.args.file c.args.path c.args.at c.args.out.now c.noncached_read.new.out c.requires.fine (Err c.in-Err.failed) c.in-Noncached.is c.noncached_read.auto.out c.note_others-in-Err.ensures.few c.in-Err.ensures.ends }
