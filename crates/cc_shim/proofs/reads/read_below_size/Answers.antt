-- The state was not told, or the parts below the size were read, or not.
use Rattle.cc_shim.proofs.Reading.{size-told, size-untold}
use Rattle.cc_shim.proofs.Told.{state-small}
use Rattle.cc_shim.proofs.reads.read_below_size.Goals as goal

pub read_below-requires-clause-below : goal.read_below-requires-clause-below
read_below-requires-clause-below g c =
    let w = g.T.Turns.standing c.args.turns.now in
    let v = g.T.Turns.standing c.file_state.new.turns in
    (state-small w.setup w.number c.args.file c.in-Ok.state w.seen v.seen c.in-Ok.ensures.ends.left c.file_state.ensures.good).1

pub returns-in-Ok : goal.returns-in-Ok
returns-in-Ok g c =
    let w = g.T.Turns.standing c.args.turns.now in
    let v = g.T.Turns.standing c.file_state.new.turns in
    record { ends = size-told w v c.args.file c.args.by c.args.at c.args.out.now (g.T.Turns.standing c.read_below.new.turns) c.in-Ok.state c.read_below.result c.read_below.new.out c.in-Ok.ensures.ends c.read_below.ensures.ends }

pub returns-in-Err : goal.returns-in-Err
returns-in-Err g c =
    let w = g.T.Turns.standing c.args.turns.now in
    let v = g.T.Turns.standing c.file_state.new.turns in
    record { ends = size-untold w v c.args.file c.args.by c.args.at c.args.out.now c.in-Err.error c.note_others.ensures.few c.in-Err.ensures.ends }
