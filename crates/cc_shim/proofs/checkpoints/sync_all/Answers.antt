-- The streams so far and the next are one more; one that was refused ends it.
use Rattle.std.specs.Prelude.{◌≡◌, take, refl}
use Rattle.std.proofs.lemmas.List.{take_all}
use Rattle.cc_shim.proofs.Checkpointing.{synced-all, synced-more, synced-refused}
use Rattle.cc_shim.proofs.checkpoints.sync_all.Goals as goal

pub returns-in-Err : goal.returns-in-Err
returns-in-Err g c =
    let w = g.T.Turns.standing c.args.turns.now in
    let v = g.T.Turns.standing c.loop-stream.turns in
    let x = g.T.Turns.standing c.sync.new.turns in
    record { ends = synced-refused w v x c.args.found.now c.loop-stream.stream-index 0 _ refl c.loop-stream-test.true c.loop-stream.invariant c.in-Err.error c.in-Err.ensures.ends }

pub loop-stream-preserved : goal.loop-stream-preserved
loop-stream-preserved g c =
    let w = g.T.Turns.standing c.args.turns.now in
    let v = g.T.Turns.standing c.loop-stream.turns in
    let x = g.T.Turns.standing c.sync.new.turns in
    synced-more w v x c.args.found.now c.loop-stream.stream-index 0 _ refl c.loop-stream-test.true c.loop-stream.invariant c.in-Ok.ensures.ends

pub returns : goal.returns
returns g c =
    let w = g.T.Turns.standing c.args.turns.now in
    let v = g.T.Turns.standing c.loop-stream.turns in
    let past = c.loop-stream-test.false in
    let all : take c.loop-stream.stream-index c.args.found.now ≡ c.args.found.now = take_all c.loop-stream.stream-index c.args.found.now past in
    record { ends = synced-all w v c.args.found.now c.loop-stream.stream-index c.loop-stream.invariant all }
