-- The streams so far and the next are one more; one whose state was refused ends it, and so does want of memory.
use Rattle.std.specs.Prelude.{◌+◌, refl}
use Rattle.std.proofs.Common.{arith}
use Rattle.cc_shim.proofs.Checkpointing.{asked-more, asked-refused, asked-stopped}
use Rattle.cc_shim.proofs.checkpoints.streams_of.Goals as goal

pub returns-in-Err-clause-ends : goal.returns-in-Err-clause-ends
returns-in-Err-clause-ends g c =
    let w = g.T.Turns.standing c.args.turns.now in
    let v = g.T.Turns.standing c.loop-stream.turns in
    let x = g.T.Turns.standing c.has_log.new.turns in
    asked-refused w v x c.args.handle c.loop-stream.stream c.loop-stream.found.items c.loop-stream.invariant c.args.streams c.in-Err.error c.loop-stream-test.true c.in-Err.ensures.ends

pub returns-in-Err-keep-clause-ends : goal.returns-in-Err-keep-clause-ends
returns-in-Err-keep-clause-ends g c =
    let w = g.T.Turns.standing c.args.turns.now in
    let v = g.T.Turns.standing c.loop-stream.turns in
    let x = g.T.Turns.standing c.has_log.new.turns in
    let low = c.loop-stream-test.true in
    asked-stopped w x c.args.handle (c.loop-stream.stream + 1) c.args.streams _ (omega (arith, low))
    (asked-more w v x c.args.handle c.loop-stream.stream c.loop-stream.found.items c.loop-stream.invariant c.in-Ok.has _ c.in-Ok.ensures.ends refl)

pub loop-stream-preserved : goal.loop-stream-preserved
loop-stream-preserved g c =
    let w = g.T.Turns.standing c.args.turns.now in
    let v = g.T.Turns.standing c.loop-stream.turns in
    let x = g.T.Turns.standing c.has_log.new.turns in
    asked-more w v x c.args.handle c.loop-stream.stream c.loop-stream.found.items c.loop-stream.invariant c.in-Ok.has c.keep.new.found.items c.in-Ok.ensures.ends c.in-Ok-keep.ensures
