-- A write for which memory is wanting leaves nothing; one that asks two places asks no more than three.
use Rattle.std.specs.Prelude.{◌≡◌, ℕ, List, Ok, Err}
use Rattle.std.proofs.Common.{subst}
use Rattle.cc_pieces.specs.Locks.{LockedWriteLeft}
use Rattle.cc_lines.proofs.ShimCalls.{write-wanting}
use Rattle.cc_lines.proofs.ShimServed.{full-three}
use Rattle.cc_lines.proofs.shim_lines.write_extending.Goals as goal

pub returns-in_default-clause-answered : goal.returns-in_default-clause-answered
returns-in_default-clause-answered g c =
    let w = g.T.Turns.standing c.args.turns.now in
    write-wanting w.setup w.number c.args.file w.seen c.args.at c.args.bytes.now

pub returns-clause-full : goal.returns-clause-full
returns-clause-full g c =
    full-three (g.T.Turns.standing c.args.turns.now) (g.T.Turns.standing c.locked_write.new.turns) c.in-Err.error c.in-Err.ensures.ends.full

pub returns-in-Ok-locked_write-clause-answered : goal.returns-in-Ok-locked_write-clause-answered
returns-in-Ok-locked_write-clause-answered g c =
    let w = g.T.Turns.standing c.args.turns.now in
    let v = g.T.Turns.standing c.locked_write.new.turns in
    let same : c.deref.result.now ≡ c.args.bytes.now = cc (c.deref.ensures.value, c.in-Ok.ensures) in
    subst (λ (l : List ℕ). LockedWriteLeft w.setup w.number c.args.file c.args.at l (Ok tt) w.seen v.seen) same c.in-Ok-locked_write.ensures.ends.left

pub returns-clause-answered : goal.returns-clause-answered
returns-clause-answered g c =
    let w = g.T.Turns.standing c.args.turns.now in
    let v = g.T.Turns.standing c.locked_write.new.turns in
    let same : c.deref.result.now ≡ c.args.bytes.now = cc (c.deref.ensures.value, c.in-Ok.ensures) in
    subst (λ (l : List ℕ). LockedWriteLeft w.setup w.number c.args.file c.args.at l (Err c.in-Err.error) w.seen v.seen) same c.in-Err.ensures.ends.left
