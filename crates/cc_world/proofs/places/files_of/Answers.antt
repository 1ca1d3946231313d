-- As logs are taken from the last on, their files stand in the opposite order; reversed, they are those of all logs.
use Rattle.std.proofs.Common.{◌≡◌, length, ap, arith, rules}
use Rattle.cc_turns.proofs.RowSteps.{longer, no_items}
use Rattle.cc_log.specs.Turn.{LogTurnState}
use Rattle.cc_world.proofs.Emptying.{out-begun, out-next, out-ended}
use Rattle.cc_world.proofs.places.files_of.Goals as goal

pub loop-log-init : goal.loop-log-init
loop-log-init g c = record {
  moved = out-begun (λ (log : LogTurnState g.row.L.Denot). log.file) c.args.logs.items c.args.files.items c.requires.empty;
  room = omega (arith, ap length c.requires.empty, c.requires.room);
}

pub push_reserved-requires : goal.push_reserved-requires
push_reserved-requires g c =
    omega (arith, longer _ _ c.in-Some.log c.in-Some.ensures.items, c.loop-log.invariant.room, c.loop-log.files.ok.0)

pub loop-log-preserved : goal.loop-log-preserved
loop-log-preserved g c = record {
  moved = rw (c.push_reserved.ensures.items, c.end.ensures) (out-next (λ (log : LogTurnState g.row.L.Denot). log.file) _ _ c.in-Some.log c.loop-log.files.items _ c.in-Some.ensures.items c.loop-log.invariant.moved);
  room = omega (
    arith,
    longer _ _ c.in-Some.log c.in-Some.ensures.items,
    longer _ _ c.end.result c.push_reserved.ensures.items,
    c.push_reserved.ensures.capacity,
    c.loop-log.invariant.room,
  );
}

pub returns : goal.returns
returns g c =
    let none : c.loop-log.logs.len ≡ 0 = search rules in
    rw c.reverse.ensures.items (out-ended (λ (log : LogTurnState g.row.L.Denot). log.file) _ c.loop-log.files.items _
    (no_items _ c.loop-log.logs.len c.loop-log.logs.ok.0 none) c.loop-log.invariant.moved)
