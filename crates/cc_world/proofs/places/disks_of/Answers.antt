-- As rows are taken from the last on, their disks stand in the opposite order; reversed, they are those of all rows.
use Rattle.std.proofs.Common.{◌≡◌, length, ap, arith, rules}
use Rattle.cc_turns.proofs.RowSteps.{longer, no_items}
use Rattle.cc_world.specs.declared.rows.StreamRow.{StreamRow}
use Rattle.cc_world.proofs.Emptying.{out-begun, out-next, out-ended}
use Rattle.cc_world.proofs.places.disks_of.Goals as goal

pub loop-row-init : goal.loop-row-init
loop-row-init g c = record {
  moved = out-begun (λ (row : StreamRow g.row.D.Denot). row.disk) c.args.rows.items c.args.disks.items c.requires.empty;
  room = omega (arith, ap length c.requires.empty, c.requires.room);
}

pub push_reserved-requires : goal.push_reserved-requires
push_reserved-requires g c =
    omega (arith, longer _ _ c.in-Some.row c.in-Some.ensures.items, c.loop-row.invariant.room, c.loop-row.disks.ok.0)

pub loop-row-preserved : goal.loop-row-preserved
loop-row-preserved g c = record {
  moved = rw c.push_reserved.ensures.items (out-next (λ (row : StreamRow g.row.D.Denot). row.disk) _ _ c.in-Some.row c.loop-row.disks.items _ c.in-Some.ensures.items c.loop-row.invariant.moved);
  room = omega (
    arith,
    longer _ _ c.in-Some.row c.in-Some.ensures.items,
    longer _ _ c.in-Some.row.disk c.push_reserved.ensures.items,
    c.push_reserved.ensures.capacity,
    c.loop-row.invariant.room,
  );
}

pub returns : goal.returns
returns g c =
    let none : c.loop-row.rows.len ≡ 0 = search rules in
    rw c.reverse.ensures.items (out-ended (λ (row : StreamRow g.row.D.Denot). row.disk) _ c.loop-row.disks.items _
    (no_items _ c.loop-row.rows.len c.loop-row.rows.ok.0 none) c.loop-row.invariant.moved)
