-- The files moved so far, and the logs left, make the places; turned round, the row has them in their order.
use Rattle.std.proofs.Common.{◌≡◌, Some, length, map, sym, ap, ◌∙◌, arith, rules}
use Rattle.std.specs.Option.{option_map}
use Rattle.cc_log.specs.Turn.{LogTurnState}
use Rattle.cc_turns.proofs.RowSteps.{back_begun, back_next, back_ended, mapped_last, at_last, at_rest, longer, no_items}
use Rattle.cc_turns.proofs.places.back_to_logs.Goals as goal

pub loop-place-init : goal.loop-place-init
loop-place-init g c = record {
  home = c.requires.home;
  moved = back_begun (map (option_map (λ (log : LogTurnState g.row.L.Denot). log.file)) c.args.places.items) c.args.row.items c.requires.room.empty;
  room = omega (arith, ap length c.requires.room.empty, c.requires.room.room);
}

pub unwrap-requires : goal.unwrap-requires
unwrap-requires g c = at_last _ _ c.in-Some.place c.in-Some.ensures.items c.loop-place.invariant.home

pub push_reserved-requires : goal.push_reserved-requires
push_reserved-requires g c =
    omega (arith, longer _ _ c.in-Some.place c.in-Some.ensures.items, c.loop-place.invariant.room, c.loop-place.row.ok.0)

pub loop-place-preserved : goal.loop-place-preserved
loop-place-preserved g c = record {
  home = at_rest _ _ c.in-Some.place c.in-Some.ensures.items c.loop-place.invariant.home;
  moved = rw c.push_reserved.ensures.items (back_next _ _ _ c.loop-place.row.items c.end.result
      (mapped_last (option_map (λ (log : LogTurnState g.row.L.Denot). log.file)) c.loop-place.places.items c.pop.new.self.items c.in-Some.place c.end.result c.in-Some.ensures.items
      (ap (option_map (λ (log : LogTurnState g.row.L.Denot). log.file)) c.unwrap.ensures ∙ ap Some (sym c.end.ensures))) c.loop-place.invariant.moved);
  room = omega (
    arith,
    longer _ _ c.in-Some.place c.in-Some.ensures.items,
    longer _ _ c.end.result c.push_reserved.ensures.items,
    c.push_reserved.ensures.capacity,
    c.loop-place.invariant.room,
  );
}

pub returns : goal.returns
returns g c =
    let none : c.loop-place.places.len ≡ 0 = search rules in
    rw c.reverse.ensures.items (back_ended _ _ c.loop-place.row.items
    (ap (map (option_map (λ (log : LogTurnState g.row.L.Denot). log.file))) (no_items _ c.loop-place.places.len c.loop-place.places.ok.0 none)) c.loop-place.invariant.moved)
