-- The item taken is the next of the row, since it was turned round; so the places have it in its order.
use Rattle.std.proofs.Common.{◌≡◌, Some, [], length, ap, ◌∙◌, arith, rules}
use Rattle.std.proofs.lemmas.List.{length-reverse}
use Rattle.cc_turns.proofs.RowSteps.{out_begun, out_next, out_ended, longer, no_items}
use Rattle.cc_turns.proofs.places.out_of.Goals as goal

pub loop-item-init : goal.loop-item-init
loop-item-init g c = record {
  moved = rw c.requires.empty (out_begun (λ a. Some a) c.args.row.now.items c.reverse.new.self.items [] c.reverse.ensures.items);
  room = omega (arith, ap length c.reverse.ensures.items ∙ length-reverse c.args.row.now.items, ap length c.requires.empty, c.requires.room);
  capacity = c.reverse.ensures.capacity;
}

pub push_reserved-requires : goal.push_reserved-requires
push_reserved-requires g c =
    omega (arith, longer _ _ c.in-Some.item c.in-Some.ensures.items, c.loop-item.invariant.room, c.loop-item.places.ok.0)

pub loop-item-preserved : goal.loop-item-preserved
loop-item-preserved g c = record {
  moved = rw c.push_reserved.ensures.items (out_next (λ a. Some a) c.loop-item.row.items c.pop.new.self.items c.in-Some.item c.loop-item.places.items _
      c.in-Some.ensures.items c.loop-item.invariant.moved);
  room = omega (
    arith,
    longer _ _ c.in-Some.item c.in-Some.ensures.items,
    longer _ _ (Some c.in-Some.item) c.push_reserved.ensures.items,
    c.push_reserved.ensures.capacity,
    c.loop-item.invariant.room,
  );
  capacity = c.pop.ensures.capacity ∙ c.loop-item.invariant.capacity;
}

pub returns-clause-moved : goal.returns-clause-moved
returns-clause-moved g c =
    let none : c.loop-item.row.len ≡ 0 = search rules in
    out_ended (λ a. Some a) c.loop-item.row.items c.loop-item.places.items _ (no_items _ c.loop-item.row.len c.loop-item.row.ok.0 none) c.loop-item.invariant.moved

pub returns-clause-emptied : goal.returns-clause-emptied
returns-clause-emptied g c =
    let none : c.pop.new.self.len ≡ 0 = search rules in
    record {
      empty = no_items _ c.pop.new.self.len c.pop.new.self.ok.0 none;
      room = omega (arith, c.args.row.now.ok.0, c.args.row.now.ok.1, c.pop.ensures.capacity, c.loop-item.invariant.capacity);
    }
