-- The book taken is the next of its row, since it was turned round; each goes behind the slots before.
use Rattle.std.proofs.Common.{◌≡◌, Some, [], ◌∷◌, ◌++◌, length, refl, ap, ◌∙◌, arith, rules}
use Rattle.std.specs.Option.{option_map}
use Rattle.std.proofs.lemmas.List.{length-reverse}
use Rattle.cc_turns.proofs.RowSteps.{out_begun, out_next, out_ended, all_turned, at_last, at_rest, longer, no_items}
use Rattle.cc_turns.proofs.SlotSteps.{book}
use Rattle.cc_turns.proofs.slots.books_out.Goals as goal

pub loop-item-init : goal.loop-item-init
loop-item-init g c = record {
  moved = out_begun (option_map (book {D = g.row.D.Denot} {L = g.row.L.Denot} {Q = g.row.Q.Denot})) c.args.row.now.items c.reverse.new.self.items c.args.slots.now.items c.reverse.ensures.items;
  home = rw c.reverse.ensures.items (all_turned c.args.row.now.items c.requires.home);
  room = omega (arith, ap length c.reverse.ensures.items ∙ length-reverse c.args.row.now.items, c.requires.room);
  capacity = refl;
  emptied = c.reverse.ensures.capacity;
}

pub unwrap-requires : goal.unwrap-requires
unwrap-requires g c = at_last _ _ c.in-Some.item c.in-Some.ensures.items c.loop-item.invariant.home

pub push_reserved-requires : goal.push_reserved-requires
push_reserved-requires g c =
    omega (arith, longer _ _ c.in-Some.item c.in-Some.ensures.items, c.loop-item.invariant.room, c.loop-item.slots.ok.0)

pub loop-item-preserved : goal.loop-item-preserved
loop-item-preserved g c =
    record {
      moved = rw c.push_reserved.ensures.items (out_next (option_map (book {D = g.row.D.Denot} {L = g.row.L.Denot} {Q = g.row.Q.Denot})) c.loop-item.row.items c.pop.new.self.items (Some c.unwrap.result) c.loop-item.slots.items _
          (c.in-Some.ensures.items ∙ ap (λ o. c.pop.new.self.items ++ o ∷ []) c.unwrap.ensures) c.loop-item.invariant.moved);
      home = at_rest _ _ c.in-Some.item c.in-Some.ensures.items c.loop-item.invariant.home;
      room = omega (
        arith,
        longer _ _ c.in-Some.item c.in-Some.ensures.items,
        longer _ _ (Some (book c.unwrap.result)) c.push_reserved.ensures.items,
        c.push_reserved.ensures.capacity,
        c.loop-item.invariant.room,
      );
      capacity = c.push_reserved.ensures.capacity ∙ c.loop-item.invariant.capacity;
      emptied = c.pop.ensures.capacity ∙ c.loop-item.invariant.emptied;
    }

pub returns-clause-moved : goal.returns-clause-moved
returns-clause-moved g c =
    let none : c.loop-item.row.len ≡ 0 = search rules in
    out_ended (option_map (book {D = g.row.D.Denot} {L = g.row.L.Denot} {Q = g.row.Q.Denot})) c.loop-item.row.items c.loop-item.slots.items _
    (no_items _ c.loop-item.row.len c.loop-item.row.ok.0 none) c.loop-item.invariant.moved

pub returns-clause-emptied : goal.returns-clause-emptied
returns-clause-emptied g c =
    let none : c.pop.new.self.len ≡ 0 = search rules in
    record {
      empty = no_items _ c.pop.new.self.len c.pop.new.self.ok.0 none;
      room = omega (arith, c.args.row.now.ok.0, c.args.row.now.ok.1, c.pop.ensures.capacity, c.loop-item.invariant.emptied);
    }
