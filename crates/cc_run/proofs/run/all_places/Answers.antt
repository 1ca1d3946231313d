-- One place more of a caller: the last of the names that are left, which stand turned round.
use Rattle.std.proofs.Common.{◌∙◌, ◌++◌, ◌∷◌, [], length, map, reverse, sym, ap, arith, append_assoc}
use Rattle.std.proofs.lemmas.List.{length-reverse}
use Rattle.cc_lines.specs.Holds.{NamesState}
use Rattle.cc_run.proofs.RowSteps.{last_first, longer, reverse_twice}
use Rattle.cc_run.proofs.run.all_places.Goals as goal

pub loop-own-init : goal.loop-own-init
loop-own-init c = record {
  taken = rw c.requires.room.empty (ap (map (λ (own : NamesState). own.places.ahead)) (ap reverse c.reverse.ensures.items ∙ reverse_twice c.args.names.items));
  copied = rw c.requires.async_room.empty (ap (map (λ (own : NamesState). own.places.copies)) (ap reverse c.reverse.ensures.items ∙ reverse_twice c.args.names.items));
  counted = omega (arith, ap length c.requires.room.empty, ap length c.reverse.ensures.items, length-reverse c.args.names.items, c.requires.callers);
  room = c.requires.room.room;
  async_counted = omega (arith, ap length c.requires.async_room.empty, ap length c.reverse.ensures.items, length-reverse c.args.names.items, c.requires.callers);
  async_room = c.requires.async_room.room;
}

pub loop-own-preserved : goal.loop-own-preserved
loop-own-preserved c =
    let before = c.loop-own.invariant in
    let own = c.in-Some.own in
    record {
      taken =
          rw (c.push_reserved.ensures.items, c.into_places-ahead.ensures)
          (append_assoc c.loop-own.places.items (own.places.ahead ∷ []) (map (λ (own : NamesState). own.places.ahead) (reverse c.pop.new.self.items))
          ∙ (ap (λ l. c.loop-own.places.items ++ map (λ (own : NamesState). own.places.ahead) l) (sym (last_first c.loop-own.names.items c.pop.new.self.items own c.in-Some.ensures.items)) ∙ before.taken));
      copied =
          rw (c.push_reserved-in-Some.ensures.items, c.into_places-ahead.ensures)
          (append_assoc c.loop-own.async_places.items (own.places.copies ∷ []) (map (λ (own : NamesState). own.places.copies) (reverse c.pop.new.self.items))
          ∙ (ap (λ l. c.loop-own.async_places.items ++ map (λ (own : NamesState). own.places.copies) l) (sym (last_first c.loop-own.names.items c.pop.new.self.items own c.in-Some.ensures.items)) ∙ before.copied));
      async_counted = omega (arith, longer _ _ _ c.push_reserved-in-Some.ensures.items, longer _ _ _ c.in-Some.ensures.items, before.async_counted);
      async_room = rw c.push_reserved-in-Some.ensures.capacity before.async_room;
      counted = omega (arith, longer _ _ _ c.push_reserved.ensures.items, longer _ _ _ c.in-Some.ensures.items, before.counted);
      room = rw c.push_reserved.ensures.capacity before.room;
    }

pub loop-own-smaller : goal.loop-own-smaller
loop-own-smaller c = omega (arith, longer _ _ _ c.in-Some.ensures.items)
