-- The log taken is the next of the row, since it was turned round; it is fresh, and home at its number.
use Rattle.std.proofs.Common.{◌≡◌, ◌+◌, ◌<◌, None, Some, [], length, reverse, drop, refl, sym, subst, ap, ◌∙◌, arith, rules}
use Rattle.std.proofs.Common.{suc}
use Rattle.std.specs.Prelude.{slice_get}
use Rattle.std.proofs.lemmas.List.{length-reverse}
use Rattle.cc_turns.specs.Places.{AreHome}
use Rattle.cc_turns.specs.Desk.{LogIsHome}
use Rattle.cc_turns.proofs.RowSteps.{reverse_twice, next_left, none_home, pushed_home, longer, no_items}
use Rattle.cc_turns.proofs.Fresh.{log_fresh}
use Rattle.cc_turns.proofs.places.of_logs.Goals as goal

pub loop-file-init : goal.loop-file-init
loop-file-init g c = record {
  home = subst (λ n. AreHome n None (LogIsHome g.L.LogFile.told g.L.LogFile.faults c.args.row.now.items []) c.args.places.items) (sym (ap length c.requires.room.empty)) (none_home _ c.args.places.items c.requires.room.empty);
  left = ap reverse c.reverse.ensures.items ∙ reverse_twice c.args.row.now.items ∙ ap (λ ps. drop (length ps) c.args.row.now.items) (sym c.requires.room.empty);
  counted = omega (arith, ap length c.reverse.ensures.items ∙ length-reverse c.args.row.now.items, ap length c.requires.room.empty);
  room = refl;
  capacity = c.reverse.ensures.capacity;
}

pub overflow_cast-handle : goal.overflow_cast-handle
overflow_cast-handle g c =
    let small : c.len-handle.result < 256 = omega (arith, c.len-handle.ensures, c.loop-file.places.ok.0, c.loop-file.invariant.counted, c.requires.few) in
    search (rules, small)

pub push_reserved-requires : goal.push_reserved-requires
push_reserved-requires g c =
    omega (arith, longer _ _ c.in-Some.file c.in-Some.ensures.items, c.loop-file.places.ok.0, c.loop-file.invariant.counted, c.loop-file.invariant.room, c.requires.room.room)

pub loop-file-preserved : goal.loop-file-preserved
loop-file-preserved g c =
    let first : (slice_get c.args.row.now.items (length c.loop-file.places.items) ≡ Some c.in-Some.file) × (reverse c.pop.new.self.items ≡ drop (suc (length c.loop-file.places.items)) c.args.row.now.items) =
    next_left c.args.row.now.items c.loop-file.row.items c.pop.new.self.items (length c.loop-file.places.items) c.in-Some.file
    c.in-Some.ensures.items c.loop-file.invariant.left in
    let more : length c.push_reserved.new.self.items ≡ length c.loop-file.places.items + 1 = longer _ _ (Some c.new.result) c.push_reserved.ensures.items in
    let next : length c.push_reserved.new.self.items ≡ suc (length c.loop-file.places.items) = omega (arith, more) in
    record {
      home = rw c.push_reserved.ensures.items (pushed_home (length c.loop-file.places.items) _ c.loop-file.places.items c.new.result (longer _ _ (Some c.new.result) refl)
          (log_fresh g.L.LogFile.told g.L.LogFile.faults c.args.row.now.items (length c.loop-file.places.items) c.len-handle.result c.in-Some.file c.new.result
          first.0 (c.len-handle.ensures ∙ c.loop-file.places.ok.0) c.new.ensures.same c.new.ensures.stands) c.loop-file.invariant.home);
      left = subst (λ n. reverse c.pop.new.self.items ≡ drop n c.args.row.now.items) (sym next) first.1;
      counted = omega (arith, longer _ _ c.in-Some.file c.in-Some.ensures.items, more, c.loop-file.invariant.counted);
      room = rw c.push_reserved.ensures.capacity c.loop-file.invariant.room;
      capacity = c.pop.ensures.capacity ∙ c.loop-file.invariant.capacity;
    }

pub returns-clause-home : goal.returns-clause-home
returns-clause-home g c =
    let none : c.loop-file.row.len ≡ 0 = search rules in
    subst (λ n. AreHome n None (LogIsHome g.L.LogFile.told g.L.LogFile.faults c.args.row.now.items []) c.loop-file.places.items)
    (omega (arith, none, c.loop-file.row.ok.0, c.loop-file.invariant.counted)) c.loop-file.invariant.home

pub returns-clause-emptied : goal.returns-clause-emptied
returns-clause-emptied g c =
    let none : c.pop.new.self.len ≡ 0 = search rules in
    record {
      empty = no_items _ c.pop.new.self.len c.pop.new.self.ok.0 none;
      room = omega (arith, c.args.row.now.ok.0, c.args.row.now.ok.1, c.pop.ensures.capacity, c.loop-file.invariant.capacity);
    }
