-- As the files are taken in their order, each log so far is at home at its handle, and nothing was done to it yet.
use Rattle.std.proofs.Common.{◌≡◌, ◌+◌, ◌<◌, Some, [], length, reverse, drop, suc, refl, sym, subst, ap, ◌∙◌, arith, rules}
use Rattle.std.specs.Prelude.{slice_get}
use Rattle.std.proofs.lemmas.List.{length-reverse}
use Rattle.cc_turns.specs.Desk.{LogIsHome}
use Rattle.cc_turns.proofs.RowSteps.{reverse_twice, next_left, longer, no_items}
use Rattle.cc_turns.proofs.Fresh.{log_fresh}
use Rattle.cc_world.specs.World.{AreAt}
use Rattle.cc_world.proofs.Emptying.{none-at, pushed-at}
use Rattle.cc_world.proofs.places.logs_of.Goals as goal

pub loop-file-init : goal.loop-file-init
loop-file-init g c = record {
  logs = subst (λ n. AreAt n (LogIsHome g.L.LogFile.told g.L.LogFile.faults c.args.files.now.items []) c.args.logs.items) (sym (ap length c.requires.room.empty)) (none-at _ c.args.logs.items c.requires.room.empty);
  left = ap reverse c.reverse.ensures.items ∙ reverse_twice c.args.files.now.items ∙ ap (λ ps. drop (length ps) c.args.files.now.items) (sym c.requires.room.empty);
  counted = omega (arith, ap length c.reverse.ensures.items ∙ length-reverse c.args.files.now.items, ap length c.requires.room.empty);
  room = refl;
  capacity = c.reverse.ensures.capacity;
}

pub overflow_cast-handle : goal.overflow_cast-handle
overflow_cast-handle g c =
    let small : c.len-handle.result < 256 = omega (arith, c.len-handle.ensures, c.loop-file.logs.ok.0, c.loop-file.invariant.counted, c.requires.few) in
    search (rules, small)

pub push_reserved-requires : goal.push_reserved-requires
push_reserved-requires g c =
    omega (arith, longer _ _ c.in-Some.file c.in-Some.ensures.items, c.loop-file.logs.ok.0, c.loop-file.invariant.counted, c.loop-file.invariant.room, c.requires.room.room)

pub loop-file-preserved : goal.loop-file-preserved
loop-file-preserved g c =
    let first : (slice_get c.args.files.now.items (length c.loop-file.logs.items) ≡ Some c.in-Some.file) × (reverse c.pop.new.self.items ≡ drop (suc (length c.loop-file.logs.items)) c.args.files.now.items) =
    next_left c.args.files.now.items c.loop-file.files.items c.pop.new.self.items (length c.loop-file.logs.items) c.in-Some.file
    c.in-Some.ensures.items c.loop-file.invariant.left in
    let more : length c.push_reserved.new.self.items ≡ length c.loop-file.logs.items + 1 = longer _ _ c.new.result c.push_reserved.ensures.items in
    let next : length c.push_reserved.new.self.items ≡ suc (length c.loop-file.logs.items) = omega (arith, more) in
    record {
      logs = rw c.push_reserved.ensures.items (pushed-at (length c.loop-file.logs.items) _ c.loop-file.logs.items c.new.result (longer _ _ c.new.result refl)
          (log_fresh g.L.LogFile.told g.L.LogFile.faults c.args.files.now.items (length c.loop-file.logs.items) c.len-handle.result c.in-Some.file c.new.result
          first.0 (c.len-handle.ensures ∙ c.loop-file.logs.ok.0) c.new.ensures.same c.new.ensures.stands) c.loop-file.invariant.logs);
      left = subst (λ n. reverse c.pop.new.self.items ≡ drop n c.args.files.now.items) (sym next) first.1;
      counted = omega (arith, longer _ _ c.in-Some.file c.in-Some.ensures.items, more, c.loop-file.invariant.counted);
      room = rw c.push_reserved.ensures.capacity c.loop-file.invariant.room;
      capacity = c.pop.ensures.capacity ∙ c.loop-file.invariant.capacity;
    }

pub returns-clause-logs : goal.returns-clause-logs
returns-clause-logs g c =
    let none : c.loop-file.files.len ≡ 0 = search rules in
    subst (λ n. AreAt n (LogIsHome g.L.LogFile.told g.L.LogFile.faults c.args.files.now.items []) c.loop-file.logs.items)
    (omega (arith, none, c.loop-file.files.ok.0, c.loop-file.invariant.counted)) c.loop-file.invariant.logs

pub returns-clause-emptied : goal.returns-clause-emptied
returns-clause-emptied g c =
    let none : c.pop.new.self.len ≡ 0 = search rules in
    record {
      empty = no_items _ c.pop.new.self.len c.pop.new.self.ok.0 none;
      room = omega (arith, c.args.files.now.ok.0, c.args.files.now.ok.1, c.pop.ensures.capacity, c.loop-file.invariant.capacity);
    }
