-- The last caller ran behind the others.
use Rattle.std.proofs.Common.{rules, ◌<◌, ◌∷◌, [], length, vec_capacity, subst, arith, refl}
use Rattle.std.specs.List.{AllByRecursion}
use Rattle.cc_turns.specs.Desk.{tells_of}
use Rattle.cc_turns.specs.Places.{IsRoomFor}
use Rattle.cc_run.specs.Callers.{MayRun, MayAllRun}
use Rattle.cc_run.proofs.CallersRan.{own-parts, ran-no_lines, all-ran-long, all-ran-last}
use Rattle.cc_run.proofs.Lists.{all-front, all-back}
use Rattle.cc_run.proofs.callers.+fn-run_callers-join+arg2+run_callers.Goals as goal

pub push_reserved-requires : goal.push_reserved-requires
push_reserved-requires g t c =
    omega (arith, all-ran-long _ _ _ _ _ c.run_callers-ended.ensures.ran, c.run_callers-ended.ensures.capacity, c.requires.room.room, c.in-Some.ensures.len)

pub returns-then-capacity-eq0-clause-ran : goal.returns-then-capacity-eq0-clause-ran
returns-then-capacity-eq0-clause-ran g t c =
    let tells = tells_of g.D.Told.told g.D.Told.faults g.L.LogFile.told g.L.LogFile.faults g.Q.PostRoutine.posted in
    let all = subst (λ l. AllByRecursion (MayRun tells c.args.board.now c.args.lines.now) l) c.in-Some.ensures.items c.requires.may in
    rw (c.in-Some.ensures.items, c.push_reserved.ensures.items)
    (all-ran-last tells c.args.board.now c.args.lines.now c.pop.new.self.items c.run_callers-ended.result.items c.in-Some.caller _ c.run_callers-ended.ensures.ran
    (ran-no_lines tells c.args.board.now c.args.lines.now c.in-Some.caller _ (all-back (MayRun tells c.args.board.now c.args.lines.now) c.pop.new.self.items (c.in-Some.caller ∷ []) all).0 (omega arith) refl refl refl))

pub join-ended-requires-after_bounds : goal.join-ended-requires-after_bounds
join-ended-requires-after_bounds g t c κs within =
    let tells = tells_of g.D.Told.told g.D.Told.faults g.L.LogFile.told g.L.LogFile.faults g.Q.PostRoutine.posted in
    let May = MayRun tells c.args.board.now c.args.lines.now in
    let all = subst (λ l. AllByRecursion May l) c.in-Some.ensures.items c.requires.may in
    let others : MayAllRun tells c.args.board.now c.args.lines.now c.pop.new.self.items = all-front May c.pop.new.self.items (c.in-Some.caller ∷ []) all in
    let last : May c.in-Some.caller = (all-back May c.pop.new.self.items (c.in-Some.caller ∷ []) all).0 in
    let fewer : length c.pop.new.self.items < length c.args.callers.items = omega (arith, c.in-Some.ensures.len) in
    let room : IsRoomFor (length c.pop.new.self.items) c.args.room.items (vec_capacity c.args.room) =
    record { empty = c.requires.room.empty; room = omega (arith, fewer, c.requires.room.room) } in
    let own = own-parts c.args.queues.now c.args.callers.items c.pop.new.self.items c.in-Some.caller c.in-Some.ensures.items c.requires.own in
    search (rules, others, last, room, fewer, own.0, own.1)

pub push_reserved-requires-2 : goal.push_reserved-requires-2
push_reserved-requires-2 g t c =
    omega (arith, all-ran-long _ _ _ _ _ c.join-ended.ensures.first.0, c.join-ended.ensures.first.1, c.requires.room.room, c.in-Some.ensures.len)

pub returns-clause-ran : goal.returns-clause-ran
returns-clause-ran g t c =
    let tells = tells_of g.D.Told.told g.D.Told.faults g.L.LogFile.told g.L.LogFile.faults g.Q.PostRoutine.posted in
    rw (c.in-Some.ensures.items, c.push_reserved-2.ensures.items)
    (all-ran-last tells c.args.board.now c.args.lines.now c.pop.new.self.items c.join-ended.result.0.items c.in-Some.caller c.join-ended.result.1 c.join-ended.ensures.first.0 c.join-ended.ensures.second)
