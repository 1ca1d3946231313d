-- One tick more, which finds little room where it is told of a full journal.
use Rattle.std.specs.Prelude.{◌≡◌, ℕ, ◌≤◌, refl}
use Rattle.std.proofs.Common.{◌∙◌, ap, subst, sym}
use Rattle.cc_turns.specs.Standing.{Standing}
use Rattle.cc_pieces.specs.Answered.{TickAnswered}
use Rattle.cc_pieces.specs.Phases.{lazy_writer}
use Rattle.cc_pieces.specs.Rooms.{HadNoRoom}
use Rattle.cc_run.proofs.TicksRan.{made-more, room-ticked, ticked-on}
use Rattle.cc_run.proofs.ticks.make_ticks.Goals as goal

pub loop-preserved : goal.loop-preserved
loop-preserved g c =
    let at = g.T.Turns.standing in
    let w : Standing = at c.args.turns.now in
    let between : Standing = at c.loop.turns in
    let new : Standing = at c.serve_tick-answer.new.turns in
    let same = c.loop.invariant.went.same in
    let number : between.number ≡ lazy_writer = ap (λ v. v.number) same ∙ c.requires.may.is_lazy in
    let setup : between.setup ≡ w.setup = ap (λ v. v.setup) same in
    let idle : between.in_flight ≡ 0 = ap (λ v. v.in_flight) same ∙ c.requires.may.free.none in
    let few : between.most_others ≤ 28 = subst (λ (n : ℕ). n ≤ 28) (sym (ap (λ v. v.most_others) same)) c.requires.may.few in
    let told = c.serve_tick-answer.result in
    record {
      made =
          made-more w.setup c.args.phase c.loop.counter c.args.ticks.now c.loop.ticks
          (record { each = c.loop.ticks.each; answers = c.push_reserved.new.self })
          (record { line = c.args.phase; answer = told }) w.seen between.seen new.seen
          c.loop.invariant.made c.push_reserved.ensures.items refl c.push_reserved.ensures.capacity refl
          (subst (λ (me : ℕ). TickAnswered me told between.seen new.seen) number c.serve_tick-answer.ensures.answered)
          (subst (λ u. HadNoRoom u 32 told between.seen new.seen) setup
          (room-ticked between new told c.serve_tick-answer.ensures.answered c.serve_tick-answer.ensures.full c.note_others.ensures.few c.serve_tick-answer.ensures.goes_on idle few));
      went = ticked-on w between new c.loop.invariant.went c.serve_tick-answer.ensures.goes_on;
    }
