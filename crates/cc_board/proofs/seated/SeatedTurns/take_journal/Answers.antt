-- The rule allows the take; what the pass knows grows to the journal that it took, which its standing then says.
use Rattle.std.proofs.Common.{rules, refl, ap, ◌∙◌, subst, ◌+◌, ◌*◌, ◌≡◌, ◌∷◌, arith}
use Rattle.cc_model.specs.Turns.{Journal}
use Rattle.cc_turns.specs.Desk.{tells_of}
use Rattle.cc_turns.specs.Slots.{slot_of}
use Rattle.cc_turns.specs.Takes.{Takes, with_journal}
use Rattle.cc_board.specs.View.{standing_at}
use Rattle.cc_board.specs.Plays.{journal_at}
use Rattle.cc_board.proofs.Taking.{within-took}
use Rattle.cc_board.proofs.Seating.{take-allowed, took-turn, seats-journal, takes-journal}
use Rattle.cc_board.proofs.seated.SeatedTurns.take_journal.Goals as goal

pub take-requires-clause-may : goal.take-requires-clause-may
take-requires-clause-may g c =
    take-allowed _ c.self.inside.board.now.begun journal_at Journal (2 * c.from.result + c.from-2.result) c.self.inside.seat.id c.self.inside.seat.me (omega (arith, c.from.ensures, c.streams.ensures, c.from-2.ensures, c.logs.ensures))
    c.self.invariant.1 c.self.invariant.3 tt (ap (λ s. s.knows.journal) c.self.view_is ∙ c.requires.free) refl

pub invariant_of-self : goal.invariant_of-self
invariant_of-self g c =
    let begun = c.self.inside.board.now.begun in
    let v = c.self.inside.seat.me.0 in
    let is = c.self.view_is in
    let slot : 2 * c.from.result + c.from-2.result ≡ slot_of begun Journal = omega (arith, c.from.ensures, c.streams.ensures, c.from-2.ensures, c.logs.ensures) in
    let took = took-turn (tells_of g.D.Told.told g.D.Told.faults g.L.LogFile.told g.L.LogFile.faults g.Q.PostRoutine.posted) journal_at begun Journal (2 * c.from.result + c.from-2.result) c.self.inside.seat.me
    (c.take.new.seat.me.0, (2 * c.from.result + c.from-2.result, c.take.result) ∷ c.self.inside.seat.me.1) c.self.invariant.1 slot refl c.take.ensures.told in
    let seats = seats-journal begun v c.take.new.seat.me.0 (2 * c.from.result + c.from-2.result) c.self.inside.seat.me.1 c.take.new.seat.me.1 took.same slot
    (ap (λ s. s.knows.journal) is ∙ c.requires.free) c.self.invariant.7 c.self.invariant.2 c.take.ensures.out in
    (search rules, search rules, seats.carried_is, search rules, search rules, search rules, within-took _ _ _ _ took c.self.invariant.6, seats.own)

pub returns-clause-few : goal.returns-clause-few
returns-clause-few g c =
    let begun = c.self.inside.board.now.begun in
    let tells = tells_of g.D.Told.told g.D.Told.faults g.L.LogFile.told g.L.LogFile.faults g.Q.PostRoutine.posted in
    let slot : 2 * c.from.result + c.from-2.result ≡ slot_of begun Journal = omega (arith, c.from.ensures, c.streams.ensures, c.from-2.ensures, c.logs.ensures) in
    let took = took-turn tells journal_at begun Journal (2 * c.from.result + c.from-2.result) c.self.inside.seat.me
    (c.take.new.seat.me.0, (2 * c.from.result + c.from-2.result, c.take.result) ∷ c.self.inside.seat.me.1) c.self.invariant.1 slot refl c.take.ensures.told in
    (within-took _ _ _ _ took c.self.invariant.6).few

pub returns-clause-took : goal.returns-clause-took
returns-clause-took g c =
    let begun = c.self.inside.board.now.begun in
    let tells = tells_of g.D.Told.told g.D.Told.faults g.L.LogFile.told g.L.LogFile.faults g.Q.PostRoutine.posted in
    let slot : 2 * c.from.result + c.from-2.result ≡ slot_of begun Journal = omega (arith, c.from.ensures, c.streams.ensures, c.from-2.ensures, c.logs.ensures) in
    let took = took-turn tells journal_at begun Journal (2 * c.from.result + c.from-2.result) c.self.inside.seat.me
    (c.take.new.seat.me.0, (2 * c.from.result + c.from-2.result, c.take.result) ∷ c.self.inside.seat.me.1) c.self.invariant.1 slot refl c.take.ensures.told in
    subst (λ s. Takes with_journal (standing_at tells s.board.id s.knows s.device_turns) (standing_at tells c.self.inside.board.now.id c.take.new.seat.me.0 c.self.inside.device_turns)) c.self.view_is
    (takes-journal tells c.self.inside.board.now.id c.self.inside.seat.me (c.take.new.seat.me.0, (2 * c.from.result + c.from-2.result, c.take.result) ∷ c.self.inside.seat.me.1) c.self.inside.device_turns took)
