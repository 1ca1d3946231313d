-- The rule allows the take, as the seat holds no log's turn and the log is one of the board; the seat then holds it.
use Rattle.std.proofs.Common.{rules, sym, ap, ◌∙◌, subst, length, ◌<◌, ◌+◌, ◌*◌, ◌≡◌, ◌∷◌, arith}
use Rattle.cc_model.specs.Turns.{Log}
use Rattle.cc_turns.specs.Desk.{tells_of}
use Rattle.cc_turns.specs.Slots.{slot_of}
use Rattle.cc_board.specs.Plays.{log_at}
use Rattle.cc_board.proofs.Taking.{within-took}
use Rattle.cc_board.proofs.Seating.{log-word, take-allowed, took-turn, seats-log}
use Rattle.cc_board.proofs.seated.SeatedTurns.take_log.Goals as goal

pub take-requires-clause-may : goal.take-requires-clause-may
take-requires-clause-may g c =
    take-allowed _ c.self.inside.board.now.begun log_at (Log c.args.handle) (2 * c.from.result + c.from-2.result) c.self.inside.seat.id c.self.inside.seat.me (omega (arith, c.from.ensures, c.streams.ensures, c.from-2.ensures))
    c.self.invariant.1 c.self.invariant.3
    (subst (λ n. c.args.handle < n) (ap (λ s. length s.knows.logs) (sym c.self.view_is) ∙ ap (λ b. length b.logs) c.self.invariant.1) c.requires.known)
    (ap (λ s. s.knows.log) c.self.view_is ∙ c.requires.no_log)
    (log-word c.self.inside.board.now.begun c.args.handle)

pub invariant_of-self : goal.invariant_of-self
invariant_of-self g c =
    let begun = c.self.inside.board.now.begun in
    let v = c.self.inside.seat.me.0 in
    let is = c.self.view_is in
    let slot : 2 * c.from.result + c.from-2.result ≡ slot_of begun (Log c.args.handle) = omega (arith, c.from.ensures, c.streams.ensures, c.from-2.ensures) in
    let took = took-turn (tells_of g.D.Told.told g.D.Told.faults g.L.LogFile.told g.L.LogFile.faults g.Q.PostRoutine.posted) log_at begun (Log c.args.handle) (2 * c.from.result + c.from-2.result) c.self.inside.seat.me
    (c.take.new.seat.me.0, (2 * c.from.result + c.from-2.result, c.take.result) ∷ c.self.inside.seat.me.1) c.self.invariant.1 slot (log-word begun c.args.handle) c.take.ensures.told in
    let seats = seats-log begun v c.take.new.seat.me.0 c.args.handle (2 * c.from.result + c.from-2.result) c.self.inside.seat.me.1 c.take.new.seat.me.1 took.same slot
    (subst (λ n. c.args.handle < n) (ap (λ s. length s.knows.logs) (sym is) ∙ ap (λ b. length b.logs) c.self.invariant.1) c.requires.known)
    (ap (λ s. s.knows.journal) is ∙ c.requires.no_journal) (ap (λ s. s.knows.log) is ∙ c.requires.no_log)
    c.self.invariant.7 c.self.invariant.2 c.take.ensures.out in
    (search rules, search rules, seats.carried_is, search rules, search rules, search rules, within-took _ _ _ _ took c.self.invariant.6, seats.own)
