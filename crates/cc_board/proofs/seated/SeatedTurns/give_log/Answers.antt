-- The rule allows the give, since a log that stands for what was seen fits its slot; the seat then holds no log.
use Rattle.std.proofs.Common.{rules, Some, refl, ap, ◌∙◌, ◌≡◌, ◌+◌, ◌*◌, arith}
use Rattle.atomic_table.specs.Table.{rest}
use Rattle.cc_model.specs.Turns.{Log}
use Rattle.cc_turns.specs.Desk.{tells_of}
use Rattle.cc_turns.specs.declared.slots.Place.TheVariants as place
use Rattle.cc_board.specs.Plays.{log_at}
use Rattle.cc_board.proofs.Seating.{log-word, give-allowed, holds-the, fits-log, seats-no_log}
use Rattle.cc_board.proofs.seated.SeatedTurns.give_log.Goals as goal

pub give-requires-clause-allowed : goal.give-requires-clause-allowed
give-requires-clause-allowed g c =
    let begun = c.self.inside.board.now.begun in
    let v = c.self.inside.seat.me.0 in
    let held : v.log ≡ Some c.args.handle = ap (λ s. s.knows.log) c.self.view_is ∙ c.requires.held in
    give-allowed (tells_of g.D.Told.told g.D.Told.faults g.L.LogFile.told g.L.LogFile.faults g.Q.PostRoutine.posted) begun log_at (Log c.args.handle) (place.Log c.args.log) (2 * c.from.result + c.from-2.result) 0 c.self.inside.seat.id v (rest c.self.inside.seat.me.1)
    (omega (arith, c.from.ensures, c.streams.ensures, c.from-2.ensures)) c.self.invariant.1 c.self.invariant.3 (c.self.invariant.7.log c.args.handle held) refl (holds-the c.args.handle v.log held)
    (fits-log (tells_of g.D.Told.told g.D.Told.faults g.L.LogFile.told g.L.LogFile.faults g.Q.PostRoutine.posted) begun v c.args.self.now.knows c.args.handle c.args.log (ap (λ s. s.knows) c.self.view_is) c.self.invariant.1 c.requires.handle c.requires.stands)
    (log-word begun c.args.handle)

pub invariant_of-self : goal.invariant_of-self
invariant_of-self g c =
    let is = c.self.view_is in
    let seats = seats-no_log c.self.inside.board.now.begun c.self.inside.seat.me c.give.new.seat.me c.args.handle c.give.ensures.told
    (ap (λ s. s.knows.journal) is ∙ c.requires.no_journal) (ap (λ s. s.knows.log) is ∙ c.requires.held)
    c.self.invariant.7 c.self.invariant.2 in
    (search rules, search rules, seats.carried_is, search rules, search rules, search rules, search rules, seats.own)
