-- The rule allows the give, since what was added stands and at most one place is in flight; the seat then holds none.
use Rattle.std.proofs.Common.{◌≤◌, rules, ap, subst, sym, ◌∙◌}
use Rattle.atomic_table.specs.Table.{Me}
use Rattle.cc_turns.specs.Desk.{tells_of}
use Rattle.cc_turns.specs.Takes.{without_journal}
use Rattle.cc_board.specs.declared.rule.View.{View}
use Rattle.cc_board.specs.View.{turns_held, standing_at}
use Rattle.cc_board.specs.Plays.{TurnSlot}
use Rattle.cc_board.specs.Board.{PassIsWithin, SeatedState}
use Rattle.cc_board.proofs.GivingJournal.{gives_journal_at}
use Rattle.cc_board.proofs.Seating.{seats-no_journal}
use Rattle.cc_board.proofs.seated.SeatedTurns.give_journal.Goals as goal

pub give-requires-clause-allowed : goal.give-requires-clause-allowed
give-requires-clause-allowed g c = gives_journal_at (tells_of g.D.Told.told g.D.Told.faults g.L.LogFile.told g.L.LogFile.faults g.Q.PostRoutine.posted)
    c.self.inside.board.now.begun c.self.inside.board.now.id c.self.inside.seat.id c.self.inside.seat.me.0 _ c.self.inside.device_turns c.args.journal _
    (search rules) (search rules) (search rules) (search rules) c.self.invariant.6.is_other (search rules) c.note_capacity.ensures (search rules) (search rules)

pub invariant_of-self : goal.invariant_of-self
invariant_of-self g c =
    let is = c.self.view_is in
    let tells = tells_of g.D.Told.told g.D.Told.faults g.L.LogFile.told g.L.LogFile.faults g.Q.PostRoutine.posted in
    let seats = seats-no_journal c.self.inside.board.now.begun c.self.inside.seat.me c.give.new.seat.me (ap (λ m. m.1) c.give.ensures.told) (ap (λ m. turns_held m.0) c.give.ensures.told)
    (ap (λ s. s.knows.journal) is ∙ c.requires.held) c.self.invariant.7 c.self.invariant.2 in
    let few = subst (λ (w : SeatedState g.row.D.Denot g.row.L.Denot). (without_journal c.args.journal (standing_at tells w.board.id w.knows w.device_turns)).in_flight ≤ 1) (sym is) c.requires.few in
    let within = subst (λ (m : Me (TurnSlot g.row.D.Denot g.row.L.Denot g.row.Q.Denot) (View g.row.D.Denot g.row.L.Denot)). PassIsWithin m.0) (sym c.give.ensures.told)
    (record { is_other = c.self.invariant.6.is_other; one = few; few = c.self.invariant.6.few }) in
    (search rules, search rules, seats.carried_is, search rules, search rules, search rules, within, seats.own)

pub returns : goal.returns
returns g c =
    let tells = tells_of g.D.Told.told g.D.Told.faults g.L.LogFile.told g.L.LogFile.faults g.Q.PostRoutine.posted in
    ap (λ (m : Me (TurnSlot g.row.D.Denot g.row.L.Denot g.row.Q.Denot) (View g.row.D.Denot g.row.L.Denot)). standing_at tells c.self.inside.board.now.id m.0 c.self.inside.device_turns) c.give.ensures.told
    ∙ ap (λ (w : SeatedState g.row.D.Denot g.row.L.Denot). without_journal c.args.journal (standing_at tells w.board.id w.knows w.device_turns)) c.self.view_is
