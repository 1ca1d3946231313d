-- The rule allows the take, as the seat holds no book's turn; with it the seat knows the book of that one stream.
use Rattle.std.proofs.Common.{rules, sym, ap, ◌∙◌, subst, length, ◌<◌, ◌+◌, ◌≡◌, ◌∷◌, arith}
use Rattle.cc_model.specs.Turns.{Book}
use Rattle.cc_turns.specs.Desk.{tells_of}
use Rattle.cc_turns.specs.Slots.{slot_of}
use Rattle.cc_board.specs.Plays.{book_at}
use Rattle.cc_board.proofs.Taking.{within-took}
use Rattle.cc_board.proofs.Seating.{book-word, take-allowed, took-turn, seats-book}
use Rattle.cc_board.proofs.seated.SeatedTurns.take_book.Goals as goal

pub take-requires-clause-may : goal.take-requires-clause-may
take-requires-clause-may g c =
    take-allowed _ c.self.inside.board.now.begun book_at (Book c.args.stream) (c.from.result + c.from-2.result) c.self.inside.seat.id c.self.inside.seat.me (omega (arith, c.from.ensures, c.streams.ensures, c.from-2.ensures, c.number.ensures.same))
    c.self.invariant.1 c.self.invariant.3
    (subst (λ n. c.args.stream < n) (ap (λ s. length s.knows.disks) (sym c.self.view_is) ∙ ap (λ b. length b.disks) c.self.invariant.1) c.requires.known)
    (ap (λ s. s.knows.book) c.self.view_is ∙ ap (λ h. h.book) c.requires.free)
    (book-word c.self.inside.board.now.begun c.args.stream)

pub invariant_of-self : goal.invariant_of-self
invariant_of-self g c =
    let begun = c.self.inside.board.now.begun in
    let v = c.self.inside.seat.me.0 in
    let is = c.self.view_is in
    let slot : c.from.result + c.from-2.result ≡ slot_of begun (Book c.args.stream) = omega (arith, c.from.ensures, c.streams.ensures, c.from-2.ensures, c.number.ensures.same) in
    let took = took-turn (tells_of g.D.Told.told g.D.Told.faults g.L.LogFile.told g.L.LogFile.faults g.Q.PostRoutine.posted) book_at begun (Book c.args.stream) (c.from.result + c.from-2.result) c.self.inside.seat.me
    (c.take.new.seat.me.0, (c.from.result + c.from-2.result, c.take.result) ∷ c.self.inside.seat.me.1) c.self.invariant.1 slot (book-word begun c.args.stream) c.take.ensures.told in
    let seats = seats-book begun v c.take.new.seat.me.0 c.args.stream (c.from.result + c.from-2.result) c.self.inside.seat.me.1 c.take.new.seat.me.1 took.same slot
    (subst (λ n. c.args.stream < n) (ap (λ s. length s.knows.disks) (sym is) ∙ ap (λ b. length b.disks) c.self.invariant.1) c.requires.known)
    (ap (λ s. s.knows.journal) is ∙ ap (λ h. h.journal) c.requires.free) (ap (λ s. s.knows.log) is ∙ ap (λ h. h.log) c.requires.free) (ap (λ s. s.knows.book) is ∙ ap (λ h. h.book) c.requires.free)
    c.self.invariant.7 c.self.invariant.2 c.take.ensures.out in
    (search rules, search rules, seats.carried_is, search rules, search rules, search rules, within-took _ _ _ _ took c.self.invariant.6, seats.own)
