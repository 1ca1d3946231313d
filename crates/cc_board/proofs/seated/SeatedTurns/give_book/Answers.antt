-- The rule allows the give, since a book that stands fits the slot of its stream; the seat then holds no book's turn.
use Rattle.std.proofs.Common.{rules, Some, refl, ap, ◌∙◌, ◌≡◌, ◌+◌, arith}
use Rattle.atomic_table.specs.Table.{rest}
use Rattle.cc_model.specs.Turns.{Book}
use Rattle.cc_turns.specs.Desk.{tells_of}
use Rattle.cc_turns.specs.declared.slots.Place.TheVariants as place
use Rattle.cc_board.specs.Plays.{book_at}
use Rattle.cc_board.proofs.Seating.{book-word, give-allowed, holds-the, fits-book, seats-no_book}
use Rattle.cc_board.proofs.seated.SeatedTurns.give_book.Goals as goal

pub give-requires-clause-allowed : goal.give-requires-clause-allowed
give-requires-clause-allowed g c =
    let begun = c.self.inside.board.now.begun in
    let v = c.self.inside.seat.me.0 in
    let held : v.book ≡ Some c.args.stream = ap (λ s. s.knows.book) c.self.view_is ∙ ap (λ h. h.book) c.requires.held in
    give-allowed (tells_of g.D.Told.told g.D.Told.faults g.L.LogFile.told g.L.LogFile.faults g.Q.PostRoutine.posted) begun book_at (Book c.args.stream) (place.Book c.args.book) (c.from.result + c.from-2.result) 0 c.self.inside.seat.id v (rest c.self.inside.seat.me.1)
    (omega (arith, c.from.ensures, c.streams.ensures, c.from-2.ensures, c.number.ensures.same)) c.self.invariant.1 c.self.invariant.3 (c.self.invariant.7.book c.args.stream held) refl (holds-the c.args.stream v.book held)
    (fits-book (tells_of g.D.Told.told g.D.Told.faults g.L.LogFile.told g.L.LogFile.faults g.Q.PostRoutine.posted) begun v c.args.self.now.knows c.args.stream c.args.book (ap (λ s. s.knows) c.self.view_is) c.self.invariant.1 c.requires.stream c.requires.stands)
    (book-word begun c.args.stream)

pub invariant_of-self : goal.invariant_of-self
invariant_of-self g c =
    let is = c.self.view_is in
    let seats = seats-no_book c.self.inside.board.now.begun c.self.inside.seat.me c.give.new.seat.me c.args.stream c.give.ensures.told
    (ap (λ s. s.knows.journal) is ∙ ap (λ h. h.journal) c.requires.held) (ap (λ s. s.knows.log) is ∙ ap (λ h. h.log) c.requires.held) (ap (λ s. s.knows.book) is ∙ ap (λ h. h.book) c.requires.held)
    c.self.invariant.7 c.self.invariant.2 in
    (search rules, search rules, seats.carried_is, search rules, search rules, search rules, search rules, seats.own)
