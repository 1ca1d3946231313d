-- The turn that is taken puts the book in hand for a visit; what the refusal left since, it left since before it was
-- taken.
use Rattle.std.specs.Prelude.{ℕ}
use Rattle.std.proofs.Common.{ap, sym, ◌∙◌, subst}
use Rattle.cc_book.specs.Book.{BookStands}
use Rattle.cc_effects.specs.Noncached.{MisshapenLeft}
use Rattle.cc_model.specs.Good.{IsGood}
use Rattle.cc_model.specs.Setup.{Setup}
use Rattle.cc_turns.specs.Standing.{Standing}
use Rattle.cc_turns.specs.Takes.{Takes, with_book}
use Rattle.cc_writes.specs.Ways.{IsFullError}
use Rattle.cc_ranges.proofs.ShapeVisits.{misshapen-before, book-taken, book-idle, book-number, book-setup, went-book, full-given}
use Rattle.cc_ranges.proofs.shapes.refuse.Goals as goal

pub refuse_at-error-requires-clause-book : goal.refuse_at-error-requires-clause-book
refuse_at-error-requires-clause-book g c =
    let w = g.T.Turns.standing c.args.turns.now in
    let v = g.T.Turns.standing c.take_book-book.new.self in
    let file = c.args.file in
    let s = file.stream in
    let took = subst (λ (n : ℕ). Takes (with_book n) w v) c.stream-stream.ensures c.take_book-book.ensures.took in
    let b_is = c.take_book-book.ensures.stream ∙ c.stream-stream.ensures in
    book-taken w v s c.take_book-book.result c.requires.can took b_is
    (subst (λ (n : ℕ). BookStands (v.setup.opening n) v.seen c.take_book-book.result) c.stream-stream.ensures c.take_book-book.ensures.stands)

pub returns-clause-left : goal.returns-clause-left
returns-clause-left g c =
    let w = g.T.Turns.standing c.args.turns.now in
    let v = g.T.Turns.standing c.take_book-book.new.self in
    let y = g.T.Turns.standing c.refuse_at-error.new.turns in
    let file = c.args.file in
    let s = file.stream in
    let took = subst (λ (n : ℕ). Takes (with_book n) w v) c.stream-stream.ensures c.take_book-book.ensures.took in
    let b_is = c.take_book-book.ensures.stream ∙ c.stream-stream.ensures in
    subst (λ (a : Standing). MisshapenLeft w.number file c.args.call c.args.refusal c.refuse_at-error.result w.seen a.seen) (sym c.give_book.ensures)
    (misshapen-before w.number file c.args.call c.args.refusal c.refuse_at-error.result w.seen v.seen y.seen (book-idle w v s c.take_book-book.result c.requires.can took b_is)
    (subst (λ (n : ℕ). MisshapenLeft n file c.args.call c.args.refusal c.refuse_at-error.result v.seen y.seen) (book-number w v s c.take_book-book.result c.requires.can took b_is) c.refuse_at-error.ensures.left))

pub returns-clause-full : goal.returns-clause-full
returns-clause-full g c =
    let y = g.T.Turns.standing c.refuse_at-error.new.turns in
    subst (λ (a : Standing). IsFullError 1 a c.refuse_at-error.result) (sym c.give_book.ensures) (full-given y c.refuse_at-error.result c.refuse_at-error.ensures.full)

pub returns-clause-goes_on : goal.returns-clause-goes_on
returns-clause-goes_on g c =
    let w = g.T.Turns.standing c.args.turns.now in
    let v = g.T.Turns.standing c.take_book-book.new.self in
    let y = g.T.Turns.standing c.refuse_at-error.new.turns in
    let z = g.T.Turns.standing c.give_book.new.self in
    let file = c.args.file in
    let s = file.stream in
    let took = subst (λ (n : ℕ). Takes (with_book n) w v) c.stream-stream.ensures c.take_book-book.ensures.took in
    let b_is = c.take_book-book.ensures.stream ∙ c.stream-stream.ensures in
    went-book w v s c.take_book-book.result c.requires.can took b_is y z c.refuse_at-error.ensures.went c.give_book.ensures

pub returns-clause-good : goal.returns-clause-good
returns-clause-good g c =
    let w = g.T.Turns.standing c.args.turns.now in
    let v = g.T.Turns.standing c.take_book-book.new.self in
    let y = g.T.Turns.standing c.refuse_at-error.new.turns in
    let file = c.args.file in
    let s = file.stream in
    let took = subst (λ (n : ℕ). Takes (with_book n) w v) c.stream-stream.ensures c.take_book-book.ensures.took in
    let b_is = c.take_book-book.ensures.stream ∙ c.stream-stream.ensures in
    subst (λ (a : Standing). IsGood w.setup a.seen) (sym c.give_book.ensures)
    (subst (λ (u : Setup). IsGood u y.seen) (ap (λ (a : Standing). a.setup) c.refuse_at-error.ensures.went.same ∙ book-setup w v s c.take_book-book.result c.requires.can took b_is) c.refuse_at-error.ensures.book.good)
