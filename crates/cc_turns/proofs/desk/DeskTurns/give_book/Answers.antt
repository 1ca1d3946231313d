-- The place is the one that the held book came from; with it back the rows stand, and no book is held.
use Rattle.std.proofs.Common.{◌<◌, length, refl, sym, subst, ap, ◌∙◌, arith}
use Rattle.std.specs.declared.option.Option.TheVariants.{Some}
use Rattle.cc_book.specs.Book.{BookStands}
use Rattle.cc_turns.specs.Desk.{openings, standing_of}
use Rattle.cc_turns.specs.Takes.{without_book}
use Rattle.cc_turns.proofs.DeskSteps.{held_within, book_given}
use Rattle.cc_turns.proofs.desk.DeskTurns.give_book.Goals as goal

pub index_mut-requires : goal.index_mut-requires
index_mut-requires g c =
    let within : c.args.stream < length c.self.inside.books.items =
    held_within _ _ _ c.args.stream c.self.invariant.0.books_are (ap (λ d. d.held.book) c.self.view_is ∙ ap (λ held. held.book) c.requires.held) in
    omega (arith, c.from.ensures, c.number.ensures.same, c.self.inside.books.ok.0, within)

pub invariant_of-self : goal.invariant_of-self
invariant_of-self g c = (
  book_given _ _ _ _ _ _ c.from.result c.args.stream (Some c.args.book) c.args.book (c.from.ensures ∙ c.number.ensures.same) refl
      (ap (λ d. d.held.book) c.self.view_is ∙ ap (λ held. held.book) c.requires.held)
      (record { stream_is = c.requires.stream; stands = subst (λ d. BookStands (openings g.D.Told.told g.D.Told.faults d.begun.disks c.args.stream) d.last.entries c.args.book) (sym c.self.view_is) c.requires.stands }) c.self.invariant.0,
  c.self.invariant.1,
  c.self.invariant.2,
)

pub returns : goal.returns
returns g c =
    ap (λ d. without_book (standing_of g.D.Told.told g.D.Told.faults g.L.LogFile.told g.L.LogFile.faults d)) c.self.view_is
