-- What was at home stands for the last journal, and nobody else went on; so the book taken stands for what is seen.
use Rattle.std.proofs.Common.{◌<◌, length, refl, sym, subst, ap, ◌∙◌}
use Rattle.cc_turns.specs.Takes.{with_book}
use Rattle.cc_turns.specs.Desk.{standing_of}
use Rattle.cc_turns.proofs.DeskSteps.{found, book_taken, takes_alone, seen_good}
use Rattle.cc_turns.proofs.desk.DeskTurns.take_book.Goals as goal

pub invariant_of-self : goal.invariant_of-self
invariant_of-self g c = (
  book_taken _ _ _ _ _ _ c.from.result c.args.stream c.take.new.self (c.from.ensures ∙ c.number.ensures.same) c.take.ensures.after
      (subst (λ d. c.args.stream < length d.begun.disks) (sym c.self.view_is) c.requires.known)
      (ap (λ d. d.held.book) c.self.view_is ∙ ap (λ held. held.book) c.requires.free) c.self.invariant.0,
  c.self.invariant.1,
  c.self.invariant.2,
)

pub returns-clause-took : goal.returns-clause-took
returns-clause-took g c = takes_alone (with_book c.args.stream) _ _
    (ap (λ d. with_book c.args.stream (standing_of g.D.Told.told g.D.Told.faults g.L.LogFile.told g.L.LogFile.faults d)) c.self.view_is) refl
    (seen_good _ _ _ _ _ _ _ c.self.view_is c.self.invariant.0)

pub returns-clause-stream : goal.returns-clause-stream
returns-clause-stream g c =
    (found _ _ _ c.from.result c.args.stream c.index_mut.result.now c.take.result c.unwrap-book.result c.self.invariant.0.books_are
    (c.from.ensures ∙ c.number.ensures.same) (subst (λ d. c.args.stream < length d.begun.disks) (sym c.self.view_is) c.requires.known)
    c.index_mut.ensures.value c.take.ensures.value c.unwrap-book.ensures).stream_is

pub returns-clause-stands : goal.returns-clause-stands
returns-clause-stands g c =
    (found _ _ _ c.from.result c.args.stream c.index_mut.result.now c.take.result c.unwrap-book.result c.self.invariant.0.books_are
    (c.from.ensures ∙ c.number.ensures.same) (subst (λ d. c.args.stream < length d.begun.disks) (sym c.self.view_is) c.requires.known)
    c.index_mut.ensures.value c.take.ensures.value c.unwrap-book.ensures).stands
