-- The book that is taken stands for what is seen, and giving it changes nothing of that.
use Rattle.std.specs.Prelude.{ℕ}
use Rattle.std.proofs.Common.{ap, sym, ◌∙◌}
use Rattle.cc_model.specs.History.{history}
use Rattle.cc_model.specs.Touches.{valid_of}
use Rattle.cc_turns.specs.Standing.{Standing}
use Rattle.cc_stored.proofs.settling.valid_now.Goals as goal

pub returns-clause-valid : goal.returns-clause-valid
returns-clause-valid g c =
    let x = g.T.Turns.standing c.take_book-book.new.self in
    c.valid-valid.ensures (x.setup.opening c.args.stream) x.seen c.take_book-book.ensures.stands
    ∙ (ap (λ (n : ℕ). valid_of (history x.seen n)) c.take_book-book.ensures.stream
    ∙ ap (λ (a : Standing). valid_of (history a.seen c.args.stream)) (sym c.give_book.ensures))
