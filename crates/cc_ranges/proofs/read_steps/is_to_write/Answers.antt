use Rattle.std.specs.Prelude.{◌≡◌, ℕ, true}
use Rattle.std.proofs.Common.{sym, ◌∙◌, subst}
use Rattle.cc_model.specs.History.{history}
use Rattle.cc_model.specs.Stamps.{is_unstamped}
use Rattle.cc_model.specs.Touches.{is_dirty}
use Rattle.cc_ranges.proofs.DirtyNext.{stamped-is}
use Rattle.cc_ranges.proofs.read_steps.is_to_write.Goals as goal

pub returns-then-is_dirty : goal.returns-then-is_dirty
returns-then-is_dirty g c opening stands =
    let h = history c.args.journal.now.entries c.args.book.now.stream in
    stamped-is (is_dirty h c.args.page) (is_unstamped h c.args.page) c.is_unstamped.result
    (subst (λ (s : ℕ). is_dirty (history c.args.journal.now.entries s) c.args.page ≡ true) c.stream.ensures (sym c.is_dirty.ensures ∙ c.if-is_dirty.true)) (c.is_unstamped.ensures opening c.args.journal.now.entries stands)
