use Rattle.std.specs.Prelude.{◌<◌, ◌≤◌, ℕ}
use Rattle.std.specs.Int.{div_ceil}
use Rattle.std.proofs.Common.{subst}
use Rattle.cc_model.specs.History.{history}
use Rattle.cc_model.specs.Touches.{size_of}
use Rattle.cc_book.proofs.NoncachedReads.{starts-some, starts-none}
use Rattle.cc_book.proofs.book.Book.start_of.Goals as goal

pub returns-then-page-div_ceil : goal.returns-then-page-div_ceil
returns-then-page-div_ceil c opening past stands =
    starts-some (size_of (history past c.args.self.now.stream)) c.args.page
    (subst (λ (n : ℕ). c.args.page < div_ceil n 4096) (c.size.ensures opening past stands) (subst (λ (n : ℕ). c.args.page < n) c.div_ceil.ensures c.if-page-div_ceil.true))

pub returns-else-page-div_ceil : goal.returns-else-page-div_ceil
returns-else-page-div_ceil c opening past stands =
    starts-none (size_of (history past c.args.self.now.stream)) c.args.page
    (subst (λ (n : ℕ). div_ceil n 4096 ≤ c.args.page) (c.size.ensures opening past stands) (subst (λ (n : ℕ). n ≤ c.args.page) c.div_ceil.ensures c.if-page-div_ceil.false))
