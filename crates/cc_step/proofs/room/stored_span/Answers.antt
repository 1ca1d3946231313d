-- A page that starts below the size has its bytes up to the size, and the size in pages tells which pages do.
use Rattle.std.proofs.Common.{◌≡◌, ◌∙◌, ℕ, ◌+◌, ◌*◌, ◌<◌, nat_lt, min, Some, ap, sym, subst, arith, if◌then◌else◌}
use Rattle.std.specs.Int.{div_ceil}
use Rattle.std.specs.Prelude.{Bool}
use Rattle.std.proofs.lemmas.Bool.{lt-ltb, ltb-true}
use Rattle.cc_entry.specs.Place.{Range}
use Rattle.cc_model.specs.History.{history}
use Rattle.cc_model.specs.Ranges.{cut_range}
use Rattle.cc_model.specs.Sizes.{stored_range}
use Rattle.cc_model.specs.Touches.{size_of}
use Rattle.cc_step.proofs.Found.{ceil-page}
use Rattle.cc_step.proofs.room.stored_span.Goals as goal

-- a page that starts below the size is cut there as any range is
cut-page : (page size : ℕ) → 4096 * page < size → cut_range size (4096 * page) 4096 ≡ stored_range page size
cut-page page size below =
    ap (λ b. cut b) (sym (lt-ltb (4096 * page) size below))
  where
    cut : Bool → Range
    cut b = record { from = 4096 * page; to = (if b then min (4096 * page + 4096) size else 0) }

pub returns-then-page-div_ceil : goal.returns-then-page-div_ceil
returns-then-page-div_ceil c opening past stands below =
    let size = size_of (history past c.args.book.now.stream) in
    c.span_below.ensures opening past stands (omega (arith, below)) ∙ ap (λ r. Some r) (cut-page c.args.page size below)

pub returns : goal.returns
returns c opening past stands below =
    let size = size_of (history past c.args.book.now.stream) in
    let ceil = subst (λ n. nat_lt c.args.page n ≡ nat_lt (4096 * c.args.page) size) (sym (c.div_ceil.ensures ∙ ap (λ n. div_ceil n 4096) (c.size.ensures opening past stands))) (ceil-page c.args.page size) in
    let less = ltb-true c.args.page c.div_ceil.result (ceil ∙ lt-ltb (4096 * c.args.page) size below) in
    absurd (omega (arith, less, c.if-page-div_ceil.false))
