use Rattle.std.specs.Prelude.{◌≡◌, ℕ, ◌+◌, ◌<◌, ◌≤◌, ◌↔◌, min, Option, Some, None, IsSome, IfSome, refl}
use Rattle.std.proofs.Common.{sym, ◌∙◌, subst, arith}
use Rattle.cc_entry.specs.Place.{Range}
use Rattle.cc_model.specs.History.{history}
use Rattle.cc_model.specs.Touches.{size_of}
use Rattle.cc_step.proofs.room.span_below.Goals as goal

-- a span that was made of two places in their order
made : (o : Option Range) (from to : ℕ) → IsSome o ↔ (from ≤ to) → IfSome o (λ span. span.from ≡ from) → IfSome o (λ span. span.to ≡ to) → from < to → o ≡ Some (record { from = from; to = to })
made None from to in_order start end less = let some : IsSome {T = Range} None = in_order.1 (omega arith) in absurd (cc)
made (Some span) from to in_order start end less = rw (sym start, sym end) refl

pub returns : goal.returns
returns c opening past stands less =
    let h = history past c.args.book.now.stream in
    let to : c.min.result ≡ min (c.args.at + c.args.len) (size_of h) = c.min.ensures ∙ rw (c.from.ensures, c.from-2.ensures, c.from-3.ensures, c.size.ensures opening past stands) refl in
    let found : c.args.at < c.min.result → c.new.result ≡ Some (record { from = c.args.at; to = c.min.result }) = made c.new.result c.args.at c.min.result c.new.ensures.in_order c.new.ensures.start c.new.ensures.end in
    subst (λ (n : ℕ). c.args.at < n → c.new.result ≡ Some (record { from = c.args.at; to = n })) to found less
