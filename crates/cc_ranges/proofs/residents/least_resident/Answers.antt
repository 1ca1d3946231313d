-- No block below the one at hand has a resident page of the span, and no page past the end of the stream is resident.
use Rattle.std.specs.Prelude.{◌≡◌, ℕ, ◌+◌, ◌/◌, ◌<◌, ◌≤◌, nat_lt, Bool, true, false, is_some, List, refl}
use Rattle.std.specs.declared.option.Option.{Option}
use Rattle.std.specs.declared.option.Option.TheVariants.{Some, None}
use Rattle.std.proofs.Common.{sym, ◌∙◌, arith}
use Rattle.std.proofs.lemmas.Bool.{ltb-true, ltb-false}
use Rattle.cc_entry.specs.Place.{Range}
use Rattle.cc_model.specs.History.{Effect, history}
use Rattle.cc_model.specs.Ranges.{span_has}
use Rattle.cc_model.specs.Residency.{is_resident}
use Rattle.cc_step.proofs.Below.{resident-below}
use Rattle.cc_step.proofs.Placed.{so-far}
use Rattle.cc_ranges.specs.Residents.{IsLeastOfSpanIn, IsLeastOf}
use Rattle.cc_ranges.proofs.residents.least_resident.Goals as goal

-- where no page of a lower block is resident, the least one of a block is the least of the span
least-of : (h : List Effect) (span : Option Range) (block : ℕ) (o : Option ℕ) → IsLeastOfSpanIn h span block o → is_some o ≡ true → ((p : ℕ) → p / 64 < block → span_has span p ≡ true → is_resident h p ≡ false) → IsLeastOf h span o
least-of h span block None least some lower = absurd (cc)
least-of h span block (Some page) least some lower = record {
  in_span = least.in_span;
  resident = least.resident;
  none_below = λ p less has. below p less has (nat_lt (p / 64) block) refl;
}
  where
    within : (p : ℕ) → p < page → page / 64 ≡ block → block ≤ p / 64 → p / 64 ≡ block
    within p less here after = omega arith

    below : (p : ℕ) → p < page → span_has span p ≡ true → (b : Bool) → nat_lt (p / 64) block ≡ b → is_resident h p ≡ false
    below p less has true before = lower p (ltb-true (p / 64) block before) has
    below p less has false after = least.none_below p less (within p less least.here (ltb-false (p / 64) block after)) has

-- where none was found in a block, none is resident there
none-of : (h : List Effect) (span : Option Range) (block : ℕ) (o : Option ℕ) → IsLeastOfSpanIn h span block o → is_some o ≡ false → (p : ℕ) → p / 64 ≡ block → span_has span p ≡ true → is_resident h p ≡ false
none-of h span block None none some p here has = none p here has
none-of h span block (Some page) none some p here has = absurd (cc)

pub returns-then-is_some : goal.returns-then-is_some
returns-then-is_some c u past good stands =
    least-of (history past c.args.book.now.stream) c.args.span.now c.loop-block.block c.least_in-least.result
    (c.least_in-least.ensures (u.opening c.args.book.now.stream) past stands) (sym c.is_some.ensures ∙ c.if-is_some.true)
    (c.loop-block.invariant u past good stands)

pub loop-block-preserved : goal.loop-block-preserved
loop-block-preserved c u past good stands p less has = go (nat_lt (p / 64) c.loop-block.block) refl
  where
    last : (q n : ℕ) → n ≤ q → q < n + 1 → q ≡ n
    last q n a b = omega arith

    go : (b : Bool) → nat_lt (p / 64) c.loop-block.block ≡ b → is_resident (history past c.args.book.now.stream) p ≡ false
    go true before = c.loop-block.invariant u past good stands p (ltb-true (p / 64) c.loop-block.block before) has
    go false after =
        none-of (history past c.args.book.now.stream) c.args.span.now c.loop-block.block c.least_in-least.result
        (c.least_in-least.ensures (u.opening c.args.book.now.stream) past stands) (sym c.is_some.ensures ∙ c.if-is_some.false) p
        (last (p / 64) c.loop-block.block (ltb-false (p / 64) c.loop-block.block after) less) has

pub returns : goal.returns
returns c u past good stands p has = go (is_resident h p) refl
  where
    h : List Effect
    h = history past c.args.book.now.stream

    before : (a b n : ℕ) → a < b → b ≤ n → a < n
    before a b n less most = omega arith

    go : (b : Bool) → is_resident h p ≡ b → is_resident h p ≡ false
    go true is =
        c.loop-block.invariant u past good stands p
        (before (p / 64) c.end_block-block-end.result c.loop-block.block
        (c.end_block-block-end.ensures.behind (u.opening c.args.book.now.stream) past stands p has (resident-below u past c.args.book.now.stream p (so-far u past good) is))
        c.loop-block-test.false) has
    go false out = out
