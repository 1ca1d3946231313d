-- Each page of the block below the one at hand is not resident; the loop ends at a resident one, or with none.
use Rattle.std.specs.Prelude.{◌≡◌, ℕ, ◌+◌, ◌*◌, ◌/◌, ◌<◌, ◌≤◌, nat_lt, Bool, true, false, refl}
use Rattle.std.proofs.Common.{ap, sym, ◌∙◌, arith}
use Rattle.std.proofs.lemmas.Bool.{ltb-true, ltb-false}
use Rattle.cc_model.specs.History.{history}
use Rattle.cc_model.specs.Residency.{is_resident}
use Rattle.cc_step.proofs.room.least_in.Goals as goal

-- a page of a block
block-from : (p block : ℕ) → p / 64 ≡ block → (64 * block ≤ p) × (p < 64 * block + 64)
block-from p block here = (omega arith, omega arith)

pub returns-then-is_some : goal.returns-then-is_some
returns-then-is_some c opening past stands =
    let d = c.loop-page.auto.page in
    let e = c.loop-page-test.true in (
      omega (arith, d, e),
      sym (c.page.ensures.resident opening past stands) ∙ (sym c.is_some.ensures ∙ c.if-is_some.true),
      λ p less here. c.loop-page.invariant opening past stands p (block-from p c.args.block here).0 less,
    )

pub loop-page-preserved : goal.loop-page-preserved
loop-page-preserved c opening past stands p low less = go (nat_lt p c.loop-page.page) refl
  where
    here : is_resident (history past c.args.book.now.stream) c.loop-page.page ≡ false
    here = sym (c.page.ensures.resident opening past stands) ∙ (sym c.is_some.ensures ∙ c.if-is_some.false)

    last : (q : ℕ) → q ≤ p → p < q + 1 → p ≡ q
    last q a b = omega arith

    go : (b : Bool) → nat_lt p c.loop-page.page ≡ b → is_resident (history past c.args.book.now.stream) p ≡ false
    go true before = c.loop-page.invariant opening past stands p low (ltb-true p c.loop-page.page before)
    go false after = ap (is_resident (history past c.args.book.now.stream)) (last c.loop-page.page (ltb-false p c.loop-page.page after) less) ∙ here

pub returns : goal.returns
returns c opening past stands p here =
    let within = block-from p c.args.block here in
    c.loop-page.invariant opening past stands p within.0 (before c.loop-page.page within.1 c.loop-page-test.false)
  where
    before : (end : ℕ) → p < 64 * c.args.block + 64 → 64 * c.args.block + 64 ≤ end → p < end
    before end a b = omega arith
