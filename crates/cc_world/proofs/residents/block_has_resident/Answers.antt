-- Each page of the block below the one at hand is out of the span or not resident; a block not mapped has none.
use Rattle.std.specs.Prelude.{◌≡◌, ℕ, ◌+◌, ◌*◌, ◌/◌, ◌<◌, ◌≤◌, nat_lt, Bool, true, false, refl}
use Rattle.std.proofs.Common.{ap, sym, ◌∙◌, arith, true≢false}
use Rattle.std.proofs.lemmas.Bool.{ltb-true, ltb-false}
use Rattle.cc_laws.proofs.Lists1.{among-any}
use Rattle.cc_model.specs.History.{history}
use Rattle.cc_model.specs.Ranges.{span_has}
use Rattle.cc_model.specs.Residency.{is_resident, residents}
use Rattle.cc_world.proofs.Residing.{unmapped-out}
use Rattle.cc_world.proofs.residents.block_has_resident.Goals.{else-span_has-via-then-span_has+else-is_some, else-span_has-via-else-span_has}
use Rattle.cc_world.proofs.residents.block_has_resident.Goals as goal

-- a page of a block
block-from : (p block : ℕ) → p / 64 ≡ block → (64 * block ≤ p) × (p < 64 * block + 64)
block-from p block here = (omega arith, omega arith)

pub returns-then-not-is_block_mapped : goal.returns-then-not-is_block_mapped
returns-then-not-is_block_mapped c opening past stands p here has =
    unmapped-out (history past c.args.book.now.stream) c.args.block p
    (sym (c.is_block_mapped.ensures opening past stands) ∙ c.if-not-is_block_mapped.true) here

pub returns-then-is_some : goal.returns-then-is_some
returns-then-is_some c opening past stands =
    among-any (span_has c.args.span.now) (64 * c.args.block + c.loop-offset.offset) (residents (history past c.args.book.now.stream))
    (sym (c.page.ensures.resident opening past stands) ∙ (sym c.is_some.ensures ∙ c.if-is_some.true))
    (ap (span_has c.args.span.now) (sym c.from.ensures) ∙ (sym c.span_has.ensures ∙ c.if-span_has.true))

pub loop-offset-preserved : goal.loop-offset-preserved
loop-offset-preserved c opening past stands p low less has = go (nat_lt p (64 * c.args.block + c.loop-offset.offset)) refl
  where
    at_page : span_has c.args.span.now (64 * c.args.block + c.loop-offset.offset) ≡ true → is_resident (history past c.args.book.now.stream) (64 * c.args.block + c.loop-offset.offset) ≡ false
    at_page within = elim c.else-span_has.branch [
      | else-span_has-via-then-span_has+else-is_some w ↦ sym (w.page.ensures.resident opening past stands) ∙ (sym w.is_some.ensures ∙ w.if-is_some.false)
      | else-span_has-via-else-span_has w ↦ absurd (true≢false (sym within ∙ (ap (span_has c.args.span.now) (sym c.from.ensures) ∙ (sym c.span_has.ensures ∙ w.if-span_has.false))))
    ]

    last : (q : ℕ) → q ≤ p → p < q + 1 → p ≡ q
    last q a b = omega arith

    closer : (a b : ℕ) → p < a + (b + 1) → p < a + b + 1
    closer a b less = omega arith

    go : (b : Bool) → nat_lt p (64 * c.args.block + c.loop-offset.offset) ≡ b → is_resident (history past c.args.book.now.stream) p ≡ false
    go true before = c.loop-offset.invariant opening past stands p low (ltb-true p (64 * c.args.block + c.loop-offset.offset) before) has
    go false after =
        let same = last (64 * c.args.block + c.loop-offset.offset) (ltb-false p (64 * c.args.block + c.loop-offset.offset) after) (closer (64 * c.args.block) c.loop-offset.offset less) in
        ap (is_resident (history past c.args.book.now.stream)) same ∙ at_page (sym (ap (span_has c.args.span.now) same) ∙ has)

pub returns : goal.returns
returns c opening past stands p here has =
    let within = block-from p c.args.block here in
    c.loop-offset.invariant opening past stands p within.0 (before c.loop-offset.offset within.1 c.loop-offset-test.false) has
  where
    before : (end : ℕ) → p < 64 * c.args.block + 64 → 64 ≤ end → p < 64 * c.args.block + end
    before end a b = omega arith
