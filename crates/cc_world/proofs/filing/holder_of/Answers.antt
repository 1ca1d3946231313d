-- Each row before this one tells that the hold is not open in its stream.
use Rattle.std.specs.Prelude.{ℕ, ◌+◌, ◌<◌, Some, length, refl}
use Rattle.std.proofs.Common.{sym, ◌∙◌, ap, arith, subst}
use Rattle.cc_world.proofs.Holders.{found-here, found-nowhere, not-below, of-stream, told-by-book}
use Rattle.cc_world.proofs.filing.holder_of.Goals as goal

pub returns-then-is_some-clause-first : goal.returns-then-is_some-clause-first
returns-then-is_some-clause-first g c past are =
    let at = c.loop-row.row-index in
    let row = c.row-item.result in
    ap (λ (s : ℕ). Some s) c.stream.ensures
    ∙ found-here past c.args.rows.now are c.args.hold at row c.loop-row-test.true c.row-item.is
    (sym (told-by-book past c.args.rows.now are c.args.hold at row c.loop-row-test.true c.row-item.is c.hold.result c.hold.ensures) ∙ (sym c.is_some.ensures ∙ c.if-is_some.true))
    (c.loop-row.invariant past are)

pub returns-then-is_some-clause-within : goal.returns-then-is_some-clause-within
returns-then-is_some-clause-within g c past are =
    subst (λ (n : ℕ). n < length c.args.rows.now)
    (sym (c.stream.ensures ∙ of-stream past c.args.rows.now are c.args.hold c.loop-row.row-index c.row-item.result c.loop-row-test.true c.row-item.is)) c.loop-row-test.true

pub loop-row-preserved : goal.loop-row-preserved
loop-row-preserved g c past are =
    let at = c.loop-row.row-index in
    not-below past c.args.hold at (at + 1) refl
    (sym (told-by-book past c.args.rows.now are c.args.hold at c.row-item.result c.loop-row-test.true c.row-item.is c.hold.result c.hold.ensures) ∙ (sym c.is_some.ensures ∙ c.if-is_some.false))
    (c.loop-row.invariant past are)

pub returns-clause-first : goal.returns-clause-first
returns-clause-first g c past are =
    found-nowhere past c.args.rows.now are c.args.hold (λ s below. c.loop-row.invariant past are s (omega (arith, below, c.loop-row-test.false)))
