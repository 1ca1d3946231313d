-- What the later lines tell is left out of one answer more.
use Rattle.std.proofs.Common.{◌≡◌, nat_eq, ◌-◌, ◌+◌, ◌<◌, ◌∷◌, suc, length, drop, take, sym, ap, subst, ◌∙◌, arith}
use Rattle.std.proofs.Math.Seq.{drop-cons}
use Rattle.std.specs.List.{IsDistinct}
use Rattle.cc_pieces.specs.Explained.{posted_in}
use Rattle.cc_run.proofs.Untold.{apart-behind, behind, long-behind, once-first, once-step}
use Rattle.cc_run.proofs.once.tell_once.Goals as goal

pub loop-at-init : goal.loop-at-init
loop-at-init c = once-first c.args.lines.now _ _ (omega arith) c.requires

pub untold-kept-requires-clause-long : goal.untold-kept-requires-clause-long
untold-kept-requires-clause-long c =
    let at = c.loop-at.at - 1 in
    let lines = c.args.lines.now in
    let line = c.index-lines-at.result in
    let mid = c.exchange-told.new.replies in
    let next : c.loop-at.at ≡ suc at = omega (arith, c.loop-at-test.true) in
    let within : at < length lines = omega (arith, next, c.loop-at.invariant.within) in
    let here = drop-cons lines at line within ∙ ap (λ x. x ∷ drop (suc at) lines) (sym c.index-lines-at.is) in
    ap length (behind lines at)
    ∙ (long-behind lines c.args.replies.now c.loop-at.replies mid c.loop-at.at at line c.exchange-told.result next here c.loop-at.invariant c.exchange-told.ensures
    ∙ sym (ap length (behind mid at)))

pub untold-kept-requires-clause-apart : goal.untold-kept-requires-clause-apart
untold-kept-requires-clause-apart c =
    let at = c.loop-at.at - 1 in
    let lines = c.args.lines.now in
    let line = c.index-lines-at.result in
    let mid = c.exchange-told.new.replies in
    let next : c.loop-at.at ≡ suc at = omega (arith, c.loop-at-test.true) in
    let within : at < length lines = omega (arith, next, c.loop-at.invariant.within) in
    let here = drop-cons lines at line within ∙ ap (λ x. x ∷ drop (suc at) lines) (sym c.index-lines-at.is) in
    subst (λ l. IsDistinct nat_eq (posted_in l (take (length mid - (at + 1)) (drop (at + 1) mid)))) (sym (behind lines at))
    (subst (λ l. IsDistinct nat_eq (posted_in (drop (suc at) lines) l)) (sym (behind mid at))
    (apart-behind lines c.args.replies.now c.loop-at.replies mid c.loop-at.at at line c.exchange-told.result next here c.loop-at.invariant c.exchange-told.ensures))

pub loop-at-preserved : goal.loop-at-preserved
loop-at-preserved c =
    let at = c.loop-at.at - 1 in
    let lines = c.args.lines.now in
    let line = c.index-lines-at.result in
    let mid = c.exchange-told.new.replies in
    let next : c.loop-at.at ≡ suc at = omega (arith, c.loop-at-test.true) in
    let within : at < length lines = omega (arith, next, c.loop-at.invariant.within) in
    let here = drop-cons lines at line within ∙ ap (λ x. x ∷ drop (suc at) lines) (sym c.index-lines-at.is) in
    once-step lines c.args.replies.now c.loop-at.replies mid c.loop-at.at at line c.exchange-told.result next here c.loop-at.invariant c.exchange-told.ensures
    c.untold-kept.result c.put.ensures.0 c.put.new.replies
    (take (length lines - (at + 1)) (drop (at + 1) lines)) (take (length mid - (at + 1)) (drop (at + 1) mid)) (behind lines at) (behind mid at)
    c.untold-kept.ensures.part c.untold-kept.ensures.once c.untold-kept.ensures.all c.put.ensures.1
