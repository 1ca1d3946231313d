-- The loop's invariant: no frame so far is there; the first that is ends it.
use Rattle.std.proofs.Common.{◌≡◌, ◌-◌, true, false, ap, sym, ◌∙◌, is_some, arith}
use Rattle.std.specs.List.{list_any, range_with_len}
use Rattle.cc_pages.specs.Pages.{bytes_at}
use Rattle.cc_resident.proofs.Frames.{some_map}
use Rattle.cc_resident.proofs.Lists.{any_here, any_next}
use Rattle.cc_resident.proofs.steps.any_page.Goals as goal

pub returns-then-is_some : goal.returns-then-is_some
returns-then-is_some c =
    let here : is_some (bytes_at c.args.frames.now c.loop-i.i) ≡ true = ap is_some (sym c.get.ensures) ∙ some_map (λ x. x.now) c.get.result ∙ sym c.is_some.ensures ∙ c.if-is_some.true in
    sym (any_here (λ i. is_some (bytes_at c.args.frames.now i)) c.loop-i.i 64 (omega arith) here) ∙ c.loop-i.invariant

pub loop-i-preserved : goal.loop-i-preserved
loop-i-preserved c =
    let here : is_some (bytes_at c.args.frames.now c.loop-i.i) ≡ false = ap is_some (sym c.get.ensures) ∙ some_map (λ x. x.now) c.get.result ∙ sym c.is_some.ensures ∙ c.if-is_some.false in
    sym (any_next (λ i. is_some (bytes_at c.args.frames.now i)) c.loop-i.i 64 (omega arith) here) ∙ c.loop-i.invariant

pub returns : goal.returns
returns c =
    let none : 64 - c.loop-i.i ≡ 0 = omega arith in
    sym (ap (λ n. list_any (λ i. is_some (bytes_at c.args.frames.now i)) (range_with_len c.loop-i.i n)) none) ∙ c.loop-i.invariant
