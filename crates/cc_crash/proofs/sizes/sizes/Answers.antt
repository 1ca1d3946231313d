use Rattle.std.proofs.Common.{ℕ, List, [], ◌∷◌, ◌++◌, length, refl, ap, ◌∙◌, arith}
use Rattle.std.proofs.lemmas.List.{length-append}
use Rattle.cc_crash.proofs.SizeSteps.{sizes_none, sizes_next}
use Rattle.cc_crash.proofs.sizes.sizes.Goals as goal

pub loop-i-init : goal.loop-i-init
loop-i-init c =
    let one = c.in_ok-push.ensures.items ∙ ap (λ (xs : List ℕ). xs ++ 0 ∷ []) c.new-found.ensures.items in
    record { each = sizes_none _ _ _ refl one; count = ap length one }

pub loop-i-preserved : goal.loop-i-preserved
loop-i-preserved c = record {
  each = sizes_next _ _ _ _ _ _ _ c.index-journal-i.is c.loop-i-test.true c.loop-i.invariant.each c.loop-i.invariant.count c.in_ok-size.ensures c.in_ok-push-2.ensures.items;
  count = omega (arith, ap length c.in_ok-push-2.ensures.items, length-append c.loop-i.found.items (c.in_ok-size.size ∷ []), c.loop-i.invariant.count);
}
