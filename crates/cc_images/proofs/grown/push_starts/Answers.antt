use Rattle.std.proofs.Common.{ℕ, ◌-◌, ◌*◌, length, ◌++◌, [], ◌∷◌, ap, ◌∙◌, arith, length-append}
use Rattle.std.proofs.lemmas.List.FromFn.{length-map-range_with_len}
use Rattle.cc_images.specs.Changes.{starts}
use Rattle.cc_images.proofs.Lists.{starts-more}
use Rattle.cc_images.proofs.grown.push_starts.Goals as goal

pub push_back_reserved-requires : goal.push_back_reserved-requires
push_back_reserved-requires c =
    let made = c.loop-page.page - c.args.from in
    omega (arith, c.loop-page.invariant.capacity, ap length c.loop-page.invariant.bytes, length-append c.args.bytes.now.items (starts c.args.from c.loop-page.page), length-map-range_with_len {X = ℕ} (λ page. 4096 * page) c.args.from made)

pub loop-page-preserved : goal.loop-page-preserved
loop-page-preserved c = record {
  bytes = c.push_back_reserved.ensures.items ∙ ap (λ ns. ns ++ 4096 * c.loop-page.page ∷ []) c.loop-page.invariant.bytes ∙ starts-more c.args.bytes.now.items c.args.from c.loop-page.page (omega arith);
  capacity = omega (arith, c.loop-page.invariant.capacity);
}
