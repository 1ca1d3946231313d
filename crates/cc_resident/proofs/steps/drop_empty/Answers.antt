use Rattle.std.proofs.Common.{◌≡◌, ◌-◌, ap, ◌∙◌, if◌then◌else◌, arith}
use Rattle.cc_resident.specs.Residents.{blocks, has_pages, order_without}
use Rattle.cc_resident.proofs.Kept.{Keeps-then, has_alike}
use Rattle.cc_resident.proofs.Spans.{Dropped-more}
use Rattle.cc_resident.proofs.steps.drop_empty.Goals as goal

pub loop-place-preserved : goal.loop-place-preserved
loop-place-preserved c =
    let old = c.args.views.now in
    let mid = c.loop-place.views in
    let new = c.drop_if_empty.new.views in
    let place = c.loop-place.place - 1 in
    let block = c.block_at-block.result in
    let same : has_pages mid block ≡ has_pages old block = has_alike old mid block (λ p _. c.loop-place.invariant.keeps.frames p) in
    record {
      keeps = Keeps-then old mid new c.loop-place.invariant.keeps c.drop_if_empty.ensures.pages;
      dropped = Dropped-more (has_pages old) (blocks old) (blocks mid) (blocks new) c.loop-place.place place block (omega (arith, c.loop-place-test.true)) c.drop_if_empty.ensures.distinct c.block_at-block.ensures
          (c.drop_if_empty.ensures.blocks ∙ ap (λ b. if b then blocks mid else order_without block (blocks mid)) same) c.loop-place.invariant.dropped;
    }
