use Rattle.std.proofs.Common.{◌+◌, ◌*◌, ◌&&◌, ◌==◌, ◌∙◌, arith}
use Rattle.cc_resident.specs.Changes.{is_number_between}
use Rattle.cc_resident.proofs.Spans.{between-more, front-more, Clears-then}
use Rattle.cc_resident.proofs.steps.clear_in_block.Goals as goal

pub loop-page-preserved : goal.loop-page-preserved
loop-page-preserved c =
    let first = 64 * c.args.block in
    let page = c.loop-page.page in
    let span = is_number_between c.args.from c.args.to in
    record {
      clears = Clears-then c.args.views.now c.loop-page.views c.clear_if_between.new.views (λ p. is_number_between first page p && span p) (λ p. (p == page) && span p) (λ p. is_number_between first (page + 1) p && span p)
          c.loop-page.invariant.clears c.clear_if_between.ensures.pages (λ p. front-more (is_number_between first (page + 1) p) (is_number_between first page p) (p == page) (span p) (between-more first page p (omega arith)));
      blocks = c.clear_if_between.ensures.blocks ∙ c.loop-page.invariant.blocks;
    }
