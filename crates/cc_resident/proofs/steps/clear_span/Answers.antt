-- The loop's invariant: the pages of the span are out of the blocks so far; what is resident is in some block.
use Rattle.std.proofs.Common.{◌≡◌, ◌≤◌, ◌+◌, ◌&&◌, ◌==◌, Some, length, slice_get, ap, sym, ◌∙◌, arith}
use Rattle.std.proofs.lemmas.Map.Entries.{length-keys_of}
use Rattle.cc_entry.specs.Pages.{block_of}
use Rattle.cc_resident.specs.Residents.{blocks}
use Rattle.cc_resident.specs.Changes.{is_number_between}
use Rattle.cc_resident.proofs.Spans.{in_front, in_front-more, front-more, small_block, Clears-then, Clears-all}
use Rattle.cc_resident.proofs.steps.clear_span.Goals as goal

pub clear_in_block-requires : goal.clear_in_block-requires
clear_in_block-requires c = small_block c.args.views.now (blocks c.loop-place.views) c.loop-place.place c.block_at-block.result c.size-size.result c.len-place-end.ensures.sound c.loop-place.invariant.blocks c.block_at-block.ensures c.size-size.ensures (omega arith)

pub loop-place-preserved : goal.loop-place-preserved
loop-place-preserved c =
    let old = c.args.views.now in
    let place = c.loop-place.place in
    let block = c.block_at-block.result in
    let span = is_number_between c.args.from c.args.to in
    let at : slice_get (blocks old) place ≡ Some block = ap (λ l. slice_get l place) (sym c.loop-place.invariant.blocks) ∙ c.block_at-block.ensures in
    record {
      clears = Clears-then old c.loop-place.views c.clear_in_block.new.views (λ p. in_front place (blocks old) (block_of p) && span p) (λ p. (block_of p == block) && span p) (λ p. in_front (place + 1) (blocks old) (block_of p) && span p)
          c.loop-place.invariant.clears c.clear_in_block.ensures.pages (λ p. front-more (in_front (place + 1) (blocks old) (block_of p)) (in_front place (blocks old) (block_of p)) (block_of p == block) (span p) (in_front-more place (blocks old) block (block_of p) at));
      blocks = c.clear_in_block.ensures.blocks ∙ c.loop-place.invariant.blocks;
    }

pub returns-clause-pages : goal.returns-clause-pages
returns-clause-pages c =
    let all : length (blocks c.args.views.now) ≤ c.loop-place.place = omega (arith, length-keys_of c.args.views.now.views, c.len-place-end.ensures.count, c.loop-place-test.false) in
    Clears-all c.args.views.now c.loop-place.views c.loop-place.place c.args.from c.args.to all c.loop-place.invariant.clears
