-- The loop's invariant: the pages of the span are owned in the blocks so far; what is resident is in some block.
use Rattle.std.proofs.Common.{◌≡◌, ◌≤◌, Some, length, slice_get, ap, sym, ◌∙◌, arith}
use Rattle.std.proofs.lemmas.Map.Entries.{length-keys_of}
use Rattle.cc_resident.specs.Residents.{blocks}
use Rattle.cc_resident.proofs.Spans.{small_block}
use Rattle.cc_resident.proofs.Shares.{SameBytes-then, owned_more, owned_all}
use Rattle.cc_resident.proofs.steps.own_span.Goals as goal

pub own_in_block-requires : goal.own_in_block-requires
own_in_block-requires c = small_block c.args.views.now (blocks c.loop-place.views) c.loop-place.place c.block_at-block.result c.size-size.result c.len-place-end.ensures.sound c.loop-place.invariant.bytes.blocks c.block_at-block.ensures c.size-size.ensures (omega arith)

pub loop-place-preserved : goal.loop-place-preserved
loop-place-preserved c =
    let old = c.args.views.now in
    let place = c.loop-place.place in
    let block = c.block_at-block.result in
    let at : slice_get (blocks old) place ≡ Some block = ap (λ l. slice_get l place) (sym c.loop-place.invariant.bytes.blocks) ∙ c.block_at-block.ensures in
    record {
      owned = owned_more c.loop-place.views c.own_in_block.new.views (blocks old) place block c.args.from c.args.to at c.loop-place.invariant.owned c.own_in_block.ensures.stays c.in_ok-own_in_block.ensures.owned;
      bytes = SameBytes-then old c.loop-place.views c.own_in_block.new.views c.loop-place.invariant.bytes c.own_in_block.ensures.bytes;
      stays = λ p own. c.own_in_block.ensures.stays p (c.loop-place.invariant.stays p own);
      only = λ p outside. c.own_in_block.ensures.only p outside ∙ c.loop-place.invariant.only p outside;
    }

pub returns-clause-owned : goal.returns-clause-owned
returns-clause-owned c =
    let old = c.args.views.now in
    let all : length (blocks old) ≤ c.loop-place.place = omega (arith, length-keys_of old.views, c.len-place-end.ensures.count, c.loop-place-test.false) in
    owned_all old c.loop-place.views c.loop-place.place c.args.from c.args.to c.loop-place.invariant.bytes.blocks all c.loop-place.invariant.owned
