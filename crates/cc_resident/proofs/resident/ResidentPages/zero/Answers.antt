-- The loop's invariant: the range reads as zeros in the blocks so far; what is resident is in some block.
use Rattle.std.proofs.Common.{◌≡◌, ◌≤◌, ◌+◌, ◌/◌, ◌&&◌, ◌==◌, Some, length, slice_get, ap, subst, sym, ◌∙◌, arith}
use Rattle.std.proofs.lemmas.Map.Entries.{length-keys_of}
use Rattle.cc_entry.specs.Pages.{block_of}
use Rattle.cc_views.specs.Views.{ViewsAreSound}
use Rattle.cc_resident.specs.Residents.{blocks}
use Rattle.cc_resident.specs.Changes.{is_number_between}
use Rattle.cc_resident.proofs.Spans.{in_front, in_front-more, front-more, small_block, Zeroes-then, Covers-all}
use Rattle.cc_resident.proofs.resident.ResidentPages.zero.Goals as goal

pub zero_in_block-requires-clause-number : goal.zero_in_block-requires-clause-number
zero_in_block-requires-clause-number c =
    small_block c.args.self.now (blocks c.loop-place.self) c.loop-place.place c.block_at-block.result c.size-size.result (subst ViewsAreSound c.self.view_is c.len-place-end.ensures.sound) c.loop-place.invariant.blocks
    (ap (λ m. slice_get (blocks m) c.loop-place.place) (sym c.self-in-loop-place.view_is) ∙ c.block_at-block.ensures) (c.size-size.ensures ∙ ap (λ m. m.size) c.self.view_is) (omega arith)

pub zero_in_block-requires-clause-owned : goal.zero_in_block-requires-clause-owned
zero_in_block-requires-clause-owned c = λ p has. c.loop-place.invariant.bytes.shared p ∙ c.requires p has

pub loop-place-preserved : goal.loop-place-preserved
loop-place-preserved c =
    let old = c.args.self.now in
    let place = c.loop-place.place in
    let block = c.block_at-block.result in
    let span = is_number_between c.args.from c.args.to in
    let at : slice_get (blocks old) place ≡ Some block = ap (λ l. slice_get l place) (sym c.loop-place.invariant.blocks) ∙ ap (λ m. slice_get (blocks m) place) (sym c.self-in-loop-place.view_is) ∙ c.block_at-block.ensures in
    record {
      bytes = Zeroes-then old c.loop-place.self c.zero_in_block.new.self (λ i. in_front place (blocks old) (block_of (i / 4096)) && span i) (λ i. (block_of (i / 4096) == block) && span i) (λ i. in_front (place + 1) (blocks old) (block_of (i / 4096)) && span i)
          c.loop-place.invariant.bytes c.zero_in_block.ensures.bytes (λ i. front-more (in_front (place + 1) (blocks old) (block_of (i / 4096))) (in_front place (blocks old) (block_of (i / 4096))) (block_of (i / 4096) == block) (span i) (in_front-more place (blocks old) block (block_of (i / 4096)) at));
      blocks = c.zero_in_block.ensures.blocks ∙ c.loop-place.invariant.blocks;
      quota = c.zero_in_block.ensures.quota ∙ c.loop-place.invariant.quota;
      size = c.zero_in_block.ensures.size ∙ c.loop-place.invariant.size;
    }

pub returns-clause-bytes : goal.returns-clause-bytes
returns-clause-bytes c =
    let count = ap (λ m. length m.views) c.self.view_is in
    let all : length (blocks c.args.self.now) ≤ c.loop-place.place = omega (arith, length-keys_of c.args.self.now.views, count, c.len-place-end.ensures.count, c.loop-place-test.false) in
    Covers-all c.args.self.now c.loop-place.self c.loop-place.place c.args.from c.args.to all c.loop-place.invariant.bytes
