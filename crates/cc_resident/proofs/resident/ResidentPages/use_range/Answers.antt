-- The loop's invariant: the blocks up to the one at hand were used in their order, and no page has changed.
use Rattle.std.proofs.Common.{◌-◌, ◌/◌, ap, ◌∙◌, arith}
use Rattle.std.specs.List.{range_with_len}
use Rattle.cc_resident.specs.Residents.{shares, blocks, is_block_among}
use Rattle.cc_resident.proofs.Lists.{used_more, among_used}
use Rattle.cc_resident.proofs.Kept.{page_alike, Keeps-then}
use Rattle.cc_resident.proofs.Bytes.{mapped_in}
use Rattle.cc_resident.proofs.resident.ResidentPages.use_range.Goals as goal

pub use_block-requires : goal.use_block-requires
use_block-requires c =
    let first = c.args.from / 262144 in
    let before = mapped_in c.args.self.now c.args.from c.args.to c.loop-block.block c.if-from-to.true c.requires (omega arith) (omega arith) in
    ap (is_block_among c.loop-block.block) c.loop-block.invariant.blocks ∙ among_used c.loop-block.block (range_with_len first (c.loop-block.block - first)) (blocks c.args.self.now) before

pub loop-block-preserved : goal.loop-block-preserved
loop-block-preserved c =
    let first = c.args.from / 262144 in
    record {
      keeps = Keeps-then c.args.self.now c.loop-block.self c.use_block.new.self c.loop-block.invariant.keeps c.use_block.ensures.pages;
      blocks = used_more first c.loop-block.block (blocks c.args.self.now) (blocks c.loop-block.self) (blocks c.use_block.new.self) (omega arith) c.loop-block.invariant.blocks c.use_block.ensures.blocks;
    }

pub returns-after-loop-block-clause-pages : goal.returns-after-loop-block-clause-pages
returns-after-loop-block-clause-pages c = λ p. page_alike c.args.self.now c.loop-block.self p (c.loop-block.invariant.keeps.frames p)

pub returns-after-loop-block-clause-shared : goal.returns-after-loop-block-clause-shared
returns-after-loop-block-clause-shared c = λ p. ap shares (c.loop-block.invariant.keeps.frames p)
