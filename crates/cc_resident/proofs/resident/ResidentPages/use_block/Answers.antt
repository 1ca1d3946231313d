use Rattle.std.proofs.Common.{ap, ◌∙◌}
use Rattle.cc_resident.specs.Residents.{is_block_among, blocks}
use Rattle.cc_resident.proofs.Frames.{among_is}
use Rattle.cc_resident.proofs.Kept.{AreResidents-used}
use Rattle.cc_resident.proofs.resident.ResidentPages.use_block.Goals as goal

pub use_block-requires : goal.use_block-requires
use_block-requires c = among_is c.self.inside.views c.args.block ∙ ap (λ m. is_block_among c.args.block (blocks m)) c.self.view_is ∙ c.requires

pub invariant_of-self : goal.invariant_of-self
invariant_of-self c = AreResidents-used c.self.inside.views c.use_block.new.views c.args.block c.self.invariant (ap (λ m. is_block_among c.args.block (blocks m)) c.self.view_is ∙ c.requires) c.use_block.ensures.pages c.use_block.ensures.blocks
