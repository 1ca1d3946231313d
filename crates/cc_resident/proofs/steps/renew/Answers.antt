use Rattle.std.proofs.Common.{◌/◌, ap, sym, ◌∙◌}
use Rattle.cc_resident.specs.Residents.{is_block_among}
use Rattle.cc_resident.proofs.Frames.{among_is}
use Rattle.cc_resident.proofs.steps.renew.Goals as goal

pub use_block-requires : goal.use_block-requires
use_block-requires c = among_is c.put.new.views (c.args.page / 64) ∙ ap (is_block_among (c.args.page / 64)) c.put.ensures.blocks ∙ sym (among_is c.args.views.now (c.args.page / 64)) ∙ c.requires
