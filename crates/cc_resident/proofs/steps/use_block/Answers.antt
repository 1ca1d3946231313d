use Rattle.std.proofs.Common.{ap, ◌∙◌, subst, sym}
use Rattle.cc_resident.specs.Changes.{KeepsFrames}
use Rattle.cc_resident.specs.Residents.{blocks}
use Rattle.cc_resident.proofs.Frames.{Keeps-used, blocks-used}
use Rattle.cc_resident.proofs.steps.use_block.Goals as goal

pub returns-clause-pages : goal.returns-clause-pages
returns-clause-pages c = subst (KeepsFrames c.args.views.now) (sym c.touch.ensures) (Keeps-used c.args.views.now c.args.block c.len-count.ensures.sound.distinct)

pub returns-clause-blocks : goal.returns-clause-blocks
returns-clause-blocks c = ap blocks c.touch.ensures ∙ blocks-used c.args.views.now c.args.block c.len-count.ensures.sound.distinct c.requires
