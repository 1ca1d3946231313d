use Rattle.std.proofs.Common.{◌/◌, true≢false, ap, sym, ◌∙◌}
use Rattle.cc_pages.specs.Pages.{owned, overwritten, is_owned}
use Rattle.cc_resident.proofs.Frames.{Puts-if_some, blocks-with, frame_is, frame_in}
use Rattle.cc_resident.proofs.steps.overwrite.Goals as goal

pub write-requires-clause-owned : goal.write-requires-clause-owned
write-requires-clause-owned c = ap is_owned (sym (frame_is c.args.views.now c.args.page ∙ ap (frame_in c.args.page) (sym c.in-Some.ensures.frames))) ∙ c.requires.owned

pub unreachable-requires : goal.unreachable-requires
unreachable-requires c = true≢false (sym c.requires.owned ∙ ap is_owned (frame_is c.args.views.now c.args.page ∙ ap (frame_in c.args.page) (sym c.in-None.ensures.frames)))

pub returns-clause-page : goal.returns-clause-page
returns-clause-page c = Puts-if_some c.args.views.now c.args.page c.in-Some.frames.now c.write.new.self (λ frame. owned (overwritten frame.bytes c.args.at c.args.bytes.now)) (sym c.in-Some.ensures.frames) c.write.ensures.page c.write.ensures.others

pub returns-clause-blocks : goal.returns-clause-blocks
returns-clause-blocks c = blocks-with c.args.views.now (c.args.page / 64) c.write.new.self
