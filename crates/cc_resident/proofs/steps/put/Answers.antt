use Rattle.std.proofs.Common.{◌/◌, Some, ap, sym, ◌∙◌}
use Rattle.cc_pages.specs.Pages.{owned}
use Rattle.cc_resident.proofs.Frames.{Puts-with, blocks-with, same-with}
use Rattle.cc_resident.proofs.steps.put.Goals as goal

pub returns-in-Ok-clause-page : goal.returns-in-Ok-clause-page
returns-in-Ok-clause-page c = Puts-with c.args.views.now c.args.page c.in-Some.frames.now c.put.new.self (Some (owned c.args.bytes.now)) (sym c.in-Some.ensures.frames) c.in-Ok.ensures.page c.put.ensures.others

pub returns-in-Ok-clause-blocks : goal.returns-in-Ok-clause-blocks
returns-in-Ok-clause-blocks c = blocks-with c.args.views.now (c.args.page / 64) c.put.new.self

pub returns-in-Err-clause-blocks : goal.returns-in-Err-clause-blocks
returns-in-Err-clause-blocks c = blocks-with c.args.views.now (c.args.page / 64) c.put.new.self

pub returns-in-Err-clause-err : goal.returns-in-Err-clause-err
returns-in-Err-clause-err c = same-with c.args.views.now (c.args.page / 64) c.put.new.self (sym c.in-Some.ensures.frames ∙ ap Some (sym c.in-Err.ensures.err))
