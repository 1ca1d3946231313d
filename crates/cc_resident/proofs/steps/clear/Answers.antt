use Rattle.std.proofs.Common.{◌/◌, None, sym}
use Rattle.cc_resident.proofs.Frames.{Puts-with, Puts-none, blocks-with}
use Rattle.cc_resident.proofs.steps.clear.Goals as goal

pub returns-in-Some-clause-page : goal.returns-in-Some-clause-page
returns-in-Some-clause-page c = Puts-with c.args.views.now c.args.page c.in-Some.frames.now c.clear.new.self None (sym c.in-Some.ensures.frames) c.clear.ensures.page c.clear.ensures.others

pub returns-in-Some-clause-blocks : goal.returns-in-Some-clause-blocks
returns-in-Some-clause-blocks c = blocks-with c.args.views.now (c.args.page / 64) c.clear.new.self

pub returns-in_default-clause-page : goal.returns-in_default-clause-page
returns-in_default-clause-page c = Puts-none c.args.views.now c.args.page (sym c.in_default.ensures.frames)
