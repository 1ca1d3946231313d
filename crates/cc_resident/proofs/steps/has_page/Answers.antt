use Rattle.std.proofs.Common.{sym, ◌∙◌}
use Rattle.cc_resident.proofs.Frames.{pages_there, no_pages}
use Rattle.cc_resident.proofs.steps.has_page.Goals as goal

pub returns-in-Some-clause-has : goal.returns-in-Some-clause-has
returns-in-Some-clause-has c = c.any_page.ensures ∙ sym (pages_there c.args.views.now c.args.block c.in-Some.frames.now (sym c.in-Some.ensures.frames))

pub returns-in-None-clause-has : goal.returns-in-None-clause-has
returns-in-None-clause-has c = sym (no_pages c.args.views.now c.args.block (sym c.in-None.ensures.frames))
