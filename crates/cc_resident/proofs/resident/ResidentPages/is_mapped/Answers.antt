use Rattle.std.proofs.Common.{ap, sym, ◌∙◌, is_some}
use Rattle.cc_resident.proofs.Frames.{among_is, some_map}
use Rattle.cc_resident.proofs.Kept.{has_is}
use Rattle.cc_resident.proofs.resident.ResidentPages.is_mapped.Goals as goal

pub returns-clause-mapped : goal.returns-clause-mapped
returns-clause-mapped c = rw (← c.self.view_is) (c.is_some.ensures ∙ sym (some_map (λ x. x.now) c.frames.result) ∙ ap is_some c.frames.ensures.frames ∙ among_is c.self.inside.views c.args.block)

pub returns-clause-has_pages : goal.returns-clause-has_pages
returns-clause-has_pages c = rw (← c.self.view_is) (c.is_some.ensures ∙ sym (some_map (λ x. x.now) c.frames.result) ∙ ap is_some c.frames.ensures.frames ∙ has_is c.self.inside.views c.args.block c.self.invariant)
