use Rattle.std.proofs.Common.{Some, ap, ◌∙◌}
use Rattle.cc_pages.specs.declared.frames.Kept.TheVariants as kept
use Rattle.cc_pages.specs.Pages.{owned}
use Rattle.cc_pages.proofs.Slots.{page_at-set, KeepsOthers-set}
use Rattle.cc_pages.proofs.frames.Frames.put.Goals as goal

pub returns-in-Ok-clause-page : goal.returns-in-Ok-clause-page
returns-in-Ok-clause-page c = rw c.deref_mut.ensures.value (page_at-set c.self.inside.slots.value c.args.i (Some (kept.Owned c.in-Ok.frame)) c.self.invariant c.requires ∙ ap (λ bytes. Some (owned bytes)) c.in-Ok.ensures.ok)

pub returns-in-Ok-clause-others : goal.returns-in-Ok-clause-others
returns-in-Ok-clause-others c = rw (← c.self.view_is, c.deref_mut.ensures.value) (KeepsOthers-set c.self.inside.slots.value c.args.i (Some (kept.Owned c.in-Ok.frame)))
