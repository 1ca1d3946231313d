use Rattle.std.proofs.Common.{None}
use Rattle.cc_pages.proofs.Slots.{page_at-set, KeepsOthers-set}
use Rattle.cc_pages.proofs.frames.Frames.clear.Goals as goal

pub returns-clause-page : goal.returns-clause-page
returns-clause-page c = rw c.deref_mut.ensures.value (page_at-set c.self.inside.slots.value c.args.i None c.self.invariant c.requires)

pub returns-clause-others : goal.returns-clause-others
returns-clause-others c = rw (← c.self.view_is, c.deref_mut.ensures.value) (KeepsOthers-set c.self.inside.slots.value c.args.i None)
