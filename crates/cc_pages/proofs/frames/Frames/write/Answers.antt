use Rattle.cc_pages.proofs.Slots.{page_at-overwritten, KeepsOthers-set}
use Rattle.cc_pages.proofs.frames.Frames.write.Goals as goal

pub returns-clause-page : goal.returns-clause-page
returns-clause-page c = rw (← c.self.view_is, c.deref_mut.ensures.value) (page_at-overwritten c.self.inside.slots.value c.args.i c.index-deref_mut-i.result c.overwrite.new.slot c.args.at c.args.bytes.now c.self.invariant c.requires.within (rw c.self.view_is c.requires.owned) (rw (← c.deref_mut.ensures.value) c.overwrite.ensures))

pub returns-clause-others : goal.returns-clause-others
returns-clause-others c = rw (← c.self.view_is, c.deref_mut.ensures.value) (KeepsOthers-set c.self.inside.slots.value c.args.i c.overwrite.new.slot)
