use Rattle.std.proofs.Common.{Some}
use Rattle.cc_pages.proofs.Slots.{Snapshot-made, KeepsOthers-set}
use Rattle.cc_pages.proofs.frames.Frames.share.Goals as goal

pub returns-clause-page : goal.returns-clause-page
returns-clause-page c = rw (← c.self.view_is, c.deref_mut.ensures.value) (Snapshot-made c.self.inside.slots.value c.args.i c.index-deref-i.result c.in-Some.kept c.in_ok-frame.kept c.in_ok-frame.frame c.self.invariant c.requires (rw (← c.deref.ensures) c.in-Some.is) c.in_ok-frame.ensures.frame c.in_ok-frame.ensures.page)

pub returns-clause-others : goal.returns-clause-others
returns-clause-others c = rw (← c.self.view_is, c.deref_mut.ensures.value) (KeepsOthers-set c.self.inside.slots.value c.args.i (Some c.in_ok-frame.kept))
