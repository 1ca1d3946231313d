use Rattle.cc_images.proofs.page_set.PageSet.reserve.Goals as goal

-- the ranges are those that were
pub invariant_of-self : goal.invariant_of-self
invariant_of-self c = rw c.reserve.ensures.items c.self.invariant

pub invariant_of-self-2 : goal.invariant_of-self-2
invariant_of-self-2 c = rw c.reserve.ensures.items c.self.invariant
