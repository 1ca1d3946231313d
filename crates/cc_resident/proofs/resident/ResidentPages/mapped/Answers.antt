use Rattle.cc_resident.proofs.Kept.{whole_page}
use Rattle.cc_resident.proofs.resident.ResidentPages.mapped.Goals as goal

pub returns-clause-whole : goal.returns-clause-whole
returns-clause-whole c = rw (← c.self.view_is) (λ p. whole_page c.self.inside.views p (c.self.invariant.frames p))
