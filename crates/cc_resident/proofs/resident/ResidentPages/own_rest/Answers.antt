use Rattle.cc_resident.proofs.Shares.{AreResidents-same}
use Rattle.cc_resident.proofs.resident.ResidentPages.own_rest.Goals as goal

pub invariant_of-self : goal.invariant_of-self
invariant_of-self c = AreResidents-same c.self.inside.views c.own_span.new.views c.self.invariant c.own_span.ensures.bytes
