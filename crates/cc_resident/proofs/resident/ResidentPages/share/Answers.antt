use Rattle.cc_resident.proofs.Shares.{AreResidents-same, snapshot_whole}
use Rattle.cc_resident.proofs.resident.ResidentPages.share.Goals as goal

pub invariant_of-self : goal.invariant_of-self
invariant_of-self c = AreResidents-same c.self.inside.views c.share.new.views c.self.invariant c.share.ensures.bytes

pub returns-clause-whole : goal.returns-clause-whole
returns-clause-whole c = snapshot_whole c.share.result c.self.inside.views c.args.page (c.self.invariant.frames c.args.page) c.share.ensures.snapshot
