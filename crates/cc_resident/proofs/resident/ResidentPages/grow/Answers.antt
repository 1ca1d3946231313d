use Rattle.std.proofs.Common.{ap, arith}
use Rattle.cc_resident.proofs.Cuts.{mapped_starts, grown}
use Rattle.cc_resident.proofs.resident.ResidentPages.grow.Goals as goal

pub resize-requires : goal.resize-requires
resize-requires c = λ block some. omega (arith, mapped_starts c.self.inside.views block c.self.invariant some, c.requires, ap (λ m. m.size) c.self.view_is)

pub invariant_of-self : goal.invariant_of-self
invariant_of-self c = (grown c.resize.result c.self.inside.views c.resize.new.self c.args.size c.self.invariant (rw c.self.view_is c.requires) c.resize.ensures.ok c.resize.ensures.err).0

pub returns-clause-pages : goal.returns-clause-pages
returns-clause-pages c = rw (← c.self.view_is) (grown c.resize.result c.self.inside.views c.resize.new.self c.args.size c.self.invariant (rw c.self.view_is c.requires) c.resize.ensures.ok c.resize.ensures.err).1

pub returns-clause-blocks : goal.returns-clause-blocks
returns-clause-blocks c = rw (← c.self.view_is) (grown c.resize.result c.self.inside.views c.resize.new.self c.args.size c.self.invariant (rw c.self.view_is c.requires) c.resize.ensures.ok c.resize.ensures.err).2
