use Rattle.std.proofs.Common.{ap, subst}
use Rattle.cc_vacb.specs.Index.{Index}
use Rattle.cc_vacb.specs.Levels.{IsLeastLevels}
use Rattle.cc_vacb.proofs.Kept.{levels_least}
use Rattle.cc_vacb.proofs.index.ViewIndex.levels.Goals as goal

pub returns-clause-least : goal.returns-clause-least
returns-clause-least c =
    subst (λ n. IsLeastLevels n c.levels_for.result) (ap (λ (x : Index). x.size) c.self.view_is) (levels_least c.self.inside.size c.levels_for.result c.self.invariant.fits c.levels_for.ensures)
