use Rattle.std.proofs.Common.{◌+◌, ◌*◌, ◌≤◌, subst, arith}
use Rattle.cc_vacb.specs.Index.{Index, entry_count}
use Rattle.cc_vacb.specs.Levels.{levels_of}
use Rattle.cc_vacb.proofs.Kept.{index_bound}
use Rattle.cc_vacb.proofs.index.ViewIndex.blocks.Goals as goal

pub returns-clause-bound : goal.returns-clause-bound
returns-clause-bound c =
    subst (λ (x : Index). c.len.result ≤ levels_of x.size * entry_count x + 1) c.self.view_is (omega (arith, index_bound c.self.inside.size c.self.inside.blocks.items c.self.invariant, c.len.ensures, c.self.inside.blocks.ok.0))
