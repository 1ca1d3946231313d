use Rattle.std.proofs.Common.{arith, ap, ◌∙◌}
use Rattle.cc_vacb.specs.Levels.{levels_of}
use Rattle.cc_vacb.proofs.Kept.{digits_at}
use Rattle.cc_vacb.proofs.index.ViewIndex.get.Goals as goal

pub returns-clause-by_digits : goal.returns-clause-by_digits
returns-clause-by_digits g c =
    digits_at c.args.self.now.size c.top_for-top.result c.args.block c.args.self.now.blocks c.view_below.result (omega arith) (c.top_for-top.ensures.levels ∙ ap levels_of c.size.ensures) c.requires c.view_below.ensures.value
