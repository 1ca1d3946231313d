use Rattle.std.proofs.Common.{rules}
use Rattle.cc_board.proofs.Passes.{learns_run}
use Rattle.cc_board.proofs.steps.learn_run.Goals as goal

pub load-requires : goal.load-requires
load-requires g c = (search rules, search rules, learns_run _ _ _ _ _ _ (search rules) c.requires.live)
