use Rattle.cc_redo.proofs.Anew.{redone-anew}
use Rattle.cc_redo.proofs.laws.a_stopped_restart_can_begin_again.Goals as goal

pub returns : goal.returns
returns c = redone-anew
