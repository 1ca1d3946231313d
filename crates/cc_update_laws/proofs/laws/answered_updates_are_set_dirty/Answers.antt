use Rattle.cc_update_laws.proofs.Said.{said-update}
use Rattle.cc_update_laws.proofs.Updates.{stays-stamped}
use Rattle.cc_update_laws.proofs.laws.answered_updates_are_set_dirty.Goals as goal

pub returns : goal.returns
returns c = λ u s log me file at bytes answered old new stream place long good updated wants others stamped left.
    stays-stamped u s log me file at bytes (said-update file at bytes stream place long) old answered new good updated wants others stamped left
