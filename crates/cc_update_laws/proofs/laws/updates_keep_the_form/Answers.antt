use Rattle.std.specs.Prelude.{refl}
use Rattle.cc_update_laws.proofs.Said.{said-update}
use Rattle.cc_update_laws.proofs.Updates.{all-update}
use Rattle.cc_update_laws.proofs.laws.updates_keep_the_form.Goals as goal

pub returns-clause-kept : goal.returns-clause-kept
returns-clause-kept c = λ u s log me file at bytes answered old new stream place long good none left.
    all-update u s log me file at bytes (said-update file at bytes stream place long) old answered new good none left

pub returns-clause-spelled : goal.returns-clause-spelled
returns-clause-spelled c = λ file at bytes. refl
