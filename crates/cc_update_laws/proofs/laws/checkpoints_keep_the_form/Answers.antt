use Rattle.cc_update_laws.proofs.Checkpoints.{all-checkpoint}
use Rattle.cc_update_laws.proofs.laws.checkpoints_keep_the_form.Goals as goal

pub returns : goal.returns
returns c = λ u s log me streams handle answered old new below has_log calm fit good none left.
    all-checkpoint u s log me old new has_log calm fit streams handle answered below good none left
