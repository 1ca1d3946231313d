use Rattle.cc_laws.proofs.ViewsTaken.{views_taken-good}
use Rattle.cc_laws.proofs.limits.views_are_within_the_pool.Goals as goal

pub returns : goal.returns
returns c = views_taken-good
