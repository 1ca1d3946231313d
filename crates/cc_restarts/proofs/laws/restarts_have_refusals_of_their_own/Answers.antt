use Rattle.cc_restarts.proofs.Refusals.{all-own}
use Rattle.cc_restarts.proofs.laws.restarts_have_refusals_of_their_own.Goals as goal

pub returns : goal.returns
returns g c = all-own g.D.Told.told g.D.Told.faults g.L.LogFile.told g.L.LogFile.faults
