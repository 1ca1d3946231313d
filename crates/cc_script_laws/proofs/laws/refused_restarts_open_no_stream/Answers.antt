use Rattle.cc_script_laws.proofs.Unopened.{unopened}
use Rattle.cc_script_laws.proofs.laws.refused_restarts_open_no_stream.Goals as goal

pub returns : goal.returns
returns c = λ u given told taken past is s stream e at refused none. unopened u given told taken past is s stream e at refused none
