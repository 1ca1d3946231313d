use Rattle.cc_script_laws.proofs.Settles.{tells-at, told-run}
use Rattle.cc_script_laws.proofs.laws.records_tell_what_was_valid.Goals as goal

pub returns : goal.returns
returns c = λ u given told taken past is good s later front pass size valid how same. tells-at s later front pass size valid how past same (told-run u past good s given told taken is)
