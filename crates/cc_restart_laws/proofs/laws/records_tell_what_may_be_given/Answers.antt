use Rattle.cc_restart_laws.proofs.Told.{told-settled}
use Rattle.cc_restart_laws.proofs.laws.records_tell_what_may_be_given.Goals as goal

pub returns : goal.returns
returns c = λ u past s first good opened. told-settled u past s first good opened
