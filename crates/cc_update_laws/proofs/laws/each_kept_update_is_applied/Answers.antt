use Rattle.cc_update_laws.proofs.Within.{kept-counted, kept-within}
use Rattle.cc_update_laws.proofs.laws.each_kept_update_is_applied.Goals as goal

pub returns-clause-within : goal.returns-clause-within
returns-clause-within c = λ u past s log size durable good updated sized begun kept before keeps. kept-within u past s log size good updated sized begun kept durable before keeps

pub returns-clause-applied : goal.returns-clause-applied
returns-clause-applied c = kept-counted
