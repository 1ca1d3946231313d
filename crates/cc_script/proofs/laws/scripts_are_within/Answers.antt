use Rattle.cc_script.proofs.Within.{script-within, script-of_mode, phases-rise}
use Rattle.cc_script.proofs.laws.scripts_are_within.Goals as goal

pub returns-clause-within : goal.returns-clause-within
returns-clause-within c = script-within

pub returns-clause-of_mode : goal.returns-clause-of_mode
returns-clause-of_mode c = script-of_mode

pub returns-clause-phases : goal.returns-clause-phases
returns-clause-phases c = phases-rise
