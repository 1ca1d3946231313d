use Rattle.std.specs.Prelude.{[], ◌∷◌, refl}
use Rattle.std.proofs.Common.{arith}
use Rattle.cc_stop_laws.specs.Worked.{last_entry}
use Rattle.cc_stop_laws.proofs.WorkedRun.{stopped-form, stopped-given}
use Rattle.cc_stop_laws.proofs.worked.a_worked_run_is_stopped.Goals as goal

pub returns-clause-form : goal.returns-clause-form
returns-clause-form c = stopped-form

pub returns-clause-kept : goal.returns-clause-kept
returns-clause-kept c = record { rest = last_entry ∷ []; splits = refl; beyond = (omega arith, tt) }

pub returns-clause-given : goal.returns-clause-given
returns-clause-given c = stopped-given
