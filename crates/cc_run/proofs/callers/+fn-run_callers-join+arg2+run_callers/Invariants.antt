use Rattle.std.proofs.Common.{◌+◌, ◌*◌, length}
use Rattle.cc_run.proofs.callers.+fn-run_callers-join+arg2+run_callers.Given as goal

-- the callers that are left, and at each of them the closure comes after the function
abbrev pub decreases-run_callers : goal.decreases-run_callers
decreases-run_callers g l = 2 * length l.callers.items

abbrev pub decreases-join+arg2 : goal.decreases-join+arg2
decreases-join+arg2 g l = 2 * length l.callers.items + 1
