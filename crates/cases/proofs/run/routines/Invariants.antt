-- So far each routine that was made was not posted.
use Rattle.std.proofs.Common.{◌≡◌, All, false}
use Rattle.cases.proofs.run.routines.Given as goal

abbrev pub invariant-loop-made : goal.invariant-loop-made
invariant-loop-made l = record {
  routines : All (λ routine. routine.posted ≡ false) l.routines.items;
}
