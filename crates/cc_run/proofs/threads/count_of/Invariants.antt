use Rattle.std.proofs.Common.{◌≡◌, ◌≤◌, take}
use Rattle.cc_run.specs.Callers.{count_of_caller}
use Rattle.cc_run.proofs.threads.count_of.Given as goal

abbrev pub invariant-loop-line : goal.invariant-loop-line
invariant-loop-line l = record {
  counted : l.count ≡ count_of_caller l.caller (take l.line-index l.lines);
  within : l.count ≤ l.line-index;
}
