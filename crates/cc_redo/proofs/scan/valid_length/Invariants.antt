use Rattle.std.proofs.Common.{◌≡◌, ◌≤◌, drop}
use Rattle.cc_redo.specs.Heard.{valid_behind, redone_valid}
use Rattle.cc_redo.proofs.scan.valid_length.Given as goal

abbrev pub invariant-loop-entry : goal.invariant-loop-entry
invariant-loop-entry l = record {
  within : l.valid ≤ l.redo.size;
  reached : valid_behind (drop l.entry-index l.entries) l.redo l.valid ≡ redone_valid l.entries l.redo;
}
