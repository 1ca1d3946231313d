use Rattle.std.proofs.Common.{◌≡◌, ◌≤◌, take, count_by}
use Rattle.cc_redo.specs.Heard.{is_update}
use Rattle.cc_redo.proofs.scan.count_updates.Given as goal

abbrev pub invariant-loop-entry : goal.invariant-loop-entry
invariant-loop-entry l = record {
  few : l.count ≤ l.entry-index;
  counted : l.count ≡ count_by (is_update l.streams) (take l.entry-index l.entries);
}
