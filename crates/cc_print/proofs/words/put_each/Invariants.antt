use Rattle.std.proofs.Common.{◌≡◌, ◌*◌, ◌++◌, take, drop, map, length}
use Rattle.cc_entry.specs.Runs.{byte_alone}
use Rattle.cc_print.specs.Words.{more_runs}
use Rattle.cc_print.proofs.words.put_each.Given as goal

abbrev pub invariant-loop-byte : goal.invariant-loop-byte
invariant-loop-byte l = record {
  end : l.end ≡ 3 * l.byte-index;
  len : length l.out ≡ length l.initial.out;
  front : take l.end l.out ++ more_runs (map byte_alone (drop l.byte-index l.bytes)) ≡ more_runs (map byte_alone l.bytes);
}
