use Rattle.std.proofs.Common.{◌≡◌, ◌≤◌, ◌++◌, deque_capacity}
use Rattle.cc_images.specs.Changes.{starts}
use Rattle.cc_images.proofs.grown.push_starts.Given as goal

abbrev pub invariant-loop-page : goal.invariant-loop-page
invariant-loop-page l = record {
  bytes : l.bytes.items ≡ l.initial.bytes.items ++ starts l.from l.page;
  capacity : deque_capacity l.initial.bytes ≤ deque_capacity l.bytes;
}
