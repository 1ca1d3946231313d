use Rattle.std.specs.Prelude.{◌≡◌, ℕ, ◌+◌, ◌*◌, ◌<◌, nat_lt, length, slice_index, if◌then◌else◌}
use Rattle.cc_crash.proofs.changes.shown.Given as goal

abbrev pub invariant-loop-i : goal.invariant-loop-i
invariant-loop-i l = record {
  long : length l.shown ≡ 4096;
  same : (k : ℕ) → k < l.i →
      slice_index l.shown k ≡ (if nat_lt (4096 * l.fn.page.page + k) l.valid then slice_index l.bytes k else 0);
}
