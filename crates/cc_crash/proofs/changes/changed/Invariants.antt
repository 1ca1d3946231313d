use Rattle.std.specs.Prelude.{◌≡◌, ℕ, ◌+◌, ◌*◌, ◌<◌, length, slice_index}
use Rattle.std.specs.Option.{unwrap_or}
use Rattle.cc_model.specs.Acts.{act_of}
use Rattle.cc_crash.specs.Changes.{change_by}
use Rattle.cc_crash.proofs.changes.changed.Given as goal

abbrev pub invariant-loop-i : goal.invariant-loop-i
invariant-loop-i l = record {
  long : length l.changed ≡ 4096;
  same : (k : ℕ) → k < l.i →
      slice_index l.changed k ≡ unwrap_or (change_by (act_of l.call) l.size (4096 * l.fn.page.page + k)) (slice_index l.bytes k);
}
