use Rattle.std.proofs.Common.{◌≡◌, ℕ, ◌<◌, ◌≤◌, length, slice_index}
use Rattle.cc_content.proofs.contents.cleared.Given as goal

abbrev pub invariant-loop-place : goal.invariant-loop-place
invariant-loop-place l =
    record {
      long : length l.bytes ≡ 4096;
      below : (i : ℕ) → i < l.start → slice_index l.bytes i ≡ slice_index l.raw i;
      zero : (i : ℕ) → l.start ≤ i → i < l.place → slice_index l.bytes i ≡ 0;
    }
