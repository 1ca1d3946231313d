use Rattle.std.proofs.Common.{◌≡◌, ◌≤◌, ◌<◌, ◌-◌, ◌*◌, length, take, vec_capacity}
use Rattle.cc_entry.specs.Parts.{bytes_in, plain_in}
use Rattle.cc_entry.proofs.bytes.BytesRoom.keep.Given as goal

abbrev pub invariant-loop-at : goal.invariant-loop-at
invariant-loop-at l = record {
  within : l.at ≤ length l.slice;
  kept : bytes_in l.parts.items l.plain.items ≡ take l.at l.slice;
  whole : plain_in l.parts.items ≡ length l.plain.items;
  room : length l.slice ≤ 64 * vec_capacity l.parts;
  few : l.at < length l.slice → 64 * length l.parts.items ≤ l.at;
  space : length l.slice ≤ vec_capacity l.plain;
  held : length l.plain.items ≤ l.at;
}

abbrev pub decreases-loop-at : goal.decreases-loop-at
decreases-loop-at l = length l.slice - l.at
