use Rattle.std.proofs.Common.{◌≡◌, length, drop, slice_get}
use Rattle.cc_entry.specs.Parts.{bytes_in, plain_in}
use Rattle.cc_entry.proofs.bytes.Bytes.get.Given as goal

abbrev pub invariant-loop-part : goal.invariant-loop-part
invariant-loop-part l = record {
  whole : plain_in (drop l.part-index l.part-items) ≡ length l.plain;
  is : slice_get l.self l.i ≡ slice_get (bytes_in (drop l.part-index l.part-items) l.plain) l.at;
}
