use Rattle.std.proofs.Common.{◌≡◌, ◌+◌, ◌++◌, length, take, drop}
use Rattle.cc_entry.specs.Parts.{bytes_in, plain_in}
use Rattle.cc_entry.proofs.bytes.Bytes.copy_to.Given as goal

-- what was copied and what is left are the bytes, and what lies behind is as it was
abbrev pub invariant-loop-part : goal.invariant-loop-part
invariant-loop-part l = record {
  whole : plain_in (drop l.part-index l.part-items) ≡ length l.plain;
  count : l.at + length (bytes_in (drop l.part-index l.part-items) l.plain) ≡ length l.self;
  front : take l.at l.out ++ bytes_in (drop l.part-index l.part-items) l.plain ≡ l.self;
  behind : drop l.at l.out ≡ drop l.at l.fn.out;
}
