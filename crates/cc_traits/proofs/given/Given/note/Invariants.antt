use Rattle.std.proofs.Common.{◌≡◌, ◌++◌, take}
use Rattle.cc_traits.proofs.given.Given.note.Given as goal

abbrev pub invariant-loop-byte : goal.invariant-loop-byte
invariant-loop-byte l = l.self ≡ l.initial.self ++ take l.byte-index l.bytes
