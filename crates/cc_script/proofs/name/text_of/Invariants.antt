use Rattle.std.proofs.Common.{◌≡◌, take, drop, string_bytes}
use Rattle.std.specs.List.{list_all}
use Rattle.cc_script.specs.Words.{is_name_byte}
use Rattle.cc_script.proofs.name.text_of.Given as goal

abbrev pub invariant-loop-byte : goal.invariant-loop-byte
invariant-loop-byte l = (string_bytes l.text ≡ take l.byte-index l.word) × (list_all is_name_byte l.word ≡ list_all is_name_byte (drop l.byte-index l.word))
