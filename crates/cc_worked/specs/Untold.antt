-- Reads over a disk that does not tell what it holds.
use Rattle.std.specs.Prelude.{ℕ, List, [], ◌∷◌, true, reverse}
use Rattle.cc_entry.specs.declared.call.Call.TheVariants as call
use Rattle.cc_entry.specs.declared.reply.Reply.TheVariants as reply
use Rattle.cc_entry.specs.declared.entry.Entry.{Entry}
use Rattle.cc_worked.specs.Values.{a, opened, answers, read_in}

-- two bytes on each side of the valid data length 5000 are copied, up to the size
abbrev pub copied : List ℕ → List Entry
copied bytes =
    reverse (opened 5002 5000 ∷ read_in 1 1 ∷ answers 1 1 (call.CopyRead a 4998 9 true) (reply.Read bytes) ∷ [])

-- below the valid data length any byte may come, from there on zeros
abbrev pub zeros_past_valid : List Entry
zeros_past_valid = copied (1 ∷ 2 ∷ 0 ∷ 0 ∷ [])

-- wrong: a byte at the valid data length, or after it, that is not zero
abbrev pub byte_at_valid : List Entry
byte_at_valid = copied (1 ∷ 2 ∷ 3 ∷ 0 ∷ [])

abbrev pub byte_past_valid : List Entry
byte_past_valid = copied (1 ∷ 2 ∷ 0 ∷ 4 ∷ [])

-- wrong: a byte too few, and one past the size
abbrev pub byte_left_out : List Entry
byte_left_out = copied (1 ∷ 2 ∷ 0 ∷ [])

abbrev pub byte_past_size : List Entry
byte_past_size = copied (1 ∷ 2 ∷ 0 ∷ 0 ∷ 0 ∷ [])

-- a map of the same bytes is read
abbrev pub mapped : List ℕ → List Entry
mapped bytes =
    reverse (
    opened 5002 5000
    ∷ read_in 1 1
    ∷ answers 1 1 (call.Map a 4998 4) (reply.Hold 1)
    ∷ answers 1 2 (call.MappedRead 1 4999 2) (reply.Read bytes)
    ∷ [])
