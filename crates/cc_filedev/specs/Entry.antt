-- How an entry of a log stands in a file.
use Rattle.std.specs.Prelude.{ℕ, List, ◌++◌, length}
use Rattle.byteorder.specs.Endian.{little_bytes}

-- the head of an entry: its LSN in eight bytes and its length in four, little endian
abbrev pub head_bytes : ℕ → ℕ → List ℕ
head_bytes lsn size = little_bytes 8 lsn ++ little_bytes 4 size

-- an entry: its head, and behind it its bytes
abbrev pub entry_bytes : ℕ → List ℕ → List ℕ
entry_bytes lsn bytes = head_bytes lsn (length bytes) ++ bytes
