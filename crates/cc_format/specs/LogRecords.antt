-- How the entries of a log are spelled that a restart reads: the record of an update, and the record of a checkpoint.
use Rattle.std.specs.Prelude.{ℕ, List, [], ◌∷◌, ◌++◌, length}
use Rattle.cc_model.specs.Records.{little_endian}
use Rattle.cc_format.specs.declared.log.OldestRow.{OldestRow}

-- the record of an update of a stream: the stream, the place in eight bytes, the length in four, and the bytes
abbrev pub update_record : ℕ → ℕ → List ℕ → List ℕ
update_record stream at bytes = stream ∷ (little_endian 8 at ++ (little_endian 4 (length bytes) ++ bytes))

-- the rows as they stand one behind the other: the stream, the page in eight bytes, the LSN in eight
abbrev pub spelled_rows : List OldestRow → List ℕ
spelled_rows [] = []
spelled_rows (row ∷ rows) = row.stream ∷ (little_endian 8 row.page ++ (little_endian 8 row.oldest ++ spelled_rows rows))

-- the record of a checkpoint: the byte 255, the number of rows in four bytes, and the rows
abbrev pub checkpoint_record : List OldestRow → List ℕ
checkpoint_record rows = 255 ∷ (little_endian 4 (length rows) ++ spelled_rows rows)
