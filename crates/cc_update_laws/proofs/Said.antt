-- What the shim gives a log as the record of an update says that update to a restart.
use Rattle.std.specs.Prelude.{◌≡◌, ℕ, ◌<◌, ◌^◌, List, length, refl}
use Rattle.std.specs.declared.option.Option.TheVariants.{Some}
use Rattle.cc_entry.specs.Place.{File}
use Rattle.cc_pieces.specs.Shim.{update_record_of_file}
use Rattle.cc_redo.specs.Reading.{said_by}
use Rattle.cc_redo.specs.declared.record.LogRecord.TheVariants.{Update}
use Rattle.cc_redo.proofs.Spelled.{said-spelled}

pub said-update : (file : File) (at : ℕ) (bytes : List ℕ) → file.stream < 255 → at < 2 ^ 64 → length bytes < 2 ^ 32 → said_by (update_record_of_file file at bytes) ≡ Some (Update file.stream at bytes)
said-update file at bytes stream place long =
    said-spelled (update_record_of_file file at bytes) (Update file.stream at bytes) (record { stream_fits = stream; at_fits = place; length_fits = long; spelled = refl })
