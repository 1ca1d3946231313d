-- What is kept of the private maps of a stream, and when it stands for the stream's history.
use Rattle.std.specs.Prelude.{◌≡◌, ℕ, ◌<◌, List, [], take, slice_index_or}
use Rattle.cc_entry.specs.Place.{Range}
use Rattle.cc_model.specs.History.{Effect}
use Rattle.cc_model.specs.ReadAhead.{reads_of}
use Rattle.cc_model.specs.Settings.{granularity_of}

-- What is kept of one object: its granularity in bytes, and its last copied reads that answered a byte, two
-- at most, the newest first.
pub record ObjectReads : Type 0 where
  pub granularity : ℕ
  pub reads : List Range

-- what is kept of an object of which nothing happened
abbrev pub unused : ObjectReads
unused = record { granularity = 65536; reads = [] }

-- what is kept of an object, by its number; past the last one as of one of which nothing happened
abbrev pub kept_of : List ObjectReads → ℕ → ObjectReads
kept_of maps object = slice_index_or maps object unused

-- what is kept of a stream's objects stands for its history
pub record PrivateStands (h : List Effect) (maps : List ObjectReads) : Type 0 where
  pub granularity : (object : ℕ) → object < 16 → (kept_of maps object).granularity ≡ granularity_of object h
  pub reads : (object : ℕ) → object < 16 → (kept_of maps object).reads ≡ take 2 (reads_of object h)
