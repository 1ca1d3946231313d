-- What a read of a stream's record tells, and what a page of it was at some moment.
use Rattle.std.specs.Prelude.{◌≡◌, ℕ, List, ◌++◌}
use Rattle.std.specs.declared.option.Option.{Option}
use Rattle.std.specs.declared.option.Option.TheVariants.{Some, None}
use Rattle.cc_entry.specs.declared.entry.Entry.{Entry}
use Rattle.cc_format.specs.Spelling.{recorded_valid}
use Rattle.cc_format.specs.declared.record.StreamRecord.{StreamRecord}
use Rattle.cc_model.specs.Bytes.{byte_of}
use Rattle.cc_model.specs.History.{history}

-- the valid data length that a record page tells that was read so; 0 where it spells no record
abbrev pub told_valid : Option StreamRecord → ℕ
told_valid None = 0
told_valid (Some told) = recorded_valid told

-- At a place of a journal, the plain file's byte at i of a stream was this one.
pub record WasByte (pages : ℕ → List ℕ) (past : List Entry) (s i byte : ℕ) : Type 0 where
  pub later : List Entry
  pub before : List Entry
  pub splits : past ≡ later ++ before
  pub was : byte_of pages (history before s) i ≡ byte
