-- What the reads, writes and updates leave that are tested against the locks first.
use Rattle.std.specs.Prelude.{ℕ, true, false, nat_lt, List, length, Result}
use Rattle.cc_entry.specs.Place.{File}
use Rattle.cc_entry.specs.declared.error.CcError.{CcError}
use Rattle.cc_entry.specs.declared.place.FileState.{FileState}
use Rattle.cc_effects.specs.Moments.{Between}
use Rattle.cc_script.specs.declared.script.ReadPath.{ReadPath}
use Rattle.cc_turns.specs.Standing.{Standing}
use Rattle.cc_pieces.specs.Locks.{FoundLeft, LockedReadLeft, tested_range, update_refused, write_refused}
use Rattle.cc_pieces.specs.Shim.{ReadTested, UpdateLeft, WriteTested, first_of_two, misaligned_for, too_long_for}
use Rattle.cc_shim.specs.Ends.{ListEnds}
use Rattle.cc_shim.specs.Reads.{ReadKeepsBehind, read_in}

-- A read into so many bytes that is tested first was answered so, and what was handed in is as it was behind the answer.
pub record LockedReadEnds (old new : Standing) (file : File) (path : ReadPath) (at : ℕ) (answer : Result ℕ CcError) (was now : List ℕ)
    : Type 0 where
  pub ends : ListEnds old new (LockedReadLeft old.setup old.number file path at (length was)) (read_in answer now)
  pub rest : ReadKeepsBehind answer was now

-- the same behind the state
abbrev pub ReadFound : Standing → File → ReadPath → ℕ → ℕ → Result (List ℕ) CcError → Between
ReadFound w file path at len answered old new =
    FoundLeft w.number file (tested_range at len) false (first_of_two (too_long_for path len) (misaligned_for path at len))
    (ReadTested w.setup w.number file path at len (too_long_for path len) (misaligned_for path at len)) answered old new

pub record FoundReadEnds (old new : Standing) (file : File) (path : ReadPath) (at : ℕ) (answer : Result ℕ CcError) (was now : List ℕ)
    : Type 0 where
  pub ends : ListEnds old new (ReadFound old file path at (length was)) (read_in answer now)
  pub rest : ReadKeepsBehind answer was now

-- a write, and an update, behind the state that was told
abbrev pub WriteFound : Standing → File → ℕ → List ℕ → FileState → Result (Unit {0}) CcError → Between
WriteFound w file at bytes state answered old new =
    FoundLeft w.number file (tested_range at (length bytes)) true (write_refused at (length bytes) state)
    (WriteTested w.setup w.number file at bytes (nat_lt 1048576 (length bytes))) answered old new

abbrev pub UpdateFound : Standing → File → ℕ → List ℕ → FileState → Result ℕ CcError → Between
UpdateFound w file at bytes state answered old new =
    FoundLeft w.number file (tested_range at (length bytes)) true (update_refused at (length bytes) state)
    (UpdateLeft w.setup w.number file at bytes) answered old new
