-- What the reads of the shim leave, by their paths.
use Rattle.std.specs.Prelude.{◌≡◌, ℕ, ◌≤◌, List, length, take, drop, Result, Ok, Err}
use Rattle.cc_entry.specs.Place.{File, Range}
use Rattle.cc_entry.specs.declared.error.CcError.{CcError}
use Rattle.cc_entry.specs.declared.place.FileState.{FileState}
use Rattle.cc_model.specs.Ranges.{cut_range}
use Rattle.cc_model.specs.Setup.{Setup}
use Rattle.cc_effects.specs.Moments.{Between}
use Rattle.cc_ranges.specs.declared.error.NcError.{NcError}
use Rattle.cc_script.specs.declared.script.ReadPath.{ReadPath}
use Rattle.cc_script.specs.declared.script.ReadPath.TheVariants as read_path
use Rattle.cc_turns.specs.Standing.{Standing}
use Rattle.cc_pieces.specs.Shim.{HeldPartsLeft, HoldPath, PartRead, PartRefused, PartsLeft, ReadTested, descriptor_path, mapped_path, misaligned_for, parts_of, pinned_path, too_long_for, whole_part}
use Rattle.cc_shim.specs.Ends.{ListEnds}
use Rattle.cc_shim.specs.declared.parts.By.{By}
use Rattle.cc_shim.specs.declared.parts.By.TheVariants as way

-- how a part is held, and of which parts a range is
abbrev pub hold_path_of : By → File → HoldPath
hold_path_of way.Map file = mapped_path file
hold_path_of way.Pin file = pinned_path file
hold_path_of way.Chain file = descriptor_path file

abbrev pub path_by : By → ReadPath
path_by way.Map = read_path.Mapped
path_by way.Pin = read_path.Pinned
path_by way.Chain = read_path.Descriptor

abbrev pub parts_by : By → Range → List Range
parts_by way.Map r = parts_of r
parts_by way.Pin r = parts_of r
parts_by way.Chain r = whole_part r

-- what a read answers that fills what its caller handed in, and one that answers how many bytes there are in its front
abbrev pub filled_answer : Result (Unit {0}) CcError → List ℕ → Result (List ℕ) CcError
filled_answer (Ok done) out = Ok out
filled_answer (Err e) out = Err e

abbrev pub read_in : Result ℕ CcError → List ℕ → Result (List ℕ) CcError
read_in (Ok n) out = Ok (take n out)
read_in (Err e) out = Err e

-- the cause alone of a noncached read that was refused
abbrev pub nc_cause : Result ℕ NcError → Result ℕ CcError
nc_cause (Ok n) = Ok n
nc_cause (Err e) = Err e.cause

-- What the caller handed in is as it was behind the answer. Where the read failed, it is not said what is there.
abbrev pub ReadKeepsBehind : Result ℕ CcError → List ℕ → List ℕ → Type 0
ReadKeepsBehind (Ok n) was now = (n ≤ length was) × (drop n now ≡ drop n was)
ReadKeepsBehind (Err e) was now = length now ≡ length was

-- one part was held, read and let go, or refused
abbrev pub PartLeft : Setup → ℕ → HoldPath → Range → Result (List ℕ) CcError → Between
PartLeft u me path r (Ok bytes) old new = PartRead u me path r bytes old new
PartLeft u me path r (Err e) old new = PartRefused u me path r e old new

abbrev pub PartEnds : Standing → Standing → HoldPath → Range → Result (Unit {0}) CcError → List ℕ → List ℕ → Type 0
PartEnds old new path r answer was now = ListEnds old new (PartLeft old.setup old.number path r) (filled_answer answer now)

-- parts were read one after the other
abbrev pub PartsEnds : Standing → Standing → HoldPath → List Range → Result (Unit {0}) CcError → List ℕ → List ℕ → Type 0
PartsEnds old new path parts answer was now = ListEnds old new (PartsLeft old.setup old.number path parts) (filled_answer answer now)

-- The parts of a range below the size were read, which the caller was told, or one of them was refused.
pub record ToldSizeEnds (old new : Standing) (file : File) (how : By) (at : ℕ) (state : FileState) (answer : Result ℕ CcError)
    (was now : List ℕ) : Type 0 where
  pub ends : ListEnds old new
      (PartsLeft old.setup old.number (hold_path_of how file) (parts_by how (cut_range state.sizes.size at (length was)))) (read_in answer now)
  pub rest : ReadKeepsBehind answer was now

-- A read of what of a range lies below the size was answered so.
pub record BelowSizeEnds (old new : Standing) (file : File) (how : By) (at : ℕ) (answer : Result ℕ CcError) (was now : List ℕ)
    : Type 0 where
  pub ends : ListEnds old new
      (HeldPartsLeft old.setup old.number file (hold_path_of how file) (parts_by how) at (length was)) (read_in answer now)
  pub rest : ReadKeepsBehind answer was now

-- a read by a path
abbrev pub ReadByPathLeft : Setup → ℕ → File → ReadPath → ℕ → ℕ → Result (List ℕ) CcError → Between
ReadByPathLeft u me file path at len answered old new =
    ReadTested u me file path at len (too_long_for path len) (misaligned_for path at len) answered old new

-- A read by a path into so many bytes was answered so, and what was handed in is as it was behind the answer.
pub record PathReadEnds (old new : Standing) (file : File) (path : ReadPath) (at : ℕ) (answer : Result ℕ CcError) (was now : List ℕ)
    : Type 0 where
  pub ends : ListEnds old new (ReadByPathLeft old.setup old.number file path at (length was)) (read_in answer now)
  pub rest : ReadKeepsBehind answer was now
