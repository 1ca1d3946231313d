-- The streams that are given to the restart of a log, and with which numbers.
use Rattle.std.specs.Prelude.{◌≡◌, ℕ, suc, ◌<◌, ◌≤◌, ◌^◌, ◌==◌, Bool, true, false, ◌&&◌, List, [], ◌∷◌, ◌++◌, slice_get}
use Rattle.std.specs.declared.option.Option.{Option}
use Rattle.std.specs.declared.option.Option.TheVariants.{Some, None}
use Rattle.cc_traits.specs.Told.{IfTold}
use Rattle.cc_traits.specs.Disk.{Disk, page_of}
use Rattle.cc_format.specs.Spelling.{IsReadAs, recorded_size, recorded_valid}
use Rattle.cc_format.specs.declared.record.StreamRecord.{StreamRecord}
use Rattle.cc_script.specs.declared.script.StreamLine.{StreamLine}
use Rattle.cc_redo.specs.declared.redo.Redo.{Redo}
use Rattle.cc_redo.specs.Disks.{record_number}
use Rattle.cc_model.specs.Stamps.{is_log}

-- whether a stream is restarted from a log: it is stored, and has that log
abbrev pub is_restarted : ℕ → StreamLine → Bool
is_restarted handle stream = stream.stored && is_log handle stream.log

-- the size and the valid data length that a record says which was read so, or else the line
abbrev pub size_said : StreamLine → Option StreamRecord → ℕ
size_said stream None = stream.size
size_said stream (Some told) = recorded_size told

abbrev pub valid_said : StreamLine → Option StreamRecord → ℕ
valid_said stream None = stream.valid
valid_said stream (Some told) = recorded_valid told

-- these numbers are sizes
pub record AreRestartSizes (stream : StreamLine) (read : Option StreamRecord) : Type 0 where
  pub within : valid_said stream read ≤ size_said stream read
  pub in_range : size_said stream read < 2 ^ 63

-- the stream of this number as it is given to a restart: its disk is the one of its number
pub record IsRedoOf (s : ℕ) (stream : StreamLine) (read : Option StreamRecord) (redo : Redo) : Type 0 where
  pub stream_is : redo.stream ≡ s
  pub disk_is : redo.disk ≡ s
  pub size_is : redo.size ≡ size_said stream read
  pub valid_is : redo.valid ≡ valid_said stream read
  pub sizes : AreRestartSizes stream read

-- with the numbers of its record, where they are sizes, and else not at all
abbrev pub GivenWith : ℕ → StreamLine → Option StreamRecord → List Redo → Type 0
GivenWith s stream read [] = AreRestartSizes stream read → ⊥
GivenWith s stream read (redo ∷ []) = IsRedoOf s stream read redo
GivenWith s stream read more = ⊥

-- What is given of one stream: where it is restarted from the log, it, with the record that its disk has, where the disk tells
-- its pages; else nothing.
abbrev pub GivenOf : Option Disk → ℕ → StreamLine → Bool → List Redo → Type 0
GivenOf told s stream false given = given ≡ []
GivenOf told s stream true given =
    (read : Option StreamRecord) × IfTold told (λ disk. IsReadAs (page_of disk record_number) read) × GivenWith s stream read given

-- it is put behind those that are given
pub record GivesRedo (told : Option Disk) (handle s : ℕ) (stream : StreamLine) (old new : List Redo) : Type 0 where
  pub one : List Redo
  pub is : new ≡ old ++ one
  pub given : GivenOf told s stream (is_restarted handle stream) one

-- The streams that are given to the restart of a log, of streams that are numbered from one on.
abbrev pub GivenTo : {D : Type 0} → (D → Option Disk) → List D → ℕ → ℕ → List StreamLine → List Redo → Type 0
GivenTo told disks handle s [] given = given ≡ []
GivenTo {D} told disks handle s (stream ∷ streams) given =
    (disk : D) × (one more : List Redo) × (slice_get disks s ≡ Some disk) × (given ≡ one ++ more)
    × GivenOf (told disk) s stream (is_restarted handle stream) one
    × GivenTo told disks handle (suc s) streams more
