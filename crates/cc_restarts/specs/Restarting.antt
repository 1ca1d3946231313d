-- What the restart of one log leaves of the disks and of the log, and what the restarts of a script's lines leave.
use Rattle.std.specs.Prelude.{◌≡◌, ℕ, ◌+◌, ◌≤◌, ◌^◌, nat_le, ◌==◌, ◌&&◌, false, true, if◌then◌else◌, List, [], ◌∷◌, length, slice_get, slice_set, Result, Ok, Err, ◌⊎◌}
use Rattle.std.specs.declared.option.Option.{Option}
use Rattle.std.specs.declared.option.Option.TheVariants.{Some, None}
use Rattle.cc_entry.specs.declared.error.CcError.{CcError}
use Rattle.cc_entry.specs.declared.error.CcError.TheVariants as error
use Rattle.cc_traits.specs.Told.{IfTold}
use Rattle.cc_traits.specs.Disk.{Disk}
use Rattle.cc_traits.specs.Log.{Log}
use Rattle.cc_script.specs.declared.script.StreamLine.{StreamLine}
use Rattle.cc_script.specs.declared.script.RestartLine.{RestartLine}
use Rattle.cc_redo.specs.declared.redo.Redo.{Redo}
use Rattle.cc_redo.specs.declared.streams.Restarted.{Restarted}
use Rattle.cc_redo.specs.Disks.{record_number}
use Rattle.cc_redo.specs.Ends.{EachDisk, IsRestartAnswer, IsCounted, IsRestartRefusal, LeavesDisk, log_faults}
use Rattle.cc_restarts.specs.Given.{GivenTo, is_restarted}
use Rattle.cc_restarts.specs.declared.ended.LogRestart.{LogRestart}
use Rattle.cc_restarts.specs.declared.ended.Numbers.{Numbers}

-- no stream of this number is restarted from a log
abbrev pub IsNotRestarted : ℕ → List StreamLine → ℕ → Type 0
IsNotRestarted handle streams s = (stream : StreamLine) → slice_get streams s ≡ Some stream → is_restarted handle stream ≡ false

-- The records of the streams that are restarted were read: each disk tells what it told, their counts of faults rose by so many,
-- and each disk of another stream is as it was.
pub record RecordsRead {D : Type 0} (told : D → Option Disk) (faults : D → ℕ) (handle : ℕ) (streams : List StreamLine) (rise : ℕ → ℕ)
    (old new : List D) : Type 0 where
  pub count : length new ≡ length old
  pub tells : (s : ℕ) (was now : D) → slice_get old s ≡ Some was → slice_get new s ≡ Some now → told now ≡ told was
  pub counted : (s : ℕ) (was now : D) → slice_get old s ≡ Some was → slice_get new s ≡ Some now → faults now ≡ faults was + rise s
  pub others : (s : ℕ) → IsNotRestarted handle streams s → slice_get new s ≡ slice_get old s

-- no count rose, or that of the disk of one stream, by one
abbrev pub no_rise : ℕ → ℕ
no_rise s = 0

abbrev pub one_rise : ℕ → ℕ → ℕ
one_rise failed s = if s == failed then 1 else 0

-- the disk of a stream that is restarted failed as its record was read
pub record RecordFailed {D : Type 0} (told : D → Option Disk) (faults : D → ℕ) (handle : ℕ) (streams : List StreamLine) (old new : List D)
    : Type 0 where
  pub s : ℕ
  pub stream : StreamLine
  pub named : slice_get streams s ≡ Some stream
  pub restarted : is_restarted handle stream ≡ true
  pub disk : D
  pub before : slice_get old s ≡ Some disk
  pub read : RecordsRead told faults handle streams (one_rise s) old new

-- why the records were not all read
abbrev pub ReadingLeft : {D : Type 0} → (D → Option Disk) → (D → ℕ) → ℕ → List StreamLine → List D → List D → CcError → Type 0
ReadingLeft told faults handle streams old new (error.ReadFault page) =
    (page ≡ record_number) × RecordFailed told faults handle streams old new
ReadingLeft told faults handle streams old new error.NoMemory = RecordsRead told faults handle streams no_rise old new
ReadingLeft told faults handle streams old new other = ⊥

-- they were not, so nothing was restarted, and the log is as it was
pub record LogIsUnread {D L : Type 0} (told : D → Option Disk) (faults : D → ℕ) (handle : ℕ) (streams : List StreamLine)
    (ended : Result Numbers CcError) (old new : List D) (was now : L) : Type 0 where
  pub why : CcError
  pub ended_is : ended ≡ Err why
  pub left : ReadingLeft told faults handle streams old new why
  pub log_is : now ≡ was

-- the fault of a log is that of its handle
abbrev pub with_handle : ℕ → CcError → CcError
with_handle handle (error.LogFault other) = error.LogFault handle
with_handle handle other = other

-- the LSN of this number, where it is one
abbrev pub lsn_of : ℕ → Option ℕ
lsn_of n = if nat_le 1 n && nat_le n (2 ^ 62) then Some n else None

-- what is kept of the answer of a restart
abbrev pub numbers_of : ℕ → Result Restarted CcError → Result Numbers CcError
numbers_of handle (Ok done) = Ok (record { last = lsn_of done.last; updates = done.updates })
numbers_of handle (Err e) = Err (with_handle handle e)

-- by what a restart may be refused
abbrev pub IsOwnRefusal : Result Numbers CcError → Type 0
IsOwnRefusal (Ok numbers) = Unit {0}
IsOwnRefusal (Err (error.TooLong limit)) = Unit {0}
IsOwnRefusal (Err (error.ReadFault page)) = Unit {0}
IsOwnRefusal (Err (error.WriteFault page)) = Unit {0}
IsOwnRefusal (Err (error.LogFault handle)) = Unit {0}
IsOwnRefusal (Err error.NoMemory) = Unit {0}
IsOwnRefusal (Err other) = ⊥

-- A log was restarted: the records of its streams were read, and the restart was made with them, done or refused.
pub record WasRestarted {D L : Type 0} (told : D → Option Disk) (faults : D → ℕ) (log_told : L → Option Log) (log_count : L → ℕ)
    (handle : ℕ) (streams : List StreamLine) (ended : Result Numbers CcError) (old new : List D) (was now : L) : Type 0 where
  pub given : List Redo
  pub between : List D
  pub answered : Result Restarted CcError
  pub ended_is : ended ≡ numbers_of handle answered
  pub given_are : GivenTo told old handle 0 streams given
  pub read : RecordsRead told faults handle streams no_rise old between
  pub leaves : EachDisk given (λ redo before after. LeavesDisk given (log_told was) answered redo (told before) (told after)) between new
  pub answer : (done : Restarted) → answered ≡ Ok done → IfTold (log_told was) (λ is. IsRestartAnswer given is done)
  pub refused : (e : CcError) → answered ≡ Err e → IsRestartRefusal told faults given (log_told was) between new e
  pub counted : EachDisk given (λ redo before after. IsCounted answered (faults before) (faults after)) between new
  pub log_tells : log_told now ≡ log_told was
  pub log_counted : log_count now ≡ log_count was + log_faults answered

-- or a record could not be read
abbrev pub LogRestarted : {D L : Type 0} → (D → Option Disk) → (D → ℕ) → (L → Option Log) → (L → ℕ) → ℕ → List StreamLine
    → Result Numbers CcError → List D → List D → L → L → Type 0
LogRestarted told faults log_told log_count handle streams ended old new was now =
    LogIsUnread told faults handle streams ended old new was now
    ⊎ WasRestarted told faults log_told log_count handle streams ended old new was now

-- The restarts of a script's lines, one after the other.
abbrev pub LogsRestarted : {D L : Type 0} → (D → Option Disk) → (D → ℕ) → (L → Option Log) → (L → ℕ) → List StreamLine
    → List RestartLine → List LogRestart → List D → List D → List L → List L → Type 0
LogsRestarted told faults log_told log_count streams [] [] old new logs logs_after = (new ≡ old) × (logs_after ≡ logs)
LogsRestarted {D} {L} told faults log_told log_count streams (restart ∷ restarts) (ended ∷ more) old new logs logs_after =
    (between : List D) × (was : L) × (now : L)
    × (ended.line ≡ restart.line) × (ended.handle ≡ restart.handle)
    × (slice_get logs restart.handle ≡ Some was)
    × LogRestarted told faults log_told log_count restart.handle streams ended.ended old between was now
    × LogsRestarted told faults log_told log_count streams restarts more between new (slice_set logs restart.handle now) logs_after
LogsRestarted told faults log_told log_count streams restarts ended old new logs logs_after = ⊥
