-- Faults of devices and logs that have befallen a pass since its last call.
use Rattle.std.specs.Prelude.{ℕ, Bool, true, false, ◌&&◌, ◌==◌, List, [], ◌∷◌, if◌then◌else◌}
use Rattle.std.specs.declared.option.Option.{Option}
use Rattle.std.specs.declared.option.Option.TheVariants.{Some, None}
use Rattle.std.specs.List.{cons_option}
use Rattle.cc_entry.specs.declared.entry.End.{End}
use Rattle.cc_entry.specs.declared.entry.End.TheVariants as how
use Rattle.cc_entry.specs.declared.entry.Entry.{Entry}
use Rattle.cc_entry.specs.declared.entry.Entry.TheVariants as entry
use Rattle.cc_model.specs.Passes.{ends_call_of}

-- what a device or a log failed to do
pub data Fault : Type 0 where
  ReadFailed : (page : ℕ) → Fault
  WriteFailed : (page : ℕ) → Fault
  SyncFailed : Fault
  LogFailed : (handle : ℕ) → Fault

-- whether an end failed; one that found no memory is no fault
abbrev pub is_failed : End → Bool
is_failed how.Good = false
is_failed how.Failed = true
is_failed how.NoMemory = false

-- the fault that an entry of the pass tells
abbrev pub fault_of : ℕ → Entry → Option Fault
fault_of me (entry.FillFailed pass page) = if pass == me then Some (ReadFailed page.page) else None
fault_of me (entry.WriteEnd pass page how) = if pass == me && is_failed how then Some (WriteFailed page.page) else None
fault_of me (entry.Sync pass stream how) = if pass == me && is_failed how then Some SyncFailed else None
fault_of me (entry.LogFailed pass handle) = if pass == me then Some (LogFailed handle) else None
fault_of me other = None

-- the faults of the pass since its last call other than a done noncached store, newest first
unfoldable pub faults_since : List Entry → ℕ → List Fault
faults_since [] me = []
faults_since (e ∷ past) me =
    elim (ends_call_of me e) [ true ↦ [] | false ↦ cons_option (fault_of me e) (faults_since past me) ]

-- the oldest fault of faults, of which the newest is the first
abbrev pub oldest : List Fault → Option Fault
oldest [] = None
oldest (it ∷ []) = Some it
oldest (it ∷ next ∷ older) = oldest (next ∷ older)

abbrev pub is_failed_read : ℕ → Fault → Bool
is_failed_read page (ReadFailed failed) = failed == page
is_failed_read page (WriteFailed failed) = false
is_failed_read page SyncFailed = false
is_failed_read page (LogFailed handle) = false

abbrev pub is_failed_write : ℕ → Fault → Bool
is_failed_write page (ReadFailed failed) = false
is_failed_write page (WriteFailed failed) = failed == page
is_failed_write page SyncFailed = false
is_failed_write page (LogFailed handle) = false

abbrev pub is_failed_sync : Fault → Bool
is_failed_sync (ReadFailed failed) = false
is_failed_sync (WriteFailed failed) = false
is_failed_sync SyncFailed = true
is_failed_sync (LogFailed handle) = false

abbrev pub is_failed_log : ℕ → Fault → Bool
is_failed_log log (ReadFailed failed) = false
is_failed_log log (WriteFailed failed) = false
is_failed_log log SyncFailed = false
is_failed_log log (LogFailed handle) = handle == log
