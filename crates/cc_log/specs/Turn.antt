-- A log under its turn, and what of the journal it stands for.
use Rattle.std.specs.Prelude.{◌≡◌, ℕ, ◌≤◌, ◌==◌, List, [], ◌∷◌, ◌++◌, ◌⊎◌, Option, Some, None, Result, Ok, Err, if◌then◌else◌}
use Rattle.std.specs.List.{cons_option}
use Rattle.cc_entry.specs.declared.error.CcError.{CcError}
use Rattle.cc_entry.specs.declared.error.CcError.TheVariants as error
use Rattle.cc_entry.specs.declared.entry.Entry.{Entry}
use Rattle.cc_entry.specs.declared.entry.Entry.TheVariants as entry
use Rattle.cc_traits.specs.Log.{Log, LogEntry}
use Rattle.cc_traits.specs.Told.{Both}
use Rattle.cc_traits.specs.declared.stop.Stop.{Stop}
use Rattle.cc_traits.specs.declared.stop.Stop.TheVariants as stop
use Rattle.cc_model.specs.Logs.{flushed_to, floor_of}

-- a log as contracts see it: its handle, the greatest LSN that was appended or flushed to, the greatest
-- that was flushed to, and its file
pub record LogTurnState (L : Type 0) : Type 0 where
  pub handle : ℕ
  pub floor : ℕ
  pub flushed : ℕ
  pub file : L

-- what the appends of a past put into a log, the oldest first
unfoldable pub appended : List Entry → ℕ → List LogEntry
appended [] log = []
appended (entry.Append pass handle lsn bytes ∷ past) log =
    if handle == log then appended past log ++ record { lsn = lsn; bytes = bytes } ∷ [] else appended past log
appended (other ∷ past) log = appended past log

-- a log's file holds the entries that it began with and then these, and is durable up to an LSN
pub record HoldsLogEntries (entries : List LogEntry) (lsn : ℕ) (begun now : Log) : Type 0 where
  pub entries_are : now.entries ≡ begun.entries ++ entries
  pub durable : lsn ≤ now.durable

-- A log stands for a past: floor and flushed are what the past says, and its file, which began as this,
-- has the past's appends behind its first entries, durable up to what was flushed.
pub record Stands {L : Type 0} (told : L → Option Log) (begun : Option Log) (past : List Entry) (log : LogTurnState L) : Type 0 where
  pub floor_is : log.floor ≡ floor_of past log.handle
  pub flushed_is : log.flushed ≡ flushed_to past log.handle
  pub file_is : Both begun (told log.file) (HoldsLogEntries (appended past log.handle) log.flushed)

-- the entry that a call on a log leaves, where it leaves one: its failure, or its own where it was done
abbrev pub entry_left_by : {T : Type 0} → (T → Entry) → ℕ → ℕ → Result T CcError → Option Entry
entry_left_by done pass handle (Ok value) = Some (done value)
entry_left_by done pass handle (Err (error.LogFault failed)) = Some (entry.LogFailed pass handle)
entry_left_by done pass handle (Err other) = None

-- the past after an append, and after a flush, by a pass
abbrev pub past_appended : ℕ → ℕ → List ℕ → Result ℕ CcError → List Entry → List Entry
past_appended pass handle bytes result past = cons_option (entry_left_by (λ lsn. entry.Append pass handle lsn bytes) pass handle result) past

abbrev pub past_flushed : ℕ → ℕ → ℕ → Result (Unit {0}) CcError → List Entry → List Entry
past_flushed pass handle to result past = cons_option (entry_left_by (λ done. entry.Flushed pass handle to) pass handle result) past

-- by how much a call raises the log's count of faults: by one exactly where it answers LogFault
abbrev pub log_faults_by : {T : Type 0} → Result T CcError → ℕ
log_faults_by (Ok value) = 0
log_faults_by (Err (error.LogFault failed)) = 1
log_faults_by (Err other) = 0

-- what a call answers whose file stopped
abbrev pub refusal_of : ℕ → Stop → CcError
refusal_of handle stop.Failed = error.LogFault handle
refusal_of handle stop.NoMemory = error.NoMemory

-- the refusals of a flush, and of an append
abbrev pub IsFlushError : ℕ → CcError → Type 0
IsFlushError handle e = (e ≡ error.LogFault handle) ⊎ (e ≡ error.NoMemory)

abbrev pub IsAppendError : ℕ → CcError → Type 0
IsAppendError handle e = (e ≡ error.LogFull handle) ⊎ IsFlushError handle e
