-- What there is of one log, what it stands for, and what an event leaves of it.
use Rattle.std.specs.Prelude.{◌≡◌, ℕ, ◌+◌, ◌<◌, ◌≤◌, List, [], ◌∷◌, ◌++◌, length}
use Rattle.std.specs.declared.option.Option.{Option}
use Rattle.std.specs.declared.option.Option.TheVariants.{Some, None}
use Rattle.cc_entry.specs.declared.entry.Entry.{Entry}
use Rattle.cc_entry.specs.declared.error.CcError.TheVariants as error
use Rattle.cc_traits.specs.Log.{Log}
use Rattle.cc_journal.specs.Journal.{JournalState, room_of}
use Rattle.cc_log.specs.Turn.{LogTurnState}
use Rattle.cc_model.specs.Good.{IsGood}
use Rattle.cc_model.specs.Logs.{flushed_to}
use Rattle.cc_model.specs.Room.{reserved_in}
use Rattle.cc_model.specs.Setup.{Setup}
use Rattle.cc_turns.specs.Log.{LogStands}
use Rattle.cc_turns.specs.Standing.{LogAtFirst}
use Rattle.cc_effects.specs.Events.{Answers, IsWanting, MayFault, asked_by_event, faulted_by}
use Rattle.cc_effects.specs.declared.events.Event.{Event}
use Rattle.cc_effects.specs.declared.events.StepReply.{StepReply}
use Rattle.cc_effects.specs.declared.events.StepReply.TheVariants as step

-- A log and a journal stand under a setup: the journal is good, and the log, which is one of the setup's, stands for it.
-- So many places are reserved in the journal beyond what its entries owe.
pub record LogStandsUnder {L Q : Type 0} (told : L → Option Log) (faults : L → ℕ) (u : Setup) (first : LogAtFirst)
    (more : ℕ) (log : LogTurnState L) (j : JournalState Q) : Type 0 where
  pub good : IsGood u j.entries
  pub log_is : LogStands told faults first j.entries log
  pub known : log.handle < u.logs
  pub reserved : j.reserved ≡ reserved_in j.entries + more

-- there are such a setup and such a log at first
abbrev pub IsLogStanding : {L Q : Type 0} → (L → Option Log) → (L → ℕ) → ℕ → LogTurnState L → JournalState Q → Type 0
IsLogStanding told faults more log j =
    (u : Setup) × (first : LogAtFirst) × LogStandsUnder told faults u first more log j

-- These entries were placed, the log failed so many times, and it stands for the journal after.
pub record LogWent {L Q : Type 0} (told : L → Option Log) (faults : L → ℕ) (u : Setup) (first : LogAtFirst)
    (n : ℕ) (added : List Entry) (old new : LogTurnState L) (j k : JournalState Q) : Type 0 where
  pub stands : LogStandsUnder told faults u first 0 new k
  pub placed : k ≡ record j { entries = added ++ j.entries; reserved = k.reserved; rows = k.rows }
  pub handle : new.handle ≡ old.handle
  pub counted : faults new.file ≡ faults old.file + n

-- the log failed, where it may
abbrev pub LogFaulted : {L Q : Type 0} → (L → Option Log) → (L → ℕ) → Setup → LogAtFirst → Option Entry
    → LogTurnState L → LogTurnState L → JournalState Q → JournalState Q → Type 0
LogFaulted told faults u first None old new j k = ⊥
LogFaulted told faults u first (Some e) old new j k = LogWent told faults u first 1 (e ∷ []) old new j k

-- What an event leaves of a log and the journal for which there is room, by cases over its reply.
abbrev pub LogEnded : {L Q : Type 0} → (L → Option Log) → (L → ℕ) → Setup → LogAtFirst → Event Q → StepReply Q
    → LogTurnState L → LogTurnState L → JournalState Q → JournalState Q → Type 0
LogEnded told faults u first it step.NotNow old new j k = ⊥
LogEnded told faults u first it step.Faulted old new j k =
    MayFault u j.entries it × LogFaulted told faults u first (faulted_by j.entries it) old new j k
LogEnded told faults u first it (step.Refused (error.JournalFull entries)) old new j k = ⊥
LogEnded told faults u first it (step.Refused error.NoMemory) old new j k =
    (added : List Entry) × IsWanting j.entries it added × LogWent told faults u first 0 added old new j k
LogEnded told faults u first it other old new j k =
    (added : List Entry) × Answers u j.entries it other added × LogWent told faults u first 0 added old new j k

-- What any event leaves of a log that there is. It is refused for want of room exactly where there is less than it asks,
-- and then nothing changed.
abbrev pub LogEventLeft : {L Q : Type 0} → (L → Option Log) → (L → ℕ) → Setup → LogAtFirst → Event Q → StepReply Q
    → LogTurnState L → LogTurnState L → JournalState Q → JournalState Q → Type 0
LogEventLeft told faults u first it (step.Refused (error.JournalFull entries)) old new j k =
    (room_of j < asked_by_event u j.entries it) × (entries ≡ length j.entries) × (new ≡ old) × (k ≡ j)
LogEventLeft told faults u first it (step.Refused error.NoMemory) old new j k =
    LogEnded told faults u first it (step.Refused error.NoMemory) old new j k
LogEventLeft told faults u first it other old new j k =
    (asked_by_event u j.entries it ≤ room_of j) × LogEnded told faults u first it other old new j k

-- A log was not flushed so far, and a place is reserved for the entry of its flush.
abbrev pub IsToFlush : {L Q : Type 0} → (L → Option Log) → (L → ℕ) → ℕ → ℕ → LogTurnState L → JournalState Q → Type 0
IsToFlush told faults handle to log j = IsLogStanding told faults 1 log j × (flushed_to j.entries handle < to)
