-- What a log under its turn stands for beside its floor and its entries: its failures.
use Rattle.std.specs.Prelude.{◌≡◌, ℕ, suc, ◌+◌, Bool, false, ◌==◌, List, [], ◌∷◌, if◌then◌else◌}
use Rattle.std.specs.declared.option.Option.{Option}
use Rattle.cc_entry.specs.declared.entry.Entry.{Entry}
use Rattle.cc_entry.specs.declared.entry.Entry.TheVariants as entry
use Rattle.cc_traits.specs.Log.{Log}
use Rattle.cc_log.specs.Turn.{LogTurnState, Stands}
use Rattle.cc_turns.specs.Standing.{LogAtFirst}

-- whether an entry shows that a log failed
abbrev pub is_failure_of_log : ℕ → Entry → Bool
is_failure_of_log log (entry.LogFailed pass handle) = handle == log
is_failure_of_log log other = false

-- how many entries show it
unfoldable pub log_failures : ℕ → List Entry → ℕ
log_failures log [] = 0
log_failures log (e ∷ past) = if is_failure_of_log log e then suc (log_failures log past) else log_failures log past

-- A log stands for a past. Its count of faults rose by just the failures that the past shows: an entry tells each. So of a log
-- under its turn the count rose since the take by just those that were placed since.
pub record LogStands {L : Type 0} (told : L → Option Log) (faults : L → ℕ) (first : LogAtFirst) (past : List Entry)
    (log : LogTurnState L) : Type 0 where
  pub stands : Stands told first.told past log
  pub counted : faults log.file ≡ first.faults + log_failures log.handle past

-- A log's file stands for a past: it did as the log under its turn.
abbrev pub FileStands : {L : Type 0} → (L → Option Log) → (L → ℕ) → LogAtFirst → List Entry → ℕ → L → Type 0
FileStands {L} told faults first past handle file =
    (log : LogTurnState L) × LogStands told faults first past log × (log.handle ≡ handle) × (log.file ≡ file)
