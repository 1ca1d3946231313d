-- The logs that a run gives back.
use Rattle.std.specs.Prelude.{◌≡◌, ℕ, ◌+◌, List, length, slice_get, drop}
use Rattle.std.specs.declared.option.Option.{Option}
use Rattle.std.specs.declared.option.Option.TheVariants.{Some}
use Rattle.cc_entry.specs.declared.entry.Entry.{Entry}
use Rattle.cc_traits.specs.Log.{Log}
use Rattle.cc_traits.specs.Told.{Both}
use Rattle.cc_model.specs.Logs.{flushed_to}
use Rattle.cc_log.specs.Turn.{HoldsLogEntries, appended}
use Rattle.cc_turns.specs.Log.{FileStands, log_failures}
use Rattle.cc_turns.specs.Standing.{LogAtFirst}
use Rattle.cc_program.specs.Disks.{Pairwise, HaveRisen}
use Rattle.cc_program.specs.Setups.{run_logs}

-- A log that tells its entries has, behind those that it was handed in with, what the run appended to it, in order, and
-- is durable up to where the run flushed it.
abbrev pub LogWentWith : {L : Type 0} → (L → Option Log) → List Entry → ℕ → L → L → Type 0
LogWentWith told past handle before after = Both (told before) (told after) (HoldsLogEntries (appended past handle) (flushed_to past handle))

-- As many logs come back, in their order. Those of the run have gone so with their handles, and the others are as they
-- were.
pub record LogsAre {L : Type 0} (told : L → Option Log) (past : List Entry) (old new : List L) : Type 0 where
  pub count : length new ≡ length old
  pub went : Pairwise (LogWentWith told past) (run_logs old) (run_logs new)
  pub rest : drop 4 new ≡ drop 4 old

-- the count of faults of each log of the run rose by just the failures of it that the past shows
abbrev pub LogsCounted : {L : Type 0} → (L → ℕ) → List Entry → List L → List L → Type 0
LogsCounted faults past old new =
    Pairwise (λ handle before after. faults after ≡ faults before + log_failures handle past) (run_logs old) (run_logs new)

-- The logs of a run stand for a past, each having begun so.
pub record LogsStand {L : Type 0} (told : L → Option Log) (faults : L → ℕ) (first : ℕ → LogAtFirst) (count : ℕ)
    (past : List Entry) (logs : List L) : Type 0 where
  pub counted : length logs ≡ count
  pub each : (handle : ℕ) (log : L) → slice_get logs handle ≡ Some log → FileStands told faults (first handle) past handle log

-- What a run left of the logs that it was handed in, by a past: each of the run has gone so with its handle, its count of
-- faults rose by just the failures that the past shows, and no count fell.
pub record LogsLeft {L : Type 0} (told : L → Option Log) (faults : L → ℕ) (past : List Entry) (old new : List L) : Type 0 where
  pub are : LogsAre told past old new
  pub counted : LogsCounted faults past old new
  pub risen : HaveRisen faults old new
