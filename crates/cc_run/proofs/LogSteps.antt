-- The logs that come back from a run.
use Rattle.std.specs.Prelude.{◌≡◌, ℕ, ◌+◌, ◌≤◌, List, [], ◌++◌, length, take, drop, slice_get, refl}
use Rattle.std.specs.declared.option.Option.{Option}
use Rattle.std.specs.declared.option.Option.TheVariants.{Some, None}
use Rattle.std.proofs.Common.{sym, subst, arith, append-nil}
use Rattle.cc_entry.specs.declared.entry.Entry.{Entry}
use Rattle.cc_traits.specs.Log.{Log}
use Rattle.cc_traits.specs.Told.{Both}
use Rattle.cc_model.specs.Logs.{flushed_to}
use Rattle.cc_log.specs.Turn.{HoldsLogEntries, appended}
use Rattle.cc_turns.specs.Log.{FileStands, log_failures}
use Rattle.cc_turns.specs.Desk.{log_at_first}
use Rattle.cc_program.specs.Disks.{Pairwise, HaveRisen}
use Rattle.cc_program.specs.Logs.{LogWentWith, LogsAre, LogsCounted, LogsLeft, LogsStand}
use Rattle.cc_run.proofs.Returned.{pairwise-same, as-many, firsts, others, of-all}

-- what a log's file that stands for a past tells, and its count of faults
module _ {L : Type 0} (told : L → Option Log) (faults : L → ℕ) (past : List Entry) (handle : ℕ) (before after : L) (stood : FileStands told faults (log_at_first told faults (Some before)) past handle after) where
  file-went : LogWentWith told past handle before after
  file-went =
      subst (λ file. Both (told before) (told file) (HoldsLogEntries (appended past handle) (flushed_to past handle))) stood.3
      (subst (λ h. Both (told before) (told stood.0.file) (HoldsLogEntries (appended past h) (flushed_to past h))) stood.2
      (subst (λ to. Both (told before) (told stood.0.file) (HoldsLogEntries (appended past stood.0.handle) to)) stood.1.stands.flushed_is stood.1.stands.file_is))

  file-counted : faults after ≡ faults before + log_failures handle past
  file-counted =
      subst (λ file. faults file ≡ faults before + log_failures handle past) stood.3
      (subst (λ h. faults stood.0.file ≡ faults before + log_failures h past) stood.2 stood.1.counted)

-- Logs of a run that stand for a past, before those that the run did not take.
module _ {L : Type 0} (told : L → Option Log) (faults : L → ℕ) (past : List Entry) (old front new : List L) (stand : LogsStand told faults (λ handle. log_at_first told faults (slice_get (take 4 old) handle)) (length (take 4 old)) past front) (back : new ≡ front ++ drop 4 old) where
  abbrev Stood : ℕ → L → L → Type 0
  Stood handle before after = FileStands told faults (log_at_first told faults (Some before)) past handle after

  stood : Pairwise Stood (take 4 old) front
  stood handle before after was is = subst (λ o. FileStands told faults (log_at_first told faults o) past handle after) was (stand.each handle after is)

  stood-back : Pairwise Stood (take 4 old) (take 4 new)
  stood-back = firsts 4 Stood old front new stand.counted stood back

  logs-are : LogsAre told past old new
  logs-are = record {
    count = as-many 4 Stood old front new stand.counted stood back;
    went = λ handle before after was is. file-went told faults past handle before after (stood-back handle before after was is);
    rest = others 4 Stood old front new stand.counted stood back;
  }

  logs-counted : LogsCounted faults past old new
  logs-counted handle before after was is = file-counted told faults past handle before after (stood-back handle before after was is)

  logs-risen : HaveRisen faults old new
  logs-risen =
      of-all 4 Stood old front new stand.counted stood back (λ before after. faults before ≤ faults after) (λ l. omega arith)
      (λ handle before after stands. omega (arith, file-counted told faults past handle before after stands))

  pub logs-left : LogsLeft told faults past old new
  logs-left = record { are = logs-are; counted = logs-counted; risen = logs-risen }

-- a log that was not used has gone nowhere
went-none : (now : Option Log) (handle : ℕ) → Both now now (HoldsLogEntries (appended [] handle) (flushed_to [] handle))
unfolding appended flushed_to
went-none None handle = tt
went-none (Some log) handle = record { entries_are = sym (append-nil log.entries); durable = omega arith }

failures-none : (handle : ℕ) → log_failures handle [] ≡ 0
unfolding log_failures
failures-none handle = refl

-- the logs as they were
logs-same : {L : Type 0} (told : L → Option Log) (logs : List L) → LogsAre told [] logs logs
logs-same told logs = record {
  count = refl;
  went = pairwise-same (LogWentWith told []) (take 4 logs) (λ handle l. went-none (told l) handle);
  rest = refl;
}

logs-counted-same : {L : Type 0} (faults : L → ℕ) (logs : List L) → LogsCounted faults [] logs logs
logs-counted-same faults logs =
    pairwise-same (λ handle before after. faults after ≡ faults before + log_failures handle []) (take 4 logs) (λ handle l. omega (arith, failures-none handle))

logs-risen-same : {L : Type 0} (faults : L → ℕ) (logs : List L) → HaveRisen faults logs logs
logs-risen-same faults logs = pairwise-same (λ handle before after. faults before ≤ faults after) logs (λ handle l. omega arith)

pub logs-kept : {L : Type 0} (told : L → Option Log) (faults : L → ℕ) (logs : List L) → LogsLeft told faults [] logs logs
logs-kept told faults logs = record {
  are = logs-same told logs;
  counted = logs-counted-same faults logs;
  risen = logs-risen-same faults logs;
}
