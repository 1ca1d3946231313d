-- A refused append and a flush of a log keep the form.
use Rattle.std.specs.Prelude.{ℕ, List, Result, Ok, Err, refl, ◌⊎◌}
use Rattle.std.proofs.Common.{inl, inr}
use Rattle.cc_entry.specs.declared.entry.Entry.{Entry}
use Rattle.cc_entry.specs.declared.entry.Entry.TheVariants as entry
use Rattle.cc_entry.specs.declared.error.CcError.{CcError}
use Rattle.cc_entry.specs.declared.error.CcError.TheVariants as error
use Rattle.cc_model.specs.Setup.{Setup}
use Rattle.cc_effects.specs.LogCalls.{AppendRefused, FlushRefused, LogFlushLeft, WasFlushed}
use Rattle.cc_effects.specs.Moments.{PlacedOnly}
use Rattle.cc_update_laws.proofs.Keeping.{KeepsAll, all-idle, all-only}
use Rattle.cc_update_laws.specs.Keeping.{HasNoneOpen}

log-failed : (s log me handle : ℕ) (old new : List Entry) → HasNoneOpen s log me old → PlacedOnly me (entry.LogFailed me handle) old new → KeepsAll s log me old new
log-failed s log me handle old new none only =
    all-only s log me (entry.LogFailed me handle) old new only refl (λ h. (refl, refl)) (λ updated. tt) none

pub append-refused : (u : Setup) (s log me handle : ℕ) (e : CcError) (old new : List Entry) → HasNoneOpen s log me old → AppendRefused u me handle e old new → KeepsAll s log me old new
append-refused u s log me handle (error.NoLog missing) old new none left = all-idle s log me old new none left.2
append-refused u s log me handle (error.LogFull full) old new none left = all-idle s log me old new none left.2
append-refused u s log me handle (error.LogFault failed) old new none left = log-failed s log me handle old new none left.2.1
append-refused u s log me handle (error.JournalFull entries) old new none left = all-idle s log me old new none left
append-refused u s log me handle error.NoMemory old new none left = all-idle s log me old new none left
append-refused u s log me handle other old new none left = absurd left

flush-refused : (u : Setup) (s log me handle lsn : ℕ) (e : CcError) (old new : List Entry) → HasNoneOpen s log me old → FlushRefused u me handle lsn e old new → KeepsAll s log me old new
flush-refused u s log me handle lsn (error.NoLog missing) old new none left = all-idle s log me old new none left.2
flush-refused u s log me handle lsn (error.LogFault failed) old new none left = log-failed s log me handle old new none left.2.1
flush-refused u s log me handle lsn (error.JournalFull entries) old new none left = all-idle s log me old new none left
flush-refused u s log me handle lsn error.NoMemory old new none left = all-idle s log me old new none left
flush-refused u s log me handle lsn other old new none left = absurd left

pub log-flush : {T : Type 0} (u : Setup) (s log me handle lsn : ℕ) (answered : Result T CcError) (old new : List Entry) → HasNoneOpen s log me old → LogFlushLeft u me handle lsn answered old new → KeepsAll s log me old new
log-flush u s log me handle lsn (Ok done) old new none left = go left.1
  where
    go : PlacedOnly me (entry.Flushed me handle lsn) old new ⊎ WasFlushed me handle lsn old new → KeepsAll s log me old new
    go (inl only) = all-only s log me (entry.Flushed me handle lsn) old new only refl (λ h. (refl, refl)) (λ updated. tt) none
    go (inr was) = all-idle s log me old new none was.idle
log-flush u s log me handle lsn (Err e) old new none left = flush-refused u s log me handle lsn e old new none left
