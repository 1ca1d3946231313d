-- What an append to a log and a flush of a log leave. Neither has a call's entry.
use Rattle.std.specs.Prelude.{◌≡◌, ℕ, ◌≤◌, ◌<◌, ◌^◌, List, Result, Ok, Err, ◌⊎◌}
use Rattle.cc_entry.specs.declared.error.CcError.{CcError}
use Rattle.cc_entry.specs.declared.error.CcError.TheVariants as error
use Rattle.cc_entry.specs.declared.entry.Entry.{Entry}
use Rattle.cc_entry.specs.declared.entry.Entry.TheVariants as entry
use Rattle.cc_model.specs.Setup.{Setup}
use Rattle.cc_model.specs.Logs.{flushed_to, floor_of}
use Rattle.cc_effects.specs.Moments.{IsIdle, PlacedOnly, AtSome, Between}

-- a log failed in the hands of the pass, which placed that alone
abbrev pub LogHasFailed : Setup → ℕ → ℕ → Between
LogHasFailed u me handle old new = (handle < u.logs) × PlacedOnly me (entry.LogFailed me handle) old new

-- What a refused append or flush of a log left: a log that failed leaves that entry, and any other refusal
-- nothing. There is no log of the handle; it has used every LSN; or room or memory were wanting.
abbrev pub AppendRefused : Setup → ℕ → ℕ → CcError → Between
AppendRefused u me handle (error.NoLog missing) old new = (missing ≡ handle) × (u.logs ≤ handle) × IsIdle me old new
AppendRefused u me handle (error.LogFull full) old new =
    (full ≡ handle) × AtSome (λ moment. floor_of moment handle ≡ 2 ^ 62) old new × IsIdle me old new
AppendRefused u me handle (error.LogFault failed) old new =
    (failed ≡ handle) × AtSome (λ moment. floor_of moment handle < 2 ^ 62) old new × LogHasFailed u me handle old new
AppendRefused u me handle (error.JournalFull entries) old new = IsIdle me old new
AppendRefused u me handle error.NoMemory old new = IsIdle me old new
AppendRefused u me handle other old new = ⊥

-- an append of these bytes, which answers the LSN of their entry
abbrev pub AppendLeft : Setup → ℕ → ℕ → List ℕ → Result ℕ CcError → Between
AppendLeft u me handle bytes (Ok lsn) old new = (handle < u.logs) × PlacedOnly me (entry.Append me handle lsn bytes) old new
AppendLeft u me handle bytes (Err e) old new = AppendRefused u me handle e old new

-- a log was flushed as far already, and nothing was done
pub record WasFlushed (me handle lsn : ℕ) (old new : List Entry) : Type 0 where
  pub idle : IsIdle me old new
  pub reached : AtSome (λ moment. lsn ≤ flushed_to moment handle) old new

-- a refused flush of a log to an LSN; a log that failed was not flushed as far before
abbrev pub FlushRefused : Setup → ℕ → ℕ → ℕ → CcError → Between
FlushRefused u me handle lsn (error.NoLog missing) old new = (missing ≡ handle) × (u.logs ≤ handle) × IsIdle me old new
FlushRefused u me handle lsn (error.LogFault failed) old new =
    (failed ≡ handle) × AtSome (λ moment. flushed_to moment handle < lsn) old new × LogHasFailed u me handle old new
FlushRefused u me handle lsn (error.JournalFull entries) old new = IsIdle me old new
FlushRefused u me handle lsn error.NoMemory old new = IsIdle me old new
FlushRefused u me handle lsn other old new = ⊥

-- a flush of a log to an LSN
abbrev pub LogFlushLeft : {T : Type 0} → Setup → ℕ → ℕ → ℕ → Result T CcError → Between
LogFlushLeft u me handle lsn (Ok done) old new =
    (handle < u.logs) × (PlacedOnly me (entry.Flushed me handle lsn) old new ⊎ WasFlushed me handle lsn old new)
LogFlushLeft u me handle lsn (Err e) old new = FlushRefused u me handle lsn e old new
