-- What the questions of a checkpoint leave, which streams have the log, and its syncs.
use Rattle.std.specs.Prelude.{◌≡◌, ◌≢◌, ℕ, Bool, Result, Ok, Err, ◌⊎◌, Vec}
use Rattle.std.specs.Global.{Global}
use Rattle.std.specs.declared.option.Option.{Option}
use Rattle.cc_entry.specs.declared.place.FileState.{FileState}
use Rattle.cc_entry.specs.declared.call.Call.TheVariants as call
use Rattle.cc_entry.specs.declared.query.Query.TheVariants as query
use Rattle.cc_entry.specs.declared.error.CcError.{CcError}
use Rattle.cc_entry.specs.declared.error.CcError.TheVariants as error
use Rattle.cc_entry.specs.declared.reply.Outcome.TheVariants as outcome
use Rattle.cc_model.specs.Setup.{Setup}
use Rattle.cc_effects.specs.Moments.{Between}
use Rattle.cc_effects.specs.Calls.{CallLeft}
use Rattle.cc_calls.specs.Answers.{outcome_of}
use Rattle.cc_pieces.specs.Checkpoints.{AskingStopped, StateAsked, StateRefused, StatesAsked, first_object, state_has_log, sync_call}

-- whether a stream has the log, by its state; one that is not open has not
abbrev pub LogAsked : Setup → ℕ → ℕ → ℕ → Result Bool CcError → Between
LogAsked u me handle stream (Ok has) old new =
    (state : Option FileState) × (has ≡ state_has_log handle state) × StateAsked u me stream state old new
LogAsked u me handle stream (Err e) old new =
    (e ≢ error.NotCached) × CallLeft u me (call.Query (query.State (first_object stream))) (outcome.Failed e) old new

-- which of the first streams have it
abbrev pub LogsAsked : Setup → ℕ → ℕ → ℕ → Result (Vec ℕ Global) CcError → Between
LogsAsked u me handle streams (Ok found) old new = StatesAsked u me handle streams found.items old new
LogsAsked u me handle streams (Err e) old new = AskingStopped u me handle streams e old new ⊎ StateRefused u me handle streams e old new

-- the disk of a stream was synced
abbrev pub SyncCallLeft : Setup → ℕ → ℕ → Result (Unit {0}) CcError → Between
SyncCallLeft u me stream answered old new = CallLeft u me (sync_call stream) (outcome_of answered) old new
