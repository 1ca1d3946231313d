-- Legal journals: each call's answer is the one that the plain file, the holds and the settings give at
-- its place.
use Rattle.std.specs.Prelude.{◌≡◌, ℕ, Bool, true, false, ◌&&◌, ◌||◌, ◌==◌, is_some, List, [], ◌∷◌}
use Rattle.std.specs.declared.option.Option.{Option}
use Rattle.std.specs.declared.option.Option.TheVariants.{Some, None}
use Rattle.std.specs.Bool.{OnFalse}
use Rattle.std.specs.List.{list_any}
use Rattle.cc_entry.specs.declared.call.Call.{Call}
use Rattle.cc_entry.specs.declared.call.Call.TheVariants as call
use Rattle.cc_entry.specs.declared.error.CcError.{CcError}
use Rattle.cc_entry.specs.declared.error.CcError.TheVariants as error
use Rattle.cc_entry.specs.declared.reply.Outcome.{Outcome}
use Rattle.cc_entry.specs.declared.reply.Outcome.TheVariants as outcome
use Rattle.cc_entry.specs.declared.entry.Entry.{Entry}
use Rattle.cc_entry.specs.declared.entry.Entry.TheVariants as entry
use Rattle.cc_model.specs.Setup.{Setup}
use Rattle.cc_model.specs.History.{Effect, history}
use Rattle.cc_model.specs.Ranges.{first_page}
use Rattle.cc_model.specs.ReadAhead.{ahead_of}
use Rattle.cc_model.specs.Reasons.{is_open}
use Rattle.cc_model.specs.Refusals.{refusal}
use Rattle.cc_model.specs.Replies.{IsReply}
use Rattle.cc_model.specs.Passes.{store_of, is_the_page}
use Rattle.cc_model.specs.Faults.{is_failed_read, is_failed_write, is_failed_sync, is_failed_log, faults_since}

-- the history of the stream under which an entry is filed, empty where there is none
abbrev pub stream_history : List Entry → Option ℕ → List Effect
stream_history past None = []
stream_history past (Some s) = history past s

-- the opening pages of that stream, where its disk tells them
abbrev pub stream_opening : Setup → Option ℕ → Option (ℕ → List ℕ)
stream_opening u None = None
stream_opening u (Some s) = u.opening s

-- whether the call is the end of a noncached write whose store is the pass's last call
abbrev pub ends_own_store : List Entry → ℕ → Option ℕ → Call → Bool
ends_own_store past pass (Some s) (call.NcWrite file page) = is_the_page (record { stream = s; page = page }) (store_of past pass)
ends_own_store past pass stream other = false

-- A fault stands where nothing refuses the call; the end of a noncached write passed its tests at its
-- store.
abbrev pub NothingElse : Setup → List Entry → ℕ → Option ℕ → Call → Type 0
NothingElse u past pass stream call =
    OnFalse (ends_own_store past pass stream call) (refusal u past (stream_history past stream) call ≡ None)

-- The length of a noncached call is not in its entry, nor whether it is aligned: such a refusal stands
-- where the object is cached. Any other comes from the list of refusals.
abbrev pub IsTooLong : Setup → List Entry → List Effect → ℕ → Call → Type 0
IsTooLong u past h limit (call.NcRead file page) = (is_open h file ≡ true) × (limit ≡ 65536)
IsTooLong u past h limit (call.NcWrite file page) = (is_open h file ≡ true) × (limit ≡ 65536)
IsTooLong u past h limit other = refusal u past h other ≡ Some (error.TooLong limit)

abbrev pub IsMisaligned : List Effect → Call → Type 0
IsMisaligned h (call.NcRead file page) = is_open h file ≡ true
IsMisaligned h (call.NcWrite file page) = is_open h file ≡ true
IsMisaligned h other = ⊥

-- a read-ahead that finds its queue full is one that would be asked for
abbrev pub IsQueueFull : Setup → List Entry → List Effect → Call → Type 0
IsQueueFull u past h (call.AskAhead file at len) =
    (refusal u past h (call.AskAhead file at len) ≡ None) × (is_some (ahead_of h file at len) ≡ true)
IsQueueFull u past h other = ⊥

-- A call failed for its cause. A fault is one of the pass's own since its last call that is no done
-- noncached store; a failed sync names the first page of the range.
abbrev pub IsFailure : Setup → List Entry → ℕ → Option ℕ → Call → CcError → Type 0
IsFailure u past pass stream call (error.ReadFault page) =
    (list_any (is_failed_read page) (faults_since past pass) ≡ true) × NothingElse u past pass stream call
IsFailure u past pass stream call (error.WriteFault page) =
    ((list_any (is_failed_write page) (faults_since past pass)
    || (list_any is_failed_sync (faults_since past pass) && page == first_page call)) ≡ true)
    × NothingElse u past pass stream call
IsFailure u past pass stream call (error.LogFault handle) =
    (list_any (is_failed_log handle) (faults_since past pass) ≡ true) × NothingElse u past pass stream call
IsFailure u past pass stream call error.QueueFull = IsQueueFull u past (stream_history past stream) call
IsFailure u past pass stream call (error.TooLong limit) = IsTooLong u past (stream_history past stream) limit call
IsFailure u past pass stream call error.Unaligned = IsMisaligned (stream_history past stream) call
IsFailure u past pass stream call (error.JournalFull entries) = ⊥
IsFailure u past pass stream call error.NoMemory = ⊥
IsFailure u past pass stream call other = refusal u past (stream_history past stream) call ≡ Some other

-- Nothing refuses a call that is done; the end of a noncached write passed its tests at its store.
abbrev pub IsAdmitted : Setup → List Entry → List Effect → Call → Type 0
IsAdmitted u past h (call.NcWrite file page) = Unit {0}
IsAdmitted u past h other = refusal u past h other ≡ None

-- the outcome of a call is its reply or its failure
abbrev pub IsOutcome : Setup → List Entry → ℕ → Option ℕ → Call → Outcome → Type 0
IsOutcome u past pass stream call (outcome.Done r) =
    IsAdmitted u past (stream_history past stream) call
    × IsReply u past (stream_opening u stream) (stream_history past stream) pass call r
IsOutcome u past pass stream call (outcome.Failed e) = IsFailure u past pass stream call e

-- what is legal of one entry, given the past before it
unfoldable pub IsLegalEntry : Setup → List Entry → Entry → Type 0
IsLegalEntry u past (entry.Call pass nth stream call ended) = IsOutcome u past pass stream call ended
IsLegalEntry u past other = Unit {0}

-- whether each entry of a journal is
unfoldable pub IsLegal : Setup → List Entry → Type 0
IsLegal u [] = Unit {0}
IsLegal u (e ∷ past) = IsLegalEntry u past e × IsLegal u past
