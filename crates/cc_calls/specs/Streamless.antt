-- What a call on no stream leaves of a journal in hand.
use Rattle.std.specs.Prelude.{◌≡◌, ℕ, suc, ◌-◌, ◌<◌, ◌≤◌, Bool, true, false, not, Result, Ok, Err, List, ◌∷◌}
use Rattle.std.specs.declared.option.Option.TheVariants.{None}
use Rattle.cc_entry.specs.Queries.{is_of_stream}
use Rattle.cc_entry.specs.declared.call.Call.{Call}
use Rattle.cc_entry.specs.declared.call.Call.TheVariants as call
use Rattle.cc_entry.specs.declared.error.CcError.{CcError}
use Rattle.cc_entry.specs.declared.error.CcError.TheVariants as error
use Rattle.cc_entry.specs.declared.entry.Entry.{Entry}
use Rattle.cc_entry.specs.declared.entry.Entry.TheVariants as entry
use Rattle.cc_entry.specs.declared.reply.Outcome.{Outcome}
use Rattle.cc_entry.specs.declared.reply.Outcome.TheVariants as outcome
use Rattle.cc_entry.specs.declared.place.DirtyRow.{DirtyRow}
use Rattle.cc_journal.specs.Calls.{owed_end}
use Rattle.cc_journal.specs.Journal.{JournalState}
use Rattle.cc_model.specs.Legal.{IsOutcome}
use Rattle.cc_model.specs.Passes.{calls_of}
use Rattle.cc_model.specs.Setup.{Setup}
use Rattle.cc_model.specs.Stamps.{dirty_table}
use Rattle.cc_step.specs.Step.{AddsOwing, IsStop}

-- whether a call is on no stream: it is a query that names no file
abbrev pub is_streamless : Call → Bool
is_streamless (call.Query query) = not (is_of_stream query)
is_streamless other = false

-- the entry of such a call of a pass, its next
abbrev pub streamless : ℕ → List Entry → Call → Outcome → Entry
streamless pass past it ended = entry.Call pass (suc (calls_of past pass)) None it ended

-- The entry of such a call was placed, for which a place was reserved, and the one of the end of a noncached write of the
-- pass was given back.
abbrev pub PlacesStreamless : {Q : Type 0} → ℕ → Call → Outcome → JournalState Q → JournalState Q → Type 0
PlacesStreamless pass it ended j k =
    k ≡ record j {
      entries = streamless pass j.entries it ended ∷ j.entries;
      reserved = (j.reserved - 1) - owed_end j.entries pass;
      rows = k.rows;
    }

-- The dirty page table of a log, twice, or there is no such log, or no memory.
abbrev pub TableOf : ℕ → ℕ → List Entry → Result (List DirtyRow × List DirtyRow) CcError → Type 0
TableOf logs handle past (Ok (rows, told)) =
    (handle < logs) × (rows ≡ dirty_table past handle) × (told ≡ dirty_table past handle)
TableOf logs handle past (Err (error.NoLog missing)) = (missing ≡ handle) × (logs ≤ handle)
TableOf logs handle past (Err e) = e ≡ error.NoMemory

-- It ended as the definitions say, and its entry was placed.
pub record StreamlessHasEnded {Q : Type 0} (pass : ℕ) (it : Call) (ended : Outcome) (j k : JournalState Q) : Type 0 where
  pub is : (u : Setup) → u.logs ≡ j.logs → IsOutcome u j.entries pass None it ended
  pub placed : AddsOwing (streamless pass j.entries it ended) j k

-- It ended so, or was refused, for there is no such log, or there was no room or no memory, and nothing changed.
abbrev pub StreamlessLeft : {Q A : Type 0} → (Result A CcError → Outcome) → ℕ → Call → Result A CcError
    → JournalState Q → JournalState Q → Type 0
StreamlessLeft ended pass it (Ok a) j k = StreamlessHasEnded pass it (ended (Ok a)) j k
StreamlessLeft ended pass it (Err (error.NoLog handle)) j k = StreamlessHasEnded pass it (outcome.Failed (error.NoLog handle)) j k
StreamlessLeft ended pass it (Err e) j k = IsStop 1 e j × (k ≡ j)
