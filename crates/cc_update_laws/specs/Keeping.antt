-- What a line of a pass keeps of the form of a journal of updates: each entry that it placed stands there as the form asks.
use Rattle.std.specs.Prelude.{◌≡◌, ℕ, ◌*◌, ◌^◌, ◌<◌, ◌==◌, ◌&&◌, Bool, false, true, List, ◌∷◌, ◌++◌, length, map}
use Rattle.std.specs.List.{AllByRecursion, list_any}
use Rattle.std.specs.declared.option.Option.TheVariants.{None, Some}
use Rattle.cc_entry.specs.declared.call.Call.TheVariants as call
use Rattle.cc_entry.specs.declared.query.Query.TheVariants as query
use Rattle.cc_entry.specs.declared.entry.End.TheVariants as how
use Rattle.cc_entry.specs.declared.entry.Entry.{Entry}
use Rattle.cc_entry.specs.declared.entry.Entry.TheVariants as entry
use Rattle.cc_entry.specs.declared.reply.Outcome.TheVariants as outcome
use Rattle.cc_entry.specs.declared.reply.Reply.{Reply}
use Rattle.cc_model.specs.Discards.{is_known}
use Rattle.cc_model.specs.History.{history}
use Rattle.cc_model.specs.Passes.{is_mine}
use Rattle.cc_model.specs.Stamps.{dirty_table}
use Rattle.cc_model.specs.Touches.{size_of}
use Rattle.cc_effects.specs.Moments.{EachOwn}
use Rattle.cc_format.specs.declared.log.OldestRow.{OldestRow}
use Rattle.cc_redo.specs.Reading.{FitsRow, said_by}
use Rattle.cc_redo.specs.declared.record.LogRecord.TheVariants.{Checkpoint}
use Rattle.cc_restart_laws.specs.Updates.{HasRecorded, UpdateHasWritten, IsUpdated, IsUpdatedEntry, Updating, WasStamped, records_update, row_told}

-- the pass has no update of the stream under way: each whose bytes it wrote it set dirty
abbrev pub HasNoneOpen : ℕ → ℕ → ℕ → List Entry → Type 0
HasNoneOpen s log me past = (it : Updating) → it.pass ≡ me → UpdateHasWritten s log it past → ⊥

-- an entry keeps the form, where the past before it has it
abbrev pub KeepsForm : ℕ → ℕ → List Entry → Entry → Type 0
KeepsForm s log past e = IsUpdated s log past → IsUpdatedEntry s log past e

-- From one moment to another each entry of the pass kept the form.
pub record PassKeepsForm (s log me : ℕ) (old new : List Entry) : Type 0 where
  pub during : List Entry
  pub grew : new ≡ during ++ old
  pub each : EachOwn me (KeepsForm s log) during old

-- each update that has a record in the log was written and set dirty
abbrev pub AreStamped : ℕ → ℕ → List Entry → Type 0
AreStamped s log past = (lsn : ℕ) → HasRecorded s log lsn past → WasStamped s log lsn past

-- no pass but this one gives the log a record of an update of the stream, from one moment to another
abbrev pub OthersRecordNone : ℕ → ℕ → ℕ → List Entry → List Entry → Type 0
OthersRecordNone s log me old new =
    (later during : List Entry) (e : Entry) → new ≡ later ++ e ∷ (during ++ old) → is_mine me e ≡ false → records_update s log e ≡ false

-- whether an entry is a table of the log's dirty pages that the pass listed, or an append of the pass to the log
abbrev pub lists_or_appends : ℕ → ℕ → Entry → Bool
lists_or_appends me log (entry.Append pass handle lsn bytes) = pass == me && handle == log
lists_or_appends me log (entry.Call pass nth stream (call.Query (query.DirtyPages handle)) ended) = pass == me && handle == log
lists_or_appends me log other = false

-- The pass appended the record of a checkpoint to the log, some entries behind a table of its dirty pages that it had listed. Between the
-- two it listed no table of the log and appended nothing to it, so the table is the one that the checkpoint listed.
pub record HasCheckpoint (log me : ℕ) (between listed past : List Entry) : Type 0 where
  pub later : List Entry
  pub lsn : ℕ
  pub bytes : List ℕ
  pub rows : List OldestRow
  pub nth : ℕ
  pub reply : Reply
  pub splits : past
      ≡ later ++ entry.Append me log lsn bytes ∷ (between ++ entry.Call me nth None (call.Query (query.DirtyPages log)) (outcome.Done reply) ∷ listed)
  pub said : said_by bytes ≡ Some (Checkpoint rows)
  pub alone : list_any (lists_or_appends me log) between ≡ false

-- the image of each page of the stream is known
abbrev pub AreKnown : ℕ → List Entry → Type 0
AreKnown s past = (p : ℕ) → 4096 * p < size_of (history past s) → is_known (history past s) p ≡ true

-- What a checkpoint of the log asks of the moments between which it is made, of the stream: where it listed the dirty pages each
-- update that had a record was set dirty; none had one between that and its own record; and where it synced the stream the image of
-- each of its pages was known.
pub record IsCalmForCheckpoint (s log me : ℕ) (old new : List Entry) : Type 0 where
  pub stamped : (between since : List Entry) → HasCheckpoint log me between (since ++ old) new → AreStamped s log (since ++ old)
  pub none_between : (between since : List Entry) → HasCheckpoint log me between (since ++ old) new →
      list_any (records_update s log) between ≡ false
  pub known : (between since later during : List Entry) (it : HasCheckpoint log me between (since ++ old) new) →
      between ≡ later ++ entry.Sync me s how.Good ∷ during →
      AreKnown s (during ++ entry.Call me it.nth None (call.Query (query.DirtyPages log)) (outcome.Done it.reply) ∷ (since ++ old))

-- the rows of the log's dirty page table have numbers that the record of a checkpoint can spell
pub record RowsFit (log : ℕ) (past : List Entry) : Type 0 where
  pub rows_fit : AllByRecursion FitsRow (map row_told (dirty_table past log))
  pub count_fits : length (map row_told (dirty_table past log)) < 2 ^ 32
