-- What the lines of restarts leave, those of streams behind them, whose logs they name, and a checkpoint.
use Rattle.std.specs.Prelude.{ℕ, List, [], ◌∷◌}
use Rattle.std.specs.declared.option.Option.TheVariants.{Some, None}
use Rattle.cc_entry.specs.declared.place.DirtyRow.{DirtyRow}
use Rattle.cc_entry.specs.declared.call.Call.TheVariants as call
use Rattle.cc_entry.specs.declared.query.Query.TheVariants as query
use Rattle.cc_entry.specs.declared.reply.Reply.TheVariants as reply
use Rattle.cc_entry.specs.declared.query.Value.TheVariants as value
use Rattle.cc_entry.specs.declared.reply.Outcome.TheVariants as outcome
use Rattle.cc_entry.specs.declared.answer.Answer.{Answer}
use Rattle.cc_entry.specs.declared.answer.Answer.TheVariants as answer
use Rattle.cc_entry.specs.declared.answer.LineReply.{LineReply}
use Rattle.cc_entry.specs.declared.entry.Entry.{Entry}
use Rattle.cc_entry.specs.declared.entry.Entry.TheVariants as entry
use Rattle.cc_entry.specs.declared.error.CcError.{CcError}
use Rattle.cc_entry.specs.declared.error.CcError.TheVariants as error
use Rattle.cc_script.specs.declared.script.RestartLine.{RestartLine}
use Rattle.cc_effects.specs.Moments.{Between}
use Rattle.cc_pieces.specs.Checkpoints.{CheckpointAnswered, sync_call}
use Rattle.cc_pieces.specs.Openings.{Opens}
use Rattle.cc_pieces.specs.Restarts.{Restarts}
use Rattle.cc_worked.specs.Values.{setup, a, page, answers, done, synced}
use Rattle.cc_worked.specs.PiecesRuns.{stream_with}
use Rattle.cc_worked.specs.PiecesShim.{logged_state}

-- the line of a restart of such a log
abbrev pub OneRestart : ℕ → Answer → Between
OneRestart handle = Restarts setup handle

-- pass 0 flushes such a log up to LSN 4
abbrev pub restart_flushes : ℕ → List Entry
restart_flushes handle = entry.Flushed 0 handle 4 ∷ []

-- log 0 fails at that
abbrev pub restart_flush_fails : List Entry
restart_flush_fails = entry.LogFailed 0 0 ∷ []

-- a write of the first page of a disk failed
abbrev pub first_write_fails : CcError
first_write_fails = error.WriteFault 0

-- the line of a stream of log 0, of which the restart was refused so
abbrev pub OneStreamBehind : CcError → Answer → Between
OneStreamBehind e = Opens setup 0 (stream_with (Some 0)) (Some e)

-- log 1 is restarted, and then log 0
abbrev pub two_restarts : List RestartLine
two_restarts = record { line = 1; handle = 1 } ∷ record { line = 2; handle = 0 } ∷ []

-- the second was refused
abbrev pub second_refused : List LineReply
second_refused =
    record { line = 1; answer = answer.Restarted 3 } ∷ record { line = 2; answer = answer.Refused first_write_fails } ∷ []

-- caller 1 makes a checkpoint of log 0, in a run of one stream
abbrev pub OneCheckpoint : Answer → Between
OneCheckpoint = CheckpointAnswered setup 1 1 0

-- page 0 is dirty, since LSN 1
abbrev pub first_dirty : DirtyRow
first_dirty = record { page = page 0; oldest = 1; newest = 2 }

-- the record of a checkpoint with that row: the byte 255, one row, stream 0, page 0, LSN 1
abbrev pub one_row_record : List ℕ
one_row_record = 255 ∷ 1 ∷ 0 ∷ 0 ∷ 0 ∷ 0 ∷ 0 ∷ 0 ∷ 0 ∷ 0 ∷ 0 ∷ 0 ∷ 0 ∷ 0 ∷ 1 ∷ 0 ∷ 0 ∷ 0 ∷ 0 ∷ 0 ∷ 0 ∷ 0 ∷ []

-- the table has the row, and the stream has the log
abbrev pub checkpoint_asks : List Entry
checkpoint_asks =
    answers 1 2 (call.Query (query.State a)) (reply.Value (value.State (logged_state 8192)))
    ∷ entry.Call 1 1 None (call.Query (query.DirtyPages 0)) (outcome.Done (reply.Rows (first_dirty ∷ []))) ∷ []

-- so its disk is synced
abbrev pub checkpoint_syncs : List Entry
checkpoint_syncs = done 1 3 (sync_call 0) ∷ synced 1 ∷ checkpoint_asks

-- the record is appended, and the log flushed up to it
abbrev pub checkpoint_made : List Entry
checkpoint_made = entry.Flushed 1 0 3 ∷ entry.Append 1 0 3 one_row_record ∷ checkpoint_syncs
