-- A run that left a stream to its logged updates, and what a checkpoint of its log asks beside.
use Rattle.std.specs.Prelude.{◌≡◌, ◌⊎◌, ◌+◌, ℕ, true, false, length, slice_get}
use Rattle.std.specs.List.{AllByRecursion}
use Rattle.std.specs.declared.option.Option.{Option}
use Rattle.std.specs.declared.option.Option.TheVariants.{Some, None}
use Rattle.cc_command.specs.Words.{mode_in}
use Rattle.cc_entry.specs.declared.answer.Answer.TheVariants as answer
use Rattle.cc_entry.specs.declared.answer.LineReply.{LineReply}
use Rattle.cc_entry.specs.declared.reply.Reply.TheVariants as reply
use Rattle.cc_format.specs.Spelling.{IsReadAs}
use Rattle.cc_format.specs.declared.record.StreamRecord.{StreamRecord}
use Rattle.cc_model.specs.History.{history}
use Rattle.cc_model.specs.Objects.{had_map}
use Rattle.cc_redo.specs.Disks.{record_number}
use Rattle.cc_program.specs.Runs.{given_of}
use Rattle.cc_script.specs.declared.script.Mode.TheVariants as mode
use Rattle.cc_script.specs.declared.script.Script.{Script}
use Rattle.cc_script.specs.declared.script.StreamLine.{StreamLine}
use Rattle.cc_script_laws.specs.Told.{initialises}
use Rattle.cc_script_laws.specs.Lines.{AreStampedAtTables, IsKnownAt, IsUnwanting, checkpoints, left_to_updates, lines_answered}
use Rattle.cc_stop_laws.specs.Redoable.{TellsAt}
use Rattle.cc_traits.specs.Disk.{Disk, page_of}
use Rattle.cc_traits.specs.Log.{Log}
use Rattle.cc_program.specs.Calls.{ProgramCall}

-- A call ran a script whose line of a stream names the log.
pub record NamesTheLog {D L : Type 0} (call : ProgramCall D L) (s log : ℕ) (line : StreamLine) : Type 0 where
  pub script : Script
  pub ran : call.script ≡ Some script
  pub mode_is : mode_in call.input.words ≡ mode.Run
  pub named : slice_get script.streams s ≡ Some line
  pub logged : line.log ≡ Some log

-- Each line of its callers left the stream to its updates.
pub record LeavesToUpdates {D L : Type 0} (call : ProgramCall D L) (s log : ℕ) (line : StreamLine) : Type 0 where
  pub its : NamesTheLog call s log line
  pub opening : LineReply
  pub opening_at : slice_get call.told.replies (length its.script.restarts + s) ≡ Some opening
  pub updates : AllByRecursion (λ each. left_to_updates s log each.0 each.1 ≡ true) (lines_answered (given_of its.script) call.told)

-- The line of the stream was answered as done.
abbrev pub StreamIsOpened : {D L : Type 0} {call : ProgramCall D L} {s log : ℕ} {line : StreamLine} → LeavesToUpdates call s log line → Type 0
StreamIsOpened leaves = leaves.opening.answer ≡ answer.Given reply.Unit

-- No line of a caller initialises an object of the stream.
abbrev pub InitialisesNone : ℕ → Script → Type 0
InitialisesNone s script = AllByRecursion (λ each. initialises s each.action ≡ false) script.lines

-- The script has no checkpoint of the log.
abbrev pub HasNoCheckpoint : ℕ → Script → Type 0
HasNoCheckpoint log script = AllByRecursion (λ each. checkpoints log each.action ≡ false) script.lines

-- It has no checkpoint of the log, or the stream had no map in the run.
abbrev pub HasNoneOrOpensNone : {D L : Type 0} → ProgramCall D L → ℕ → ℕ → Script → Type 0
HasNoneOrOpensNone call s log script = HasNoCheckpoint log script ⊎ (had_map (history call.past s) ≡ false)

-- A disk and a log told these as the run of a call began and as it ended. What the record page spelled is what the stream is opened with,
-- or it spelled none.
pub record HadDevices {D L : Type 0} (told : D → Option Disk) (log_told : L → Option Log) (call : ProgramCall D L) (s log : ℕ)
    (line : StreamLine) (read : Option StreamRecord) (opening left : Disk) (begun after : Log) : Type 0 where
  pub disk_begun : TellsAt told call.disks_begun s opening
  pub disk_left : TellsAt told call.disks_left s left
  pub log_begun : TellsAt log_told call.logs_begun log begun
  pub log_left : TellsAt log_told call.logs_left log after
  pub reads : IsReadAs (page_of opening record_number) read
  pub stored : (line.stored ≡ true) ⊎ (read ≡ None)

-- What the checkpoints of the log ask: each recorded update of the stream was set dirty as a checkpoint listed the table of the log's dirty
-- pages, or no update of it was refused for want of room or of memory; and at the sync of the stream that each made the image of each of its
-- pages was known.
pub record CheckpointsAreRight {D L : Type 0} (call : ProgramCall D L) (s log : ℕ) (script : Script) : Type 0 where
  pub stamped : AreStampedAtTables s log call.past
      ⊎ AllByRecursion (λ each. IsUnwanting s each.0 each.1) (lines_answered (given_of script) call.told)
  pub known : AllByRecursion (λ each. checkpoints log each.action ≡ true → IsKnownAt s log each.caller call.past) script.lines
