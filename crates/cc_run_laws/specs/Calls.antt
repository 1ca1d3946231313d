-- A call of the program, what its clauses say of it, and what it did with one stream and its log.
use Rattle.std.specs.Prelude.{◌≡◌, ℕ, ◌≤◌, List, ◌∷◌, ◌++◌, slice_get}
use Rattle.std.specs.declared.option.Option.{Option}
use Rattle.std.specs.declared.option.Option.TheVariants.{Some, None}
use Rattle.cc_entry.specs.declared.answer.Answer.TheVariants as answer
use Rattle.cc_entry.specs.declared.answer.LineReply.{LineReply}
use Rattle.cc_entry.specs.declared.entry.Entry.{Entry}
use Rattle.cc_entry.specs.declared.entry.Entry.TheVariants as entry
use Rattle.cc_format.specs.Spelling.{IsReadAs}
use Rattle.cc_format.specs.declared.record.StreamRecord.{StreamRecord}
use Rattle.cc_model.specs.Logs.{flushed_to}
use Rattle.cc_redo.specs.Disks.{record_number}
use Rattle.cc_restart_laws.specs.Updates.{IsUpdated}
use Rattle.cc_program.specs.Calls.{HasClauses, ProgramCall}
use Rattle.cc_program.specs.Ends.{Input, IsAsked}
use Rattle.cc_script.specs.declared.script.Script.{Script}
use Rattle.cc_script.specs.declared.script.StreamLine.{StreamLine}
use Rattle.cc_stop_laws.specs.Redoable.{IsHandedIn, StreamIsNumbered, NamesAgain, RestartsStream, TellsAt}
use Rattle.cc_traits.specs.Disk.{Disk, page_of}
use Rattle.cc_traits.specs.Log.{Log, LogEntry}

-- A disk and a log told these as the run of a call began and as it ended. The stream changed by logged updates alone, and was first
-- initialised with the numbers of its record, which was read so as the run began, or else of its line.
pub record RanUpdated {D L : Type 0} (told : D → Option Disk) (log_told : L → Option Log) (call : ProgramCall D L) (s log : ℕ)
    (line : StreamLine) (read : Option StreamRecord) (opening left : Disk) (begun after : Log) : Type 0 where
  pub disk_begun : TellsAt told call.disks_begun s opening
  pub disk_left : TellsAt told call.disks_left s left
  pub log_begun : TellsAt log_told call.logs_begun log begun
  pub log_left : TellsAt log_told call.logs_left log after
  pub updated : IsUpdated s log call.past
  pub reads : IsReadAs (page_of opening record_number) read
  pub numbered : StreamIsNumbered s line read call.past

-- What was left of a stream's disk and of its log is handed to a call, whose script restarts the log over the stream. The line of the
-- restart was answered as done.
pub record HasRestarted {D L : Type 0} (told : D → Option Disk) (faults : D → ℕ) (log_told : L → Option Log) (log_faults : L → ℕ)
    (s log : ℕ) (stream : StreamLine) (was : Disk) (had : Log) (call : ProgramCall D L) : Type 0 where
  pub clauses : HasClauses told faults log_told log_faults call
  pub handed : Disk
  pub kept : Log
  pub handed_in : IsHandedIn told log_told call.disks call.logs s log was had handed kept
  pub script : Script
  pub ran : call.script ≡ Some script
  pub line : StreamLine
  pub n : ℕ
  pub lines : RestartsStream s log line script.streams script.restarts n
  pub names : NamesAgain handed stream line
  pub restart : LineReply
  pub restart_at : slice_get call.told.replies n ≡ Some restart
  pub updates : ℕ
  pub restarted : restart.answer ≡ answer.Restarted updates

-- the script of a call: the one that it ran, or the one that its words ask for
abbrev pub IsScriptOf : Input → Option Script → Script → Type 0
IsScriptOf i (Some ran) script = script ≡ ran
IsScriptOf i None script = IsAsked i script

-- a script restarts the log over the stream, and names its numbers again
pub record NamesStream (s log : ℕ) (stream : StreamLine) (handed : Disk) (script : Script) : Type 0 where
  pub line : StreamLine
  pub n : ℕ
  pub lines : RestartsStream s log line script.streams script.restarts n
  pub names : NamesAgain handed stream line

-- A run appended an entry to the log, and flushed the log up to its LSN.
pub record LogEntryIsFlushed (log : ℕ) (it : LogEntry) (past : List Entry) : Type 0 where
  pub pass : ℕ
  pub later : List Entry
  pub front : List Entry
  pub splits : past ≡ later ++ entry.Append pass log it.lsn it.bytes ∷ front
  pub reached : it.lsn ≤ flushed_to past log
