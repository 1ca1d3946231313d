-- The trace: what the disks and the logs did.
use Rattle.std.specs.Prelude.{ℕ, Bool, true, false, List, [], ◌∷◌, codes, decimal, if◌then◌else◌}
use Rattle.cc_entry.specs.declared.call.Call.{Call}
use Rattle.cc_entry.specs.declared.call.Call.TheVariants as call
use Rattle.cc_entry.specs.declared.reply.Reply.TheVariants as reply
use Rattle.cc_entry.specs.declared.reply.Outcome.{Outcome}
use Rattle.cc_entry.specs.declared.reply.Outcome.TheVariants as outcome
use Rattle.cc_entry.specs.declared.entry.End.{End}
use Rattle.cc_entry.specs.declared.entry.End.TheVariants as end
use Rattle.cc_entry.specs.declared.entry.Entry.{Entry}
use Rattle.cc_entry.specs.declared.entry.Entry.TheVariants as entry
use Rattle.cc_script.specs.declared.script.StreamLine.{StreamLine}
use Rattle.cc_print.specs.Append.{◌&◌}
use Rattle.cc_print.specs.Words.{name_at, page_text}
use Rattle.cc_print.specs.Entries.{end_text}

abbrev pub newline : List ℕ
newline = 10 ∷ []

abbrev pub is_some_byte : List ℕ → Bool
is_some_byte [] = false
is_some_byte (byte ∷ bytes) = true

-- at least one byte was answered
abbrev pub has_read : Outcome → Bool
has_read (outcome.Done (reply.Read bytes)) = is_some_byte bytes
has_read (outcome.Done _) = false
has_read (outcome.Failed _) = false

abbrev pub read_line : List StreamLine → ℕ → ℕ → List ℕ
read_line streams stream page = codes "read " & name_at streams stream & codes " " & decimal page & newline

-- of the calls, a noncached read alone reads the disk by itself
abbrev pub trace_call : List StreamLine → Call → Outcome → List ℕ
trace_call streams (call.NcRead file page) outcome = if has_read outcome then read_line streams file.stream page else []
trace_call streams _ outcome = []

-- what a record says that was written, or how its write ended
abbrev pub record_trace : ℕ → ℕ → End → List ℕ
record_trace size valid end.Good = codes " " & decimal size & codes " " & decimal valid
record_trace size valid end.Failed = codes " failed"
record_trace size valid end.NoMemory = codes " nomemory"

-- the line of an entry, with its line feed; nothing where the entry has none
abbrev pub trace_line : List StreamLine → Entry → List ℕ
trace_line streams (entry.Call pass nth stream call outcome) = trace_call streams call outcome
trace_line streams (entry.PageIn pass page from_disk) = if from_disk then read_line streams page.stream page.page else []
trace_line streams (entry.PageOut pass page) = []
trace_line streams (entry.FillFailed pass page) = codes "read " & page_text streams page & codes " failed" & newline
trace_line streams (entry.WriteBegin pass page) = codes "write " & page_text streams page & codes " begin" & newline
trace_line streams (entry.WriteEnd pass page how) = codes "write " & page_text streams page & codes " " & end_text how & newline
trace_line streams (entry.Sync pass stream how) = codes "sync " & name_at streams stream & codes " " & end_text how & newline
trace_line streams (entry.Append pass handle lsn bytes) = codes "log " & decimal handle & codes " append " & decimal lsn & newline
trace_line streams (entry.Flushed pass handle to) = codes "log " & decimal handle & codes " flush " & decimal to & newline
trace_line streams (entry.LogFailed pass handle) = codes "log " & decimal handle & codes " failed" & newline
trace_line streams (entry.Defer pass id file pages retrying) = []
trace_line streams (entry.Posted id) = []
trace_line streams (entry.Scan pass picked) = []
trace_line streams (entry.Record pass stream size valid how) = codes "record " & name_at streams stream & record_trace size valid how & newline
trace_line streams (entry.RecordFailed pass stream) = []
trace_line streams (entry.Locked pass file span exclusive granted id) = []
trace_line streams (entry.Unlocked pass file id gone) = []
trace_line streams (entry.Tested pass file span write conflict) = []
