-- Entries of the journal as they are printed.
use Rattle.std.specs.Prelude.{ℕ, Bool, true, false, List, [], ◌++◌, Option, Some, None, codes, decimal}
use Rattle.std.specs.List.{flat_map}
use Rattle.cc_entry.specs.Place.{File, Page, Range}
use Rattle.cc_entry.specs.declared.call.Call.{Call}
use Rattle.cc_entry.specs.declared.reply.Outcome.{Outcome}
use Rattle.cc_entry.specs.declared.reply.Outcome.TheVariants as outcome
use Rattle.cc_entry.specs.declared.entry.End.{End}
use Rattle.cc_entry.specs.declared.entry.End.TheVariants as end
use Rattle.cc_entry.specs.declared.entry.Entry.{Entry}
use Rattle.cc_entry.specs.declared.entry.Entry.TheVariants as entry
use Rattle.cc_script.specs.declared.script.StreamLine.{StreamLine}
use Rattle.cc_print.specs.Append.{◌&◌}
use Rattle.cc_print.specs.Words.{name_at, file_text, page_text, word_if, bytes_text}
use Rattle.cc_print.specs.Answers.{reply_text, error_text}
use Rattle.cc_print.specs.Calls.{call_text}

-- how a call ended
abbrev pub outcome_text : List StreamLine → Outcome → List ℕ
outcome_text streams (outcome.Done reply) = reply_text streams reply
outcome_text streams (outcome.Failed error) = error_text error

-- how a transfer or a sync ended
abbrev pub end_text : End → List ℕ
end_text end.Good = codes "ok"
end_text end.Failed = codes "failed"
end_text end.NoMemory = codes "nomemory"

-- where the bytes of a page came from
abbrev pub source_text : Bool → List ℕ
source_text true = codes "disk"
source_text false = codes "zero"

abbrev pub called_text : List StreamLine → ℕ → ℕ → Call → Outcome → List ℕ
called_text streams pass nth call outcome =
    codes "call " & decimal pass
    & codes " " & decimal nth
    & codes " " & call_text streams call
    & codes " = " & outcome_text streams outcome

abbrev pub appended_text : ℕ → ℕ → ℕ → List ℕ → List ℕ
appended_text pass handle lsn bytes =
    codes "append " & decimal pass
    & codes " " & decimal handle
    & codes " " & decimal lsn
    & codes " " & bytes_text bytes

abbrev pub deferred_text : List StreamLine → ℕ → ℕ → File → ℕ → Bool → List ℕ
deferred_text streams pass id file pages retrying =
    codes "defer " & decimal pass
    & codes " " & decimal id
    & codes " " & name_at streams file.stream
    & codes " " & decimal pages
    & word_if retrying (codes " retry")

-- pages, each behind a semicolon
abbrev pub pages_text : List StreamLine → List Page → List ℕ
pages_text streams pages = flat_map (λ page. codes "; " & page_text streams page) pages

abbrev pub scan_text : List StreamLine → ℕ → List Page → List ℕ
scan_text streams pass picked = (codes "scan " ++ decimal pass) ++ pages_text streams picked

-- a range of a file object, behind the verb and the pass
abbrev pub range_text : List StreamLine → List ℕ → ℕ → File → Range → List ℕ
range_text streams verb pass file span =
    verb & codes " " & decimal pass
    & codes " " & file_text streams file
    & codes " " & decimal span.from
    & codes " " & decimal span.to

-- a lock that was granted, or the lock in its way
abbrev pub granted_text : Bool → ℕ → List ℕ
granted_text true id = codes " ok " & decimal id
granted_text false id = codes " conflict " & decimal id

abbrev pub locked_text : List StreamLine → ℕ → File → Range → Bool → Bool → ℕ → List ℕ
locked_text streams pass file span exclusive granted id =
    range_text streams (codes "locked") pass file span & word_if exclusive (codes " excl") & granted_text granted id

abbrev pub gone_text : Bool → List ℕ
gone_text true = codes "true"
gone_text false = codes "false"

abbrev pub access_text : Bool → List ℕ
access_text true = codes " write"
access_text false = codes " read"

-- the lock in the way, where there is one
abbrev pub conflict_text : Option ℕ → List ℕ
conflict_text (Some id) = codes " conflict " & decimal id
conflict_text None = []

abbrev pub tested_text : List StreamLine → ℕ → File → Range → Bool → Option ℕ → List ℕ
tested_text streams pass file span write conflict =
    range_text streams (codes "tested") pass file span & access_text write & conflict_text conflict

abbrev pub record_text : List StreamLine → ℕ → ℕ → ℕ → ℕ → End → List ℕ
record_text streams pass stream size valid how =
    codes "record " & decimal pass
    & codes " " & name_at streams stream
    & codes " " & decimal size
    & codes " " & decimal valid
    & codes " " & end_text how

-- one entry of the journal
abbrev pub entry_text : List StreamLine → Entry → List ℕ
entry_text streams (entry.Call pass nth stream call outcome) = called_text streams pass nth call outcome
entry_text streams (entry.PageIn pass page from_disk) = codes "in " & page_text streams page & codes " " & source_text from_disk
entry_text streams (entry.PageOut pass page) = codes "out " & page_text streams page
entry_text streams (entry.FillFailed pass page) = codes "fillfailed " & decimal pass & codes " " & page_text streams page
entry_text streams (entry.WriteBegin pass page) = codes "begin " & decimal pass & codes " " & page_text streams page
entry_text streams (entry.WriteEnd pass page how) =
    codes "end " & decimal pass & codes " " & page_text streams page & codes " " & end_text how
entry_text streams (entry.Sync pass stream how) =
    codes "sync " & decimal pass & codes " " & name_at streams stream & codes " " & end_text how
entry_text streams (entry.Append pass handle lsn bytes) = appended_text pass handle lsn bytes
entry_text streams (entry.Flushed pass handle to) = codes "flushed " & decimal handle & codes " " & decimal to
entry_text streams (entry.LogFailed pass handle) = codes "logfailed " & decimal pass & codes " " & decimal handle
entry_text streams (entry.Defer pass id file pages retrying) = deferred_text streams pass id file pages retrying
entry_text streams (entry.Posted id) = codes "posted " & decimal id
entry_text streams (entry.Scan pass picked) = scan_text streams pass picked
entry_text streams (entry.Record pass stream size valid how) = record_text streams pass stream size valid how
entry_text streams (entry.RecordFailed pass stream) = codes "recordfailed " & decimal pass & codes " " & name_at streams stream
entry_text streams (entry.Locked pass file span exclusive granted id) = locked_text streams pass file span exclusive granted id
entry_text streams (entry.Unlocked pass file id gone) =
    codes "unlocked " & decimal pass & codes " " & file_text streams file & codes " " & decimal id & codes " " & gone_text gone
entry_text streams (entry.Tested pass file span write conflict) = tested_text streams pass file span write conflict
