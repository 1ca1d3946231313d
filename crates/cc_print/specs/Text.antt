-- The whole text of a run.
use Rattle.std.specs.Prelude.{ℕ, ◌+◌, ◌==◌, List, [], ◌∷◌, ◌++◌, Option, Some, None, codes, decimal, if◌then◌else◌}
use Rattle.std.specs.List.{flat_map, find, range_with_len}
use Rattle.cc_entry.specs.declared.answer.LineReply.{LineReply}
use Rattle.cc_entry.specs.declared.entry.Entry.{Entry}
use Rattle.cc_script.specs.declared.script.StreamLine.{StreamLine}
use Rattle.cc_script.specs.declared.script.RestartLine.{RestartLine}
use Rattle.cc_script.specs.declared.script.ActionLine.{ActionLine}
use Rattle.cc_script.specs.declared.script.Script.{Script}
use Rattle.cc_print.specs.Append.{◌&◌}
use Rattle.cc_print.specs.declared.table.TableRow.{TableRow}
use Rattle.cc_print.specs.Words.{page_text, number_or_dash}
use Rattle.cc_print.specs.Answers.{answer_text}
use Rattle.cc_print.specs.Entries.{entry_text}
use Rattle.cc_print.specs.Trace.{newline, trace_line}

-- a number, a space, a text and a line feed
abbrev pub numbered : ℕ → List ℕ → List ℕ
numbered number text = decimal number & codes " " & text & newline

-- lines under their heading; without lines there is no heading
abbrev pub section : List ℕ → List ℕ → List ℕ
section heading [] = []
section heading (byte ∷ bytes) = heading & newline & (byte ∷ bytes)

-- what a line was answered
abbrev pub told : List StreamLine → Option LineReply → List ℕ
told streams (Some reply) = numbered reply.line (answer_text streams reply.answer)
told streams None = []

-- the answer of a line, by its number in the script
abbrev pub reply_line : List StreamLine → List LineReply → ℕ → List ℕ
reply_line streams replies line = told streams (find (λ reply. reply.line == line) replies)

-- one line for each restart of the script, and one for each stream
abbrev pub restart_lines : List RestartLine → List StreamLine → List LineReply → List ℕ
restart_lines restarts streams replies = flat_map (λ restart. reply_line streams replies restart.line) restarts

abbrev pub stream_lines : List StreamLine → List LineReply → List ℕ
stream_lines streams replies = flat_map (λ stream. reply_line streams replies stream.line) streams

abbrev pub setup_lines : List RestartLine → List StreamLine → List LineReply → List ℕ
setup_lines restarts streams replies = restart_lines restarts streams replies ++ stream_lines streams replies

-- one line for each action of a caller
abbrev pub caller_lines : List StreamLine → List ActionLine → List LineReply → ℕ → List ℕ
caller_lines streams lines replies caller =
    flat_map (λ action. if action.caller == caller then reply_line streams replies action.line else []) lines

abbrev pub caller_heading : ℕ → List ℕ
caller_heading caller = codes "caller t" & decimal caller

abbrev pub caller_text : List StreamLine → List ActionLine → List LineReply → ℕ → List ℕ
caller_text streams lines replies caller = section (caller_heading caller) (caller_lines streams lines replies caller)

-- callers in their order, each with its section
abbrev pub each_caller : List StreamLine → List ActionLine → List LineReply → List ℕ → List ℕ
each_caller streams lines replies callers = flat_map (λ caller. caller_text streams lines replies caller) callers

-- the callers from 1 to 16
unfoldable pub callers_text : List StreamLine → List ActionLine → List LineReply → List ℕ
callers_text streams lines replies = each_caller streams lines replies (range_with_len 1 16)

-- one line for each entry, with its place
abbrev pub journal_from : List StreamLine → ℕ → List Entry → List ℕ
journal_from streams place [] = []
journal_from streams place (entry ∷ entries) = numbered place (entry_text streams entry) ++ journal_from streams (place + 1) entries

abbrev pub table_line : List StreamLine → TableRow → List ℕ
table_line streams row =
    page_text streams row.page & codes " " & number_or_dash row.oldest
    & codes " " & number_or_dash row.newest & newline

-- one line for each page that is dirty at the end
abbrev pub table_lines : List StreamLine → List TableRow → List ℕ
table_lines streams table = flat_map (λ row. table_line streams row) table

-- what the disks and the logs did
abbrev pub trace_lines : List StreamLine → List Entry → List ℕ
trace_lines streams journal = flat_map (λ entry. trace_line streams entry) journal

-- the sections in their order
unfoldable pub text_of : Script → List LineReply → List Entry → List TableRow → List ℕ
text_of script replies journal table =
    section (codes "setup") (setup_lines script.restarts script.streams replies)
    ++ callers_text script.streams script.lines replies
    ++ section (codes "journal") (journal_from script.streams 1 journal)
    ++ section (codes "table") (table_lines script.streams table)
    ++ section (codes "trace") (trace_lines script.streams journal)
