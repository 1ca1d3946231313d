-- The one line that sums up a generated script: how many of its lines were answered in each way, and what was left.
use Rattle.std.specs.Prelude.{ℕ, suc, ◌≡◌, ◌==◌, Bool, true, false, List, [], ◌∷◌, Option, Some, None, codes, decimal, length, take, if◌then◌else◌}
use Rattle.std.specs.List.{find}
use Rattle.std.specs.Str.{bytes_eq}
use Rattle.cc_entry.specs.declared.answer.Answer.{Answer}
use Rattle.cc_entry.specs.declared.answer.Answer.TheVariants as answer
use Rattle.cc_entry.specs.declared.answer.LineReply.{LineReply}
use Rattle.cc_entry.specs.declared.entry.Entry.{Entry}
use Rattle.cc_script.specs.declared.script.ActionLine.{ActionLine}
use Rattle.cc_script.specs.declared.script.StreamLine.{StreamLine}
use Rattle.cc_script.specs.declared.script.Script.{Script}
use Rattle.cc_print.specs.Append.{◌&◌}
use Rattle.cc_print.specs.declared.table.TableRow.{TableRow}
use Rattle.cc_print.specs.declared.summary.AnswerCounts.{AnswerCounts}
use Rattle.cc_print.specs.declared.summary.Kind.{Kind}
use Rattle.cc_print.specs.declared.summary.Kind.TheVariants as kind
use Rattle.cc_print.specs.Answers.{answer_text}
use Rattle.cc_print.specs.Trace.{newline}

-- an answer whose text begins with `error`
abbrev pub is_refused : Answer → Bool
is_refused (answer.Refused e) = true
is_refused (answer.NcRefused done cause) = true
is_refused other = false

-- the answer `not now`
abbrev pub is_not_now : Answer → Bool
is_not_now answer.NotNow = true
is_not_now other = false

-- the answer `faulted`
abbrev pub is_faulted : Answer → Bool
is_faulted answer.Faulted = true
is_faulted other = false

-- an answer whose text begins with `ok`: one that is none of these, and not `no hold`
abbrev pub is_ok : Answer → Bool
is_ok (answer.Refused e) = false
is_ok (answer.NcRefused done cause) = false
is_ok answer.NotNow = false
is_ok answer.Faulted = false
is_ok answer.NoHold = false
is_ok other = true

-- an answer is of a kind
abbrev pub is_answer_of_kind : Kind → Answer → Bool
is_answer_of_kind kind.Ok told = is_ok told
is_answer_of_kind kind.Refused told = is_refused told
is_answer_of_kind kind.NotNow told = is_not_now told
is_answer_of_kind kind.Faulted told = is_faulted told

-- a reply of a kind
abbrev pub is_reply_of_kind : Kind → Option LineReply → Bool
is_reply_of_kind k (Some reply) = is_answer_of_kind k reply.answer
is_reply_of_kind k None = false

-- a line was answered in this way, as the text has it
unfoldable pub was_told : Kind → List LineReply → ℕ → Bool
was_told k replies line = is_reply_of_kind k (find (λ reply. reply.line == line) replies)

-- how many actions were answered in this way
abbrev pub count_of_kind : Kind → List LineReply → List ActionLine → ℕ
count_of_kind k replies [] = 0
count_of_kind k replies (action ∷ lines) =
    if was_told k replies action.line then suc (count_of_kind k replies lines) else count_of_kind k replies lines

-- how many in each way
unfoldable pub counts_of : List LineReply → List ActionLine → AnswerCounts
counts_of replies lines = record {
  ok = count_of_kind kind.Ok replies lines;
  refused = count_of_kind kind.Refused replies lines;
  not_now = count_of_kind kind.NotNow replies lines;
  faulted = count_of_kind kind.Faulted replies lines;
}

abbrev pub counts_text : AnswerCounts → List ℕ
counts_text counts =
    codes "ok " & decimal counts.ok
    & codes " refused " & decimal counts.refused
    & codes " notnow " & decimal counts.not_now
    & codes " faulted " & decimal counts.faulted

-- the line of these numbers
abbrev pub summary_line : ℕ → AnswerCounts → ℕ → ℕ → List ℕ
summary_line n counts entries dirty =
    codes "gen " & decimal n & codes ": " & counts_text counts
    & codes " entries " & decimal entries & codes " dirty " & decimal dirty & newline

-- the number of a script, the answers of its actions, the entries of the journal, and the pages that are dirty at the end
unfoldable pub summary_of : ℕ → Script → List LineReply → List Entry → List TableRow → List ℕ
summary_of n script replies journal table =
    summary_line n (counts_of replies script.lines) (length journal) (length table)

-- an answer counts as ok exactly where its text begins with `ok`, and as refused where it begins with `error`
abbrev pub OkIsPrinted : Type 0
OkIsPrinted = (streams : List StreamLine) (told : Answer) → is_ok told ≡ bytes_eq (take 2 (answer_text streams told)) (codes "ok")

abbrev pub RefusedIsPrinted : Type 0
RefusedIsPrinted =
    (streams : List StreamLine) (told : Answer) → is_refused told ≡ bytes_eq (take 5 (answer_text streams told)) (codes "error")
