-- What lines leave that write two dirty pages: a flush, the end of a repin with write through, and a run of such lines.
-- Each stretch has its newest entry first, and stands on a past.
use Rattle.std.specs.Prelude.{List, [], ◌∷◌, false}
use Rattle.std.specs.declared.option.Option.TheVariants.{Some, None}
use Rattle.cc_entry.specs.declared.call.Call.{Call}
use Rattle.cc_entry.specs.declared.call.Call.TheVariants as call
use Rattle.cc_entry.specs.declared.reply.Reply.TheVariants as reply
use Rattle.cc_entry.specs.declared.error.CcError.TheVariants as error
use Rattle.cc_entry.specs.declared.answer.LineReply.{LineReply}
use Rattle.cc_entry.specs.declared.entry.Entry.{Entry}
use Rattle.cc_script.specs.declared.script.Action.{Action}
use Rattle.cc_script.specs.declared.script.Action.TheVariants as action
use Rattle.cc_script.specs.declared.script.ActionLine.{ActionLine}
use Rattle.cc_pieces.specs.Explained.{GivenToRun, Answered}
use Rattle.cc_worked.specs.Values.{a, opened, done, answers, refused, read_in, begins, ends, fails, synced}
use Rattle.cc_worked.specs.PiecesRuns.{stream_with, line_of, unit_at, told_by}

-- a flush of the whole stream, as a line and as its call
abbrev pub flushes_all : Action
flushes_all = action.Flush a None

abbrev pub whole_flush : Call
whole_flush = call.Flush a None

-- both pages are written, the lesser first
abbrev pub lesser_first : List Entry
lesser_first = done 1 3 whole_flush ∷ synced 1 ∷ ends 1 1 ∷ begins 1 1 ∷ ends 1 0 ∷ begins 1 0 ∷ []

-- another caller writes the lesser one after the greater
abbrev pub lesser_by_another : List Entry
lesser_by_another = done 1 3 whole_flush ∷ synced 1 ∷ ends 2 0 ∷ begins 2 0 ∷ ends 1 1 ∷ begins 1 1 ∷ []

-- wrong of a line: the greater first
abbrev pub greater_first : List Entry
greater_first = done 1 3 whole_flush ∷ synced 1 ∷ ends 1 0 ∷ begins 1 0 ∷ ends 1 1 ∷ begins 1 1 ∷ []

-- wrong of a line: the lesser one fails, after the greater was written
abbrev pub greater_then_fails : List Entry
greater_then_fails = refused 1 3 whole_flush (error.WriteFault 0) ∷ fails 1 0 ∷ begins 1 0 ∷ ends 1 1 ∷ begins 1 1 ∷ []

-- a repin of two pages that were stamped
abbrev pub two_repinned : List Entry
two_repinned =
    done 1 4 (call.EndHold 1)
    ∷ answers 1 3 (call.Repin 1) (reply.Hold 2)
    ∷ done 1 2 (call.SetDirty 1 None)
    ∷ answers 1 1 (call.PinRead a 0 8192 false) (reply.Hold 1)
    ∷ read_in 1 1
    ∷ read_in 1 0
    ∷ opened 8192 8192
    ∷ []

-- a flush of its range
abbrev pub range_flush : Call
range_flush = call.Flush a (Some (record { from = 0; to = 8192 }))

-- the hold ends, and both pages are written, the lesser first
abbrev pub lesser_through : List Entry
lesser_through =
    done 1 6 range_flush ∷ synced 1 ∷ ends 1 1 ∷ begins 1 1 ∷ ends 1 0 ∷ begins 1 0 ∷ done 1 5 (call.EndHold 2) ∷ []

-- wrong of a line: the greater first
abbrev pub greater_through : List Entry
greater_through =
    done 1 6 range_flush ∷ synced 1 ∷ ends 1 0 ∷ begins 1 0 ∷ ends 1 1 ∷ begins 1 1 ∷ done 1 5 (call.EndHold 2) ∷ []

-- a caller writes a byte of each page, and flushes
abbrev pub write_both_and_flush : List ActionLine
write_both_and_flush =
    line_of 2 1 1 (action.CopyWrite a 0 (171 ∷ []))
    ∷ line_of 3 1 1 (action.CopyWrite a 4096 (171 ∷ []))
    ∷ line_of 4 1 1 flushes_all
    ∷ []

-- a run of those lines, and what it answered
abbrev pub flushing_run : GivenToRun
flushing_run = record { restarts = []; streams = stream_with None ∷ []; lines = write_both_and_flush; phases = 1; ticks = 0; aheads = 0 }

abbrev pub flushing_replies : List LineReply
flushing_replies = unit_at 2 ∷ unit_at 3 ∷ unit_at 4 ∷ []

abbrev pub flushing_told : Answered
flushing_told = told_by (unit_at 1 ∷ flushing_replies)
