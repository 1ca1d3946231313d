-- Noncached stores and the ends of their writes.
use Rattle.std.specs.Prelude.{ℕ, List, [], ◌∷◌, ◌++◌, false, reverse, replicate}
use Rattle.std.specs.declared.option.Option.TheVariants.{Some, None}
use Rattle.cc_entry.specs.declared.call.Call.TheVariants as call
use Rattle.cc_entry.specs.declared.query.Query.TheVariants as query
use Rattle.cc_entry.specs.declared.reply.Reply.TheVariants as reply
use Rattle.cc_entry.specs.declared.query.Value.TheVariants as value
use Rattle.cc_entry.specs.declared.error.CcError.TheVariants as error
use Rattle.cc_entry.specs.declared.entry.Entry.{Entry}
use Rattle.cc_entry.specs.declared.entry.Entry.TheVariants as entry
use Rattle.cc_worked.specs.Values.{a, opened, done, answers, refused, read_in, begins, ends, fails, written}

-- the bytes of a whole page
abbrev pub whole : List ℕ
whole = replicate 4096 205

-- a store that is cut at the size, its transfer and its end
abbrev pub stored : List Entry
stored = opened 4100 4096 ∷ done 1 1 (call.NcStore a 1 whole) ∷ written 1 1

-- the valid data length rises to the size, and the page stays
abbrev pub store_cut_at_size : List Entry
store_cut_at_size =
    reverse (
    stored
    ++ done 1 2 (call.NcWrite a 1)
    ∷ answers 1 3 (call.Query (query.State a)) (reply.Value (value.State (record { sizes = record { allocation = 4100; size = 4100; valid = 4100 }; log = None })))
    ∷ answers 1 4 (call.CopyRead a 4096 9 false) (reply.Read (205 ∷ 205 ∷ 205 ∷ 205 ∷ []))
    ∷ [])

-- wrong: the write is ended by another caller, or for another page
abbrev pub ended_by_another : List Entry
ended_by_another = reverse (stored ++ done 2 1 (call.NcWrite a 1) ∷ [])

abbrev pub another_page_ended : List Entry
another_page_ended = reverse (stored ++ done 1 2 (call.NcWrite a 0) ∷ [])

-- wrong: it is ended twice
abbrev pub ended_again : List Entry
ended_again = done 1 5 (call.NcWrite a 1) ∷ store_cut_at_size

-- wrong: it is ended before its transfer is
abbrev pub ended_under_way : List Entry
ended_under_way = reverse (opened 4100 4096 ∷ done 1 1 (call.NcStore a 1 whole) ∷ begins 1 1 ∷ done 1 2 (call.NcWrite a 1) ∷ [])

-- wrong: a store begins during a transfer
abbrev pub stored_under_way : List Entry
stored_under_way =
    reverse (opened 8192 8192 ∷ done 1 1 (call.NcStore a 1 whole) ∷ begins 1 1 ∷ done 2 1 (call.NcStore a 0 whole) ∷ begins 2 0 ∷ [])

-- a page with a pin that owes its stamp
abbrev pub owed : List Entry
owed =
    opened 8192 8192
    ∷ done 0 2 (call.SetLog a 0)
    ∷ read_in 1 0
    ∷ answers 1 1 (call.PinRead a 0 16 false) (reply.Hold 1)
    ∷ done 1 2 (call.PinnedWrite 1 0 (171 ∷ []))
    ∷ []

-- a store of it is refused; once it is stamped, the log is flushed first
abbrev pub stored_after_log : List Entry
stored_after_log =
    reverse (
    owed
    ++ refused 2 1 (call.NcWrite a 0) (error.Busy 1)
    ∷ done 1 3 (call.SetDirty 1 (Some 3))
    ∷ entry.Flushed 2 0 3
    ∷ done 2 2 (call.NcStore a 0 whole)
    ∷ begins 2 0
    ∷ [])

-- wrong: the store is done before the stamp, or before the log
abbrev pub stored_before_stamp : List Entry
stored_before_stamp = reverse (owed ++ done 2 1 (call.NcStore a 0 whole) ∷ begins 2 0 ∷ [])

abbrev pub stored_before_log : List Entry
stored_before_log = reverse (owed ++ done 1 3 (call.SetDirty 1 (Some 3)) ∷ done 2 1 (call.NcStore a 0 whole) ∷ begins 2 0 ∷ [])

-- a store past the valid data length, or past the size, is refused
abbrev pub store_refused : List Entry
store_refused =
    reverse (
    opened 8192 100
    ∷ refused 1 1 (call.NcWrite a 1) (error.BeyondValid 100)
    ∷ refused 1 2 (call.NcWrite a 2) (error.BeyondSize 8192)
    ∷ [])

-- The log of a stamped page fails to flush before a noncached write of the page.
abbrev pub log_failed : List Entry
log_failed = owed ++ done 1 3 (call.SetDirty 1 (Some 3)) ∷ entry.LogFailed 2 0 ∷ []

-- the write ends without a store; its caller is told the fault, once
abbrev pub write_of_failed_log : List Entry
write_of_failed_log = reverse (log_failed ++ refused 2 1 (call.NcWrite a 0) (error.LogFault 0) ∷ [])

-- wrong: another caller is told it, it is told of another log, or told again
abbrev pub log_fault_of_another : List Entry
log_fault_of_another = reverse (log_failed ++ refused 3 1 (call.NcWrite a 0) (error.LogFault 0) ∷ [])

abbrev pub another_log_fault : List Entry
another_log_fault = reverse (log_failed ++ refused 2 1 (call.NcWrite a 0) (error.LogFault 1) ∷ [])

abbrev pub log_fault_again : List Entry
log_fault_again = refused 2 2 (call.NcWrite a 0) (error.LogFault 0) ∷ write_of_failed_log

-- wrong: it is told while the pin owes its stamp, which bars the write
abbrev pub log_fault_before_stamp : List Entry
log_fault_before_stamp = reverse (owed ++ entry.LogFailed 2 0 ∷ refused 2 1 (call.NcWrite a 0) (error.LogFault 0) ∷ [])

-- The size falls to the first page while the store of the second is under way.
abbrev pub cut_under_way : List Entry
cut_under_way =
    opened 8192 8192 ∷ done 1 1 (call.NcStore a 1 whole) ∷ begins 1 1 ∷ done 2 1 (call.SetSizes a 8192 4096) ∷ []

-- its transfer fails, and the write is told so, though its page is past the size by now
abbrev pub cut_write_failed : List Entry
cut_write_failed = reverse (cut_under_way ++ fails 1 1 ∷ refused 1 2 (call.NcWrite a 1) (error.WriteFault 1) ∷ [])

-- it ends well, and the write is done all the same
abbrev pub cut_write_done : List Entry
cut_write_done = reverse (cut_under_way ++ ends 1 1 ∷ done 1 2 (call.NcWrite a 1) ∷ [])

-- wrong: it is done after the failed transfer
abbrev pub cut_write_done_unwritten : List Entry
cut_write_done_unwritten = reverse (cut_under_way ++ fails 1 1 ∷ done 1 2 (call.NcWrite a 1) ∷ [])

-- wrong: the end of a write of another page is told the fault, or another caller
abbrev pub cut_fault_elsewhere : List Entry
cut_fault_elsewhere = reverse (cut_under_way ++ fails 1 1 ∷ refused 1 2 (call.NcWrite a 2) (error.WriteFault 1) ∷ [])

abbrev pub cut_fault_of_another : List Entry
cut_fault_of_another = reverse (cut_under_way ++ fails 1 1 ∷ refused 2 2 (call.NcWrite a 1) (error.WriteFault 1) ∷ [])

-- wrong: it is told the fault though its transfer ended well
abbrev pub cut_fault_after_good_end : List Entry
cut_fault_after_good_end = reverse (cut_under_way ++ ends 1 1 ∷ refused 1 2 (call.NcWrite a 1) (error.WriteFault 1) ∷ [])
