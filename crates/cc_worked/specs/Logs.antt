-- A page that was stamped goes to the disk after its log, and never before its stamp.
use Rattle.std.specs.Prelude.{ℕ, List, [], ◌∷◌, ◌++◌, ◌+◌, ◌^◌, false, reverse}
use Rattle.std.specs.declared.option.Option.TheVariants.{Some, None}
use Rattle.cc_entry.specs.declared.call.Call.TheVariants as call
use Rattle.cc_entry.specs.declared.query.Query.TheVariants as query
use Rattle.cc_entry.specs.declared.reply.Reply.TheVariants as reply
use Rattle.cc_entry.specs.declared.query.Value.TheVariants as value
use Rattle.cc_entry.specs.declared.reply.Outcome.TheVariants as outcome
use Rattle.cc_entry.specs.declared.error.CcError.TheVariants as error
use Rattle.cc_entry.specs.declared.entry.Entry.{Entry}
use Rattle.cc_entry.specs.declared.entry.Entry.TheVariants as entry
use Rattle.cc_worked.specs.Values.{a, row, opened, done, answers, refused, read_in, begins, written, synced}

-- stream 0 keeps log 0, an entry is appended, and a pin changes the page that it holds
abbrev pub pinned_change : List Entry
pinned_change =
    opened 8192 8192
    ∷ done 0 2 (call.SetLog a 0)
    ∷ entry.Append 1 0 1 (1 ∷ [])
    ∷ read_in 1 0
    ∷ answers 1 1 (call.PinRead a 0 16 false) (reply.Hold 1)
    ∷ done 1 2 (call.PinnedWrite 1 0 (171 ∷ []))
    ∷ []

-- a caller asks for the dirty page table of log 0, and is told this one row
abbrev pub table_of : ℕ → ℕ → ℕ → ℕ → Entry
table_of pass nth oldest newest =
    entry.Call pass nth None (call.Query (query.DirtyPages 0)) (outcome.Done (reply.Rows (row oldest newest ∷ [])))

-- a flush before the stamp is refused; then the pin is stamped and ended
abbrev pub stamped : List Entry
stamped =
    pinned_change
    ++ refused 1 3 (call.Flush a None) (error.Busy 1)
    ∷ done 1 4 (call.SetDirty 1 (Some 1))
    ∷ table_of 1 5 1 1
    ∷ done 1 6 (call.EndHold 1)
    ∷ []

-- the flush: the log first, then the page, then the sync
abbrev pub flushed : List Entry
flushed = reverse (stamped ++ entry.Flushed 1 0 1 ∷ written 1 0 ++ synced 1 ∷ done 1 7 (call.Flush a None) ∷ [])

-- wrong: the page goes with an LSN to which the log was not flushed
abbrev pub page_before_log : List Entry
page_before_log = reverse (stamped ++ begins 1 0 ∷ [])

-- wrong: the page goes between the pinned write and its stamp
abbrev pub page_before_stamp : List Entry
page_before_stamp = reverse (pinned_change ++ begins 1 0 ∷ [])

-- wrong: the flush finds a pin that owes its stamp, and is done all the same
abbrev pub flush_before_stamp : List Entry
flush_before_stamp = reverse (pinned_change ++ done 1 3 (call.Flush a None) ∷ [])

-- wrong: an append leaves an LSN out
abbrev pub lsn_left_out : List Entry
lsn_left_out = reverse (pinned_change ++ entry.Append 1 0 3 (2 ∷ []) ∷ [])

-- wrong: a flush of the log goes back
abbrev pub log_flushed_back : List Entry
log_flushed_back = reverse (stamped ++ entry.Flushed 1 0 1 ∷ entry.Flushed 1 0 1 ∷ [])

-- the page is stamped twice, and the log flushed in between
abbrev pub stamped_twice : List Entry
stamped_twice =
    pinned_change
    ++ done 1 3 (call.SetDirty 1 (Some 1))
    ∷ entry.Flushed 1 0 1
    ∷ entry.Append 1 0 2 (2 ∷ [])
    ∷ done 1 4 (call.SetDirty 1 (Some 2))
    ∷ []

-- the log is flushed to the newer LSN, and the page goes
abbrev pub log_up_to_newest : List Entry
log_up_to_newest = reverse (stamped_twice ++ entry.Flushed 1 0 2 ∷ begins 1 0 ∷ [])

-- wrong: the page goes although the log was flushed to the older LSN alone
abbrev pub log_short_of_newest : List Entry
log_short_of_newest = reverse (stamped_twice ++ begins 1 0 ∷ [])

-- the log fails to flush, and the flush of the page with it; the next one comes through
abbrev pub log_failed : List Entry
log_failed =
    reverse (
    pinned_change
    ++ done 1 3 (call.SetDirty 1 (Some 1))
    ∷ done 1 4 (call.EndHold 1)
    ∷ entry.LogFailed 1 0
    ∷ refused 1 5 (call.Flush a None) (error.LogFault 0)
    ∷ table_of 1 6 1 1
    ∷ entry.Flushed 1 0 1
    ∷ written 1 0
    ++ synced 1
    ∷ done 1 7 (call.Flush a None)
    ∷ [])

-- wrong: a flush that met no fault of a log is told one
abbrev pub no_log_failed : List Entry
no_log_failed = reverse (stamped ++ refused 1 7 (call.Flush a None) (error.LogFault 0) ∷ [])

-- the greatest LSN is stamped, and the log flushed to it: no append comes after it
abbrev pub greatest_stamped : List Entry
greatest_stamped =
    reverse (
    opened 8192 8192
    ∷ done 0 2 (call.SetLog a 0)
    ∷ read_in 1 0
    ∷ answers 1 1 (call.PinRead a 0 1 false) (reply.Hold 1)
    ∷ done 1 2 (call.SetDirty 1 (Some (2 ^ 62)))
    ∷ answers 1 3 (call.Query (query.LsnForFile a)) (reply.Value (value.Lsns (Some (2 ^ 62, 2 ^ 62))))
    ∷ done 1 4 (call.EndHold 1)
    ∷ entry.Flushed 1 0 (2 ^ 62)
    ∷ written 1 0
    ++ synced 1
    ∷ done 1 5 (call.Flush a None)
    ∷ [])

-- wrong: an append after it
abbrev pub append_past_greatest : List Entry
append_past_greatest = entry.Append 1 0 (2 ^ 62 + 1) (1 ∷ []) ∷ greatest_stamped
