-- Faults of the disk: whose they are, and what they leave.
use Rattle.std.specs.Prelude.{List, [], ◌∷◌, ◌++◌, true, false, reverse}
use Rattle.std.specs.declared.option.Option.TheVariants.{None}
use Rattle.cc_entry.specs.declared.call.Call.TheVariants as call
use Rattle.cc_entry.specs.declared.reply.Reply.TheVariants as reply
use Rattle.cc_entry.specs.declared.error.CcError.TheVariants as error
use Rattle.cc_entry.specs.declared.entry.End.TheVariants as how
use Rattle.cc_entry.specs.declared.entry.Entry.{Entry}
use Rattle.cc_entry.specs.declared.entry.Entry.TheVariants as entry
use Rattle.cc_worked.specs.Values.{a, page, opened, done, answers, refused, dirty_is, read_in, goes_out, begins, fails, written, synced}

-- Two callers bring the same page in: the first one's read fails, the second one's does not.
abbrev pub two_readers : List Entry
two_readers =
    opened 8192 8192
    ∷ entry.FillFailed 1 (page 0)
    ∷ read_in 2 0
    ∷ answers 2 1 (call.CopyRead a 0 1 true) (reply.Read (90 ∷ []))
    ∷ []

-- the first caller's read fails by its fault
abbrev pub read_failed : List Entry
read_failed = reverse (two_readers ++ refused 1 1 (call.CopyRead a 0 1 true) (error.ReadFault 0) ∷ [])

-- wrong: the second caller's next read is told the first one's fault
abbrev pub read_fault_of_another : List Entry
read_fault_of_another = reverse (two_readers ++ refused 2 2 (call.CopyRead a 0 1 true) (error.ReadFault 0) ∷ [])

-- wrong: the fault is told of another page
abbrev pub read_fault_elsewhere : List Entry
read_fault_elsewhere = reverse (two_readers ++ refused 1 1 (call.CopyRead a 4096 1 true) (error.ReadFault 1) ∷ [])

-- wrong: a fault is told twice
abbrev pub read_fault_twice : List Entry
read_fault_twice = refused 1 2 (call.CopyRead a 0 1 true) (error.ReadFault 0) ∷ read_failed

-- a flush whose write fails
abbrev pub write_failed : List Entry
write_failed =
    opened 8192 8192
    ∷ read_in 1 0
    ∷ done 1 1 (call.CopyWrite a 0 (171 ∷ []))
    ∷ begins 1 0
    ∷ fails 1 0
    ∷ refused 1 2 (call.Flush a None) (error.WriteFault 0)
    ∷ []

-- the page stays dirty, and the next flush writes it
abbrev pub written_at_last : List Entry
written_at_last =
    reverse (
    write_failed
    ++ dirty_is 1 3 true
    ∷ written 1 0
    ++ synced 1
    ∷ done 1 4 (call.Flush a None)
    ∷ dirty_is 1 5 false
    ∷ [])

-- wrong: the page is clean after the failed write
abbrev pub clean_after_failure : List Entry
clean_after_failure = reverse (write_failed ++ dirty_is 1 3 false ∷ [])

-- wrong: the page goes out after the failed write
abbrev pub out_after_failure : List Entry
out_after_failure = reverse (write_failed ++ goes_out 1 0 ∷ [])

-- a sync alone may stand after the failed write
abbrev pub synced_after_failure : List Entry
synced_after_failure = reverse (write_failed ++ synced 1 ∷ [])

-- wrong: the next flush is done by that sync
abbrev pub flush_without_second_write : List Entry
flush_without_second_write = done 1 3 (call.Flush a None) ∷ synced_after_failure

-- the transfer of another caller fails
abbrev pub write_of_another_failed : List Entry
write_of_another_failed =
    opened 8192 8192 ∷ read_in 1 0 ∷ done 1 1 (call.CopyWrite a 0 (171 ∷ [])) ∷ begins 2 0 ∷ fails 2 0 ∷ []

-- that caller's flush is told the fault
abbrev pub fault_of_its_own : List Entry
fault_of_its_own = reverse (write_of_another_failed ++ refused 2 1 (call.Flush a None) (error.WriteFault 0) ∷ [])

-- wrong: the flush of the one that did not write is told it
abbrev pub fault_of_another : List Entry
fault_of_another = reverse (write_of_another_failed ++ refused 1 2 (call.Flush a None) (error.WriteFault 0) ∷ [])

-- a sync fails after a good write
abbrev pub sync_failed : List Entry
sync_failed =
    opened 8192 8192
    ∷ read_in 1 0
    ∷ done 1 1 (call.CopyWrite a 0 (171 ∷ []))
    ∷ written 1 0
    ++ entry.Sync 1 0 how.Failed
    ∷ []

-- the flush fails, the page is clean, and the next flush syncs alone
abbrev pub synced_at_last : List Entry
synced_at_last =
    reverse (
    sync_failed
    ++ refused 1 2 (call.Flush a None) (error.WriteFault 0)
    ∷ dirty_is 1 3 false
    ∷ synced 1
    ∷ done 1 4 (call.Flush a None)
    ∷ [])

-- wrong: the flush is done by the sync that failed
abbrev pub flush_by_failed_sync : List Entry
flush_by_failed_sync = reverse (sync_failed ++ done 1 2 (call.Flush a None) ∷ [])
