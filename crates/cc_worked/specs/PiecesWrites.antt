-- What flushes and purges leave, and calls that give a block up. Each stretch has its newest entry first, and
-- stands on a past.
use Rattle.std.specs.Prelude.{List, [], ◌∷◌, true, false}
use Rattle.std.specs.declared.option.Option.TheVariants.{Some, None}
use Rattle.cc_entry.specs.declared.call.Call.{Call}
use Rattle.cc_entry.specs.declared.call.Call.TheVariants as call
use Rattle.cc_entry.specs.declared.reply.Reply.TheVariants as reply
use Rattle.cc_entry.specs.declared.error.CcError.TheVariants as error
use Rattle.cc_entry.specs.declared.entry.End.TheVariants as how
use Rattle.cc_entry.specs.declared.entry.Entry.{Entry}
use Rattle.cc_entry.specs.declared.entry.Entry.TheVariants as entry
use Rattle.cc_worked.specs.Values.{a, sized, opened, done, answers, refused, read_in, goes_out, begins, ends, fails, synced}

-- a stream of two pages that are dirty
abbrev pub both_dirty : List Entry
both_dirty =
    done 1 2 (call.CopyWrite a 4096 (171 ∷ []))
    ∷ read_in 1 1
    ∷ done 1 1 (call.CopyWrite a 0 (171 ∷ []))
    ∷ read_in 1 0
    ∷ opened 8192 8192
    ∷ []

-- a flush of the first page
abbrev pub first_page : Call
first_page = call.Flush a (Some (record { from = 0; to = 4096 }))

abbrev pub page_is_flushed : List Entry
page_is_flushed = done 1 3 first_page ∷ synced 1 ∷ ends 1 0 ∷ begins 1 0 ∷ []

-- its write fails, and its sync
abbrev pub write_fails : List Entry
write_fails = refused 1 3 first_page (error.WriteFault 0) ∷ fails 1 0 ∷ begins 1 0 ∷ []

abbrev pub sync_fails : List Entry
sync_fails = refused 1 3 first_page (error.WriteFault 0) ∷ entry.Sync 1 0 how.Failed ∷ ends 1 0 ∷ begins 1 0 ∷ []

-- wrong: the other page is written too
abbrev pub other_is_written : List Entry
other_is_written = done 1 3 first_page ∷ synced 1 ∷ ends 1 1 ∷ begins 1 1 ∷ ends 1 0 ∷ begins 1 0 ∷ []

-- wrong: the failed write is another caller's
abbrev pub write_of_another_fails : List Entry
write_of_another_fails = refused 1 3 first_page (error.WriteFault 0) ∷ fails 2 0 ∷ begins 2 0 ∷ []

-- wrong: the page is written again after the sync
abbrev pub written_after_sync : List Entry
written_after_sync = done 1 3 first_page ∷ ends 1 0 ∷ begins 1 0 ∷ synced 1 ∷ ends 1 0 ∷ begins 1 0 ∷ []

-- a purge writes the dirty pages, and takes all out
abbrev pub all_pages : Call
all_pages = call.Purge a None

abbrev pub pages_are_purged : List Entry
pages_are_purged =
    done 1 3 all_pages ∷ goes_out 1 1 ∷ goes_out 1 0 ∷ ends 1 1 ∷ begins 1 1 ∷ ends 1 0 ∷ begins 1 0 ∷ []

-- the second page is mapped, which forbids the purge
abbrev pub second_is_mapped : List Entry
second_is_mapped = answers 1 3 (call.Map a 4096 16) (reply.Hold 1) ∷ both_dirty

abbrev pub purge_is_refused : List Entry
purge_is_refused = refused 1 4 all_pages (error.Held 1) ∷ []

-- wrong: the purge, which is refused from the start, writes the first page before
abbrev pub refused_purge_writes : List Entry
refused_purge_writes = refused 1 4 all_pages (error.Held 1) ∷ ends 1 0 ∷ begins 1 0 ∷ []

-- wrong: the second page goes before the first, and the first goes before the second is written
abbrev pub greatest_goes_first : List Entry
greatest_goes_first =
    done 1 3 all_pages ∷ goes_out 1 0 ∷ goes_out 1 1 ∷ ends 1 1 ∷ begins 1 1 ∷ ends 1 0 ∷ begins 1 0 ∷ []

abbrev pub out_before_all_written : List Entry
out_before_all_written =
    done 1 3 all_pages ∷ goes_out 1 1 ∷ ends 1 1 ∷ begins 1 1 ∷ goes_out 1 0 ∷ ends 1 0 ∷ begins 1 0 ∷ []

-- wrong: a purge of the first page takes the other one out
abbrev pub first_alone : Call
first_alone = call.Purge a (Some (record { from = 0; to = 4096 }))

abbrev pub other_goes_out : List Entry
other_goes_out = done 1 3 first_alone ∷ goes_out 1 1 ∷ []

-- a stream with a log, and a page stamped with LSN 2 after LSN 1
abbrev pub stamped_twice : List Entry
stamped_twice =
    done 1 3 (call.SetDirty 1 (Some 2))
    ∷ done 1 2 (call.SetDirty 1 (Some 1))
    ∷ answers 1 1 (call.PinRead a 0 16 false) (reply.Hold 1)
    ∷ read_in 1 0
    ∷ done 0 2 (call.SetLog a 0)
    ∷ opened 8192 8192
    ∷ []

-- the page is written through its pin after that, and not stamped again
abbrev pub written_again : List Entry
written_again = done 1 4 (call.PinnedWrite 1 0 (171 ∷ [])) ∷ stamped_twice

abbrev pub log_goes_first : List Entry
log_goes_first = done 1 4 first_page ∷ synced 1 ∷ ends 1 0 ∷ begins 1 0 ∷ entry.Flushed 1 0 2 ∷ []

-- the log fails
abbrev pub log_fails : List Entry
log_fails = refused 1 4 first_page (error.LogFault 0) ∷ entry.LogFailed 1 0 ∷ []

-- wrong: the log is flushed to the older stamp
abbrev pub log_goes_short : List Entry
log_goes_short = done 1 4 first_page ∷ synced 1 ∷ ends 1 0 ∷ begins 1 0 ∷ entry.Flushed 1 0 2 ∷ entry.Flushed 1 0 1 ∷ []

-- three blocks, of which two may be mapped: the first two are, and the first is the one that was used last
abbrev pub two_of_three : List Entry
two_of_three =
    answers 1 2 (call.CopyRead a 0 1 true) (reply.Read (90 ∷ []))
    ∷ read_in 1 64
    ∷ answers 1 1 (call.CopyRead a 0 1 true) (reply.Read (90 ∷ []))
    ∷ read_in 1 0
    ∷ done 0 1 (call.Initialise a (sized 786432 786432) 2 false)
    ∷ []

abbrev pub third_block : Call
third_block = call.CopyRead a 524288 1 true

-- the second block goes for the third
abbrev pub second_goes : List Entry
second_goes = answers 1 3 third_block (reply.Read (90 ∷ [])) ∷ read_in 1 128 ∷ goes_out 1 64 ∷ []

-- wrong: the first goes, which was used after it
abbrev pub first_goes : List Entry
first_goes = answers 1 3 third_block (reply.Read (90 ∷ [])) ∷ read_in 1 128 ∷ goes_out 1 0 ∷ []
