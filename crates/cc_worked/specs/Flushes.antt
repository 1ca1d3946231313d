-- Flushes beside changes, pins and other spans.
use Rattle.std.specs.Prelude.{ℕ, List, [], ◌∷◌, ◌++◌, true, false, reverse}
use Rattle.std.specs.declared.option.Option.TheVariants.{Some, None}
use Rattle.cc_entry.specs.Place.{Range}
use Rattle.cc_entry.specs.declared.call.Call.TheVariants as call
use Rattle.cc_entry.specs.declared.reply.Reply.TheVariants as reply
use Rattle.cc_entry.specs.declared.error.CcError.{CcError}
use Rattle.cc_entry.specs.declared.error.CcError.TheVariants as error
use Rattle.cc_entry.specs.declared.entry.End.TheVariants as how
use Rattle.cc_entry.specs.declared.entry.Entry.{Entry}
use Rattle.cc_entry.specs.declared.entry.Entry.TheVariants as entry
use Rattle.cc_worked.specs.Values.{a, opened, done, answers, refused, dirty_is, read_in, written, synced}

-- A caller writes its change; before its sync another caller changes the page again.
abbrev pub changed_before_sync : List Entry
changed_before_sync =
    opened 8192 8192
    ∷ read_in 1 0
    ∷ done 1 1 (call.CopyWrite a 0 (171 ∷ []))
    ∷ written 1 0
    ++ done 2 1 (call.CopyWrite a 0 (205 ∷ []))
    ∷ synced 1
    ∷ []

-- the flush is done: the later change came after the caller's last call
abbrev pub later_change_left : List Entry
later_change_left = reverse (changed_before_sync ++ done 1 2 (call.Flush a None) ∷ dirty_is 1 3 true ∷ [])

-- the caller's last call comes after the other's change, and a sync after it
abbrev pub change_seen : List Entry
change_seen = changed_before_sync ++ dirty_is 1 2 true ∷ synced 1 ∷ []

abbrev pub synced_after_call : List Entry
synced_after_call = reverse change_seen

-- wrong: the flush is done by that sync
abbrev pub seen_change_left : List Entry
seen_change_left = reverse (change_seen ++ done 1 3 (call.Flush a None) ∷ [])

-- a page is written, and the disk synced by another caller, or the disk of another stream
abbrev pub written_unsynced : List Entry
written_unsynced = opened 8192 8192 ∷ read_in 1 0 ∷ done 1 1 (call.CopyWrite a 0 (171 ∷ [])) ∷ written 1 0

abbrev pub other_syncs : List Entry
other_syncs = reverse (written_unsynced ++ synced 2 ∷ entry.Sync 1 1 how.Good ∷ [])

-- wrong: the flush is done by these
abbrev pub flush_by_other_syncs : List Entry
flush_by_other_syncs = done 1 2 (call.Flush a None) ∷ other_syncs

-- a change over the boundary of two pages, of which the second is written
abbrev pub half_written : List Entry
half_written =
    opened 8192 8192
    ∷ read_in 1 0
    ∷ read_in 1 1
    ∷ done 1 1 (call.CopyWrite a 4095 (171 ∷ 205 ∷ []))
    ∷ written 1 1
    ++ synced 1
    ∷ []

abbrev pub second_page : Range
second_page = record { from = 4096; to = 8192 }

-- a flush of that page alone is done
abbrev pub span_flushed : List Entry
span_flushed = reverse (half_written ++ done 1 2 (call.Flush a (Some second_page)) ∷ dirty_is 1 3 true ∷ [])

-- wrong: a flush of the whole stream is done
abbrev pub half_flushed : List Entry
half_flushed = reverse (half_written ++ done 1 2 (call.Flush a None) ∷ [])

-- a pin changes the first page and ends without a stamp
abbrev pub pinned : List Entry
pinned =
    opened 8192 8192
    ∷ done 0 2 (call.SetLog a 0)
    ∷ read_in 1 0
    ∷ answers 1 1 (call.PinRead a 0 16 false) (reply.Hold 1)
    ∷ done 1 2 (call.PinnedWrite 1 0 (171 ∷ []))
    ∷ []

-- while the pin owes its stamp, a flush of another page is done
abbrev pub flushed_beside_pin : List Entry
flushed_beside_pin = reverse (pinned ++ synced 1 ∷ done 1 3 (call.Flush a (Some second_page)) ∷ [])

-- wrong: the pin bars it
abbrev pub barred_beside_pin : List Entry
barred_beside_pin = reverse (pinned ++ synced 1 ∷ refused 1 3 (call.Flush a (Some second_page)) (error.Busy 1) ∷ [])

-- a page that no pin owes a stamp any more, and that has none, goes without its log
abbrev pub unstamped_written : List Entry
unstamped_written = reverse (pinned ++ done 1 3 (call.EndHold 1) ∷ written 1 0 ++ synced 1 ∷ done 1 4 (call.Flush a None) ∷ [])

-- a failed sync of a flush of the third page is told of that page
abbrev pub sync_fault_of : ℕ → List Entry
sync_fault_of p =
    reverse (
    opened 16384 16384
    ∷ entry.Sync 1 0 how.Failed
    ∷ refused 1 1 (call.Flush a (Some (record { from = 8192; to = 8192 }))) (error.WriteFault p)
    ∷ [])

-- The first pin owes its stamp to the second page, the second and the third one theirs to the first.
abbrev pub three_owe : List Entry
three_owe =
    opened 8192 8192
    ∷ read_in 1 0
    ∷ read_in 1 1
    ∷ answers 1 1 (call.PinRead a 4096 16 false) (reply.Hold 1)
    ∷ answers 1 2 (call.PinRead a 0 16 false) (reply.Hold 2)
    ∷ answers 2 1 (call.PinRead a 8 16 false) (reply.Hold 3)
    ∷ done 1 3 (call.PinnedWrite 1 4096 (171 ∷ []))
    ∷ done 2 2 (call.PinnedWrite 3 8 (171 ∷ []))
    ∷ done 1 4 (call.PinnedWrite 2 0 (171 ∷ []))
    ∷ []

-- a flush of both pages is told the least pin of the first, one of the second page the pin of that
abbrev pub least_page_told : List Entry
least_page_told =
    reverse (
    three_owe
    ++ refused 3 1 (call.Flush a None) (error.Busy 2)
    ∷ refused 3 2 (call.Flush a (Some second_page)) (error.Busy 1)
    ∷ [])

-- wrong: it is told the least pin of all, or a later pin of the first page
abbrev pub another_told : CcError → List Entry
another_told cause = reverse (three_owe ++ refused 3 1 (call.Flush a None) cause ∷ [])
