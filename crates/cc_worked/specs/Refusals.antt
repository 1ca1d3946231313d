-- The order of refusals, and calls that need no page.
use Rattle.std.specs.Prelude.{List, [], ◌∷◌, true, false, reverse}
use Rattle.std.specs.declared.option.Option.TheVariants.{None}
use Rattle.cc_entry.specs.declared.call.Call.{Call}
use Rattle.cc_entry.specs.declared.call.Call.TheVariants as call
use Rattle.cc_entry.specs.declared.query.Query.TheVariants as query
use Rattle.cc_entry.specs.declared.reply.Reply.TheVariants as reply
use Rattle.cc_entry.specs.declared.reply.Outcome.TheVariants as outcome
use Rattle.cc_entry.specs.declared.error.CcError.{CcError}
use Rattle.cc_entry.specs.declared.error.CcError.TheVariants as error
use Rattle.cc_entry.specs.declared.entry.Entry.{Entry}
use Rattle.cc_entry.specs.declared.entry.Entry.TheVariants as entry
use Rattle.cc_worked.specs.Values.{a, second, opened, done, answers, refused, dirty_is}

-- what is refused for several reasons is told the first of them
abbrev pub first_reasons : List Entry
first_reasons =
    reverse (
    opened 8192 5000
    ∷ refused 1 1 (call.CopyRead second 0 1048577 true) error.NotCached
    ∷ refused 1 2 (call.Zero a (record { from = 8192; to = 2097152 })) (error.TooLong 1048576)
    ∷ refused 1 3 (call.Map a 262143 2) error.ViewBoundary
    ∷ refused 1 4 (call.PreparePin a 8192 1 true true) (error.BeyondSize 8192)
    ∷ refused 1 5 (call.PreparePin a 6000 1 true true) (error.BeyondValid 5000)
    ∷ refused 1 6 (call.SetSizes a 8 9) error.BadSizes
    ∷ refused 1 7 (call.SetLog a 4) (error.NoLog 4)
    ∷ entry.Call 1 8 None (call.Query (query.DirtyPages 4)) (outcome.Failed (error.NoLog 4))
    ∷ [])

-- wrong: a later reason is told
abbrev pub later_reason : Call → CcError → List Entry
later_reason it cause = reverse (opened 8192 5000 ∷ refused 1 1 it cause ∷ [])

-- reads of no byte and past the size need no page, also where they may not wait
abbrev pub no_page_needed : List Entry
no_page_needed =
    reverse (
    opened 8192 8192
    ∷ answers 1 1 (call.CopyRead a 0 0 false) (reply.Read [])
    ∷ answers 1 2 (call.CopyRead a 8192 1 false) (reply.Read [])
    ∷ answers 1 3 (call.NcRead a 2) (reply.Read [])
    ∷ done 1 4 (call.CopyWrite a 8192 [])
    ∷ done 1 5 (call.Zero a (record { from = 100; to = 100 }))
    ∷ dirty_is 1 6 false
    ∷ [])

-- a noncached call of a wrong shape is told so where its object is cached, and else that it is not
abbrev pub shapes : List Entry
shapes =
    reverse (
    opened 8192 8192
    ∷ refused 1 1 (call.NcRead a 0) (error.TooLong 65536)
    ∷ refused 1 2 (call.NcWrite a 1) error.Unaligned
    ∷ refused 1 3 (call.NcRead second 0) error.NotCached
    ∷ [])

-- wrong: the limit is that of copies, or the object is not cached
abbrev pub wrong_limit : List Entry
wrong_limit = reverse (opened 8192 8192 ∷ refused 1 1 (call.NcRead a 0) (error.TooLong 1048576) ∷ [])

abbrev pub shape_not_cached : List Entry
shape_not_cached = reverse (opened 8192 8192 ∷ refused 1 1 (call.NcRead second 0) error.Unaligned ∷ [])

-- wrong: want of memory, or of room in the journal, is told in the journal
abbrev pub memory_told : List Entry
memory_told = reverse (opened 8192 8192 ∷ refused 1 1 (call.CopyRead a 0 1 true) error.NoMemory ∷ [])

abbrev pub full_told : List Entry
full_told = reverse (opened 8192 8192 ∷ refused 1 1 (call.CopyRead a 0 1 true) (error.JournalFull 64) ∷ [])
