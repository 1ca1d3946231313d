-- Which refusals each call may answer.
use Rattle.std.specs.Prelude.{ℕ, Bool, true, false, ◌&&◌, ◌==◌, List, [], ◌∷◌}
use Rattle.std.specs.List.{list_any}
use Rattle.cc_entry.specs.declared.call.Call.{Call}
use Rattle.cc_entry.specs.declared.call.Call.TheVariants as call
use Rattle.cc_entry.specs.declared.error.CcError.{CcError}
use Rattle.cc_entry.specs.Errors.{number_of}
use Rattle.cc_entry.specs.declared.entry.Entry.{Entry}
use Rattle.cc_model.specs.Numbers.{is_empty, is_among}
use Rattle.cc_model.specs.History.{history}
use Rattle.cc_model.specs.Holds.{holds_of}
use Rattle.cc_model.specs.Cache.{all_streams}
use Rattle.cc_model.specs.Queries.{refusals_of_query}

-- The numbers of the refusals of a call. The end of a hold has none, nor has a noncached store, whose
-- refusals are told by the end of the write.
abbrev pub refusals_of : Call → List ℕ
refusals_of (call.Initialise file sizes quota temporary) = 13 ∷ 7 ∷ 12 ∷ 19 ∷ []
refusals_of (call.Uninitialise file truncate) = 13 ∷ 1 ∷ 8 ∷ 19 ∷ []
refusals_of (call.CopyRead file at len true) = 13 ∷ 1 ∷ 4 ∷ 10 ∷ 14 ∷ 15 ∷ 16 ∷ 19 ∷ []
refusals_of (call.CopyRead file at len false) = 13 ∷ 1 ∷ 4 ∷ 10 ∷ 11 ∷ 19 ∷ []
refusals_of (call.CopyWrite file at bytes) = 13 ∷ 1 ∷ 4 ∷ 2 ∷ 3 ∷ 10 ∷ 14 ∷ 15 ∷ 16 ∷ 19 ∷ []
refusals_of (call.Zero file span) = 13 ∷ 1 ∷ 4 ∷ 2 ∷ 3 ∷ 10 ∷ 14 ∷ 15 ∷ 16 ∷ 19 ∷ []
refusals_of (call.Map file at len) = 13 ∷ 1 ∷ 5 ∷ 2 ∷ 10 ∷ 14 ∷ 15 ∷ 16 ∷ 19 ∷ []
refusals_of (call.PinRead file at len exclusive) = 13 ∷ 1 ∷ 5 ∷ 2 ∷ 9 ∷ 10 ∷ 14 ∷ 15 ∷ 16 ∷ 19 ∷ []
refusals_of (call.PinMapped hold exclusive) = 13 ∷ 9 ∷ 19 ∷ []
refusals_of (call.PreparePin file at len true exclusive) = 13 ∷ 1 ∷ 5 ∷ 2 ∷ 3 ∷ 9 ∷ 10 ∷ 14 ∷ 15 ∷ 16 ∷ 19 ∷ []
refusals_of (call.PreparePin file at len false exclusive) = 13 ∷ 1 ∷ 5 ∷ 2 ∷ 9 ∷ 10 ∷ 14 ∷ 15 ∷ 16 ∷ 19 ∷ []
refusals_of (call.MappedRead hold at len) = 13 ∷ 19 ∷ []
refusals_of (call.PinnedRead hold at len) = 13 ∷ 19 ∷ []
refusals_of (call.PinnedWrite hold at bytes) = 13 ∷ 3 ∷ 19 ∷ []
refusals_of (call.SetDirty hold lsn) = 13 ∷ 19 ∷ []
refusals_of (call.EndHold hold) = []
refusals_of (call.Repin hold) = 13 ∷ 19 ∷ []
refusals_of (call.MdlRead file at len) = 13 ∷ 1 ∷ 4 ∷ 2 ∷ 10 ∷ 14 ∷ 15 ∷ 16 ∷ 19 ∷ []
refusals_of (call.MdlWrite file at len) = 13 ∷ 1 ∷ 4 ∷ 2 ∷ 10 ∷ 14 ∷ 15 ∷ 16 ∷ 19 ∷ []
refusals_of (call.MdlBytes hold at len) = 13 ∷ 19 ∷ []
refusals_of (call.MdlStore hold at bytes) = 13 ∷ 3 ∷ 19 ∷ []
refusals_of (call.NcRead file page) = 13 ∷ 1 ∷ 4 ∷ 6 ∷ 14 ∷ 15 ∷ 16 ∷ 19 ∷ []
refusals_of (call.NcStore file page bytes) = []
refusals_of (call.NcWrite file page) = 13 ∷ 1 ∷ 4 ∷ 6 ∷ 2 ∷ 3 ∷ 9 ∷ 10 ∷ 15 ∷ 16 ∷ 19 ∷ []
refusals_of (call.SetSizes file allocation size) = 13 ∷ 1 ∷ 7 ∷ 8 ∷ 19 ∷ []
refusals_of (call.Query query) = refusals_of_query query
refusals_of (call.Flush file span) = 13 ∷ 1 ∷ 9 ∷ 15 ∷ 16 ∷ 19 ∷ []
refusals_of (call.Purge file span) = 13 ∷ 1 ∷ 8 ∷ 15 ∷ 16 ∷ 19 ∷ []
refusals_of (call.Discard file span) = 13 ∷ 1 ∷ 8 ∷ 22 ∷ 23 ∷ 19 ∷ []
refusals_of (call.SetLog file handle) = 13 ∷ 1 ∷ 21 ∷ 19 ∷ []
refusals_of (call.SetGranularity file bytes) = 13 ∷ 1 ∷ 20 ∷ 19 ∷ []
refusals_of (call.SetAttributes file no_read_ahead no_write_behind) = 13 ∷ 1 ∷ 19 ∷ []
refusals_of (call.SetThreshold file pages) = 13 ∷ 1 ∷ 19 ∷ []
refusals_of (call.AskAhead file at len) = 13 ∷ 1 ∷ 18 ∷ 19 ∷ []
refusals_of (call.AheadStep request) = 13 ∷ 14 ∷ 15 ∷ 16 ∷ 19 ∷ []

-- whether a call may answer a refusal
abbrev pub may_refuse : Call → CcError → Bool
may_refuse it e = is_among (number_of e) (refusals_of it)

-- whether an open hold owes no set-dirty, so that no entry is reserved for it
abbrev pub owes_nothing : ℕ → List Entry → Bool
owes_nothing id past =
    list_any (λ s. list_any (λ hold. hold.id == id && is_empty hold.owed) (holds_of (history past s))) all_streams

-- whether a call may find no room and no memory at a moment: a set-dirty that its pin owes has its entry
-- reserved
abbrev pub may_want : Call → List Entry → Bool
may_want (call.SetDirty hold lsn) past = owes_nothing hold past
may_want other past = true
