-- What is kept of the good syncs of each pass since its last call, and what it stands for.
use Rattle.std.specs.Prelude.{◌≡◌, ℕ, Bool, true, false, not, ◌&&◌, ◌==◌, List, length, map, if◌then◌else◌}
use Rattle.std.specs.declared.option.Option.{Option}
use Rattle.std.specs.declared.option.Option.TheVariants.{Some, None}
use Rattle.std.specs.List.{filter, find, list_any}
use Rattle.std.specs.Option.{option_map}
use Rattle.cc_dirty.specs.declared.row.Row.{Row}
use Rattle.cc_entry.specs.Place.{Page, Range}
use Rattle.cc_entry.specs.declared.entry.Entry.{Entry}
use Rattle.cc_entry.specs.declared.entry.Entry.TheVariants as entry
use Rattle.cc_journal.specs.Since.{is_settled_page}
use Rattle.cc_model.specs.Flushed.{is_flushed, settled_since}
use Rattle.cc_model.specs.History.{history}
use Rattle.cc_model.specs.Passes.{up_to_call}
use Rattle.cc_model.specs.Ranges.{span_has}
use Rattle.cc_model.specs.Sizes.{ended_ok}
use Rattle.cc_world.specs.declared.syncs.Synced.{Synced}

-- These are the pages of a stream that keep a flush of their spans from being settled: of each an unwritten touch came with
-- the pass's last call, or before it.
abbrev pub AreUnsettled : List Entry → ℕ → ℕ → List ℕ → Type 0
AreUnsettled past me s pages =
    (span : Option Range) → settled_since (length (history (up_to_call past me) s)) (history past s) span ≡ not (list_any (span_has span) pages)

-- Whether a flush of a span may be done by a pass that synced the stream well since its last call, these pages being unsettled
-- then, or did not.
abbrev pub may_flush : Option (List ℕ) → Option Range → Bool
may_flush None span = false
may_flush (Some pages) span = not (list_any (span_has span) pages)

abbrev pub IsSynced : List Entry → ℕ → ℕ → Option (List ℕ) → Type 0
IsSynced past me s unsettled = (span : Option Range) → is_flushed past me s span ≡ may_flush unsettled span

-- whether a row is of a pass and a stream
abbrev pub is_sync_row : ℕ → ℕ → Synced → Bool
is_sync_row me s row = row.pass == me && row.stream == s

-- the pages that were unsettled, where the pass synced the stream
abbrev pub unsettled_at : List Synced → ℕ → ℕ → Option (List ℕ)
unsettled_at rows me s = option_map (λ row. row.unsettled.items) (find (is_sync_row me s) rows)

-- the rows stand for a past
abbrev pub SyncsStand : List Entry → List Synced → Type 0
SyncsStand past rows = (me s : ℕ) → IsSynced past me s (unsettled_at rows me s)

-- whether an entry ends what a row says: it is a call of its pass, or a good sync of its stream by the pass
abbrev pub ends_row : Entry → Synced → Bool
ends_row (entry.Call pass nth stream call ended) row = row.pass == pass
ends_row (entry.Sync pass stream how) row = ended_ok how && is_sync_row pass stream row
ends_row other row = false

-- the pass and the stream of a good sync
abbrev pub good_sync : Entry → Option (ℕ × ℕ)
good_sync (entry.Sync pass stream how) = if ended_ok how then Some (pass, stream) else None
good_sync other = None

-- whether an unwritten touch of a page came with a front of the past
abbrev pub is_unsettled : List Entry → List Entry → Page → Bool
is_unsettled front past q = not (is_settled_page (length (history front q.stream)) (history past q.stream) q.page)

-- the pages of a stream of which that is so, by the rows of the dirty page table
abbrev pub unsettled_in : List Entry → List Entry → ℕ → List Row → List ℕ
unsettled_in front past s rows = map (λ row. row.page.page) (filter (λ row. row.page.stream == s && is_unsettled front past row.page) rows)
