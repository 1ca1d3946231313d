-- What a flush has to have done before it may answer.
use Rattle.std.specs.Prelude.{ℕ, Bool, true, false, not, ◌&&◌, ◌||◌, ◌==◌, nat_lt, List, [], ◌∷◌, length}
use Rattle.std.specs.declared.option.Option.{Option}
use Rattle.std.specs.List.{list_all}
use Rattle.cc_entry.specs.Place.{Range}
use Rattle.cc_entry.specs.declared.entry.Entry.{Entry}
use Rattle.cc_entry.specs.declared.entry.Entry.TheVariants as entry
use Rattle.cc_model.specs.History.{Effect, history}
use Rattle.cc_model.specs.Touches.{unwritten, dirty_pages}
use Rattle.cc_model.specs.Sizes.{ended_ok}
use Rattle.cc_model.specs.Ranges.{span_has}
use Rattle.cc_model.specs.Passes.{is_call_of, up_to_call}

-- whether each unwritten touch of a page of the span came after so many effects of the stream
abbrev pub settled_since : ℕ → List Effect → Option Range → Bool
settled_since seen h span =
    list_all (λ p. not (span_has span p) || list_all (λ touch. nat_lt seen touch.place) (unwritten h p)) (dirty_pages h)

-- whether an entry is a good sync of the stream by the pass
abbrev pub is_ok_sync_of : ℕ → ℕ → Entry → Bool
is_ok_sync_of me s (entry.Sync pass stream how) = pass == me && (stream == s && ended_ok how)
is_ok_sync_of me s other = false

-- whether there is, after the pass's last call, a good sync at which each unwritten touch of the span
-- was later than so many effects of the stream
unfoldable pub synced_after : ℕ → List Entry → ℕ → ℕ → Option Range → Bool
synced_after seen [] me s span = false
synced_after seen (e ∷ past) me s span =
    elim (is_call_of me e) [
      | true ↦ false
      | false ↦ (is_ok_sync_of me s e && settled_since seen (history past s) span) || synced_after seen past me s span
    ]

-- Whether a flush by the pass may be done: after its last call there is a good sync of its stream at
-- which each touch of a page of the span that is neither written nor cut is later than that call
-- (CcFlushCache).
unfoldable pub is_flushed : List Entry → ℕ → ℕ → Option Range → Bool
is_flushed past me s span = synced_after (length (history (up_to_call past me) s)) past me s span
