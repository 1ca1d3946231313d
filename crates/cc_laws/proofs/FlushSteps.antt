-- Whether a flush is done, behind each kind of entry: a call of the pass, a good sync of its own, and any other.
use Rattle.std.specs.Prelude.{◌≡◌, ℕ, true, false, ◌==◌, List, ◌∷◌, length, refl}
use Rattle.std.specs.declared.option.Option.{Option}
use Rattle.cc_entry.specs.Place.{Range}
use Rattle.cc_entry.specs.declared.entry.Entry.{Entry}
use Rattle.cc_entry.specs.declared.entry.Entry.TheVariants as entry
use Rattle.cc_entry.specs.declared.entry.End.{End}
use Rattle.cc_model.specs.History.{history}
use Rattle.cc_model.specs.Sizes.{ended_ok}
use Rattle.cc_model.specs.Passes.{is_call_of, up_to_call}
use Rattle.cc_model.specs.Flushed.{settled_since, is_ok_sync_of, synced_after, is_flushed}

pub synced_after-call : (seen : ℕ) (e : Entry) (past : List Entry) (me s : ℕ) (span : Option Range) → is_call_of me e ≡ true → synced_after seen (e ∷ past) me s span ≡ false
unfolding synced_after
synced_after-call seen e past me s span calls = rw (calls, synced_after) refl

pub synced_after-sync : (seen pass stream : ℕ) (how : End) (past : List Entry) (me s : ℕ) (span : Option Range) → (pass == me) ≡ true → (stream == s) ≡ true → ended_ok how ≡ true → settled_since seen (history past s) span ≡ true → synced_after seen (entry.Sync pass stream how ∷ past) me s span ≡ true
unfolding synced_after
synced_after-sync seen pass stream how past me s span same same_stream good settled = rw (same, same_stream, good, settled, synced_after) refl

pub synced_after-other : (seen : ℕ) (e : Entry) (past : List Entry) (me s : ℕ) (span : Option Range) → is_call_of me e ≡ false → is_ok_sync_of me s e ≡ false → synced_after seen (e ∷ past) me s span ≡ synced_after seen past me s span
unfolding synced_after
synced_after-other seen e past me s span goes_on no_sync = rw (goes_on, no_sync, synced_after) refl

-- a flush that has just begun is done when a good sync stands after its last call
pub is_flushed-synced_after : (past : List Entry) (me s : ℕ) (span : Option Range) → is_flushed past me s span ≡ synced_after (length (history (up_to_call past me) s)) past me s span
unfolding is_flushed
is_flushed-synced_after past me s span = refl
