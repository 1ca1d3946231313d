-- An entry that begins and ends no transfer of a stream leaves the one that is open.
use Rattle.std.specs.Prelude.{◌≡◌, ℕ, Bool, true, false, not, ◌==◌, List, ◌∷◌, refl, if◌then◌else◌}
use Rattle.std.specs.declared.option.Option.TheVariants.{Some, None}
use Rattle.std.specs.List.{cons_option}
use Rattle.std.proofs.Common.{ap, ◌∙◌}
use Rattle.cc_entry.specs.declared.entry.Entry.{Entry}
use Rattle.cc_entry.specs.declared.entry.Entry.TheVariants as entry
use Rattle.cc_entry.specs.declared.reply.Outcome.TheVariants as outcome
use Rattle.cc_laws.proofs.HistorySteps.{history-effect}
use Rattle.cc_laws.proofs.ImageSteps.{open_of-came_in, open_of-done, open_of-synced, open_of-went_out}
use Rattle.cc_model.specs.History.{Effect, Did, CameIn, WentOut, Synced, effect_of, history}
use Rattle.cc_model.specs.Images.{open_of}

-- whether an entry begins and ends no transfer of the stream
abbrev pub leaves_open : ℕ → Entry → Bool
leaves_open s (entry.WriteBegin pass page) = not (page.stream == s)
leaves_open s (entry.WriteEnd pass page how) = not (page.stream == s)
leaves_open s other = true

maybe : (b : Bool) (effect : Effect) (h : List Effect) → open_of (effect ∷ h) ≡ open_of h → open_of (cons_option (if b then Some effect else None) h) ≡ open_of h
maybe true effect h same = same
maybe false effect h same = refl

apart : (b : Bool) → not b ≡ true → b ≡ false
apart false is = refl
apart true is = absurd (cc)

by-effect : (e : Entry) (s : ℕ) (h : List Effect) → leaves_open s e ≡ true → open_of (cons_option (effect_of e s) h) ≡ open_of h
by-effect (entry.Call pass nth (Some stream) call (outcome.Done reply)) s h left =
    maybe (stream == s) (Did pass call reply) h (open_of-done pass call reply h)
by-effect (entry.Call pass nth (Some stream) call (outcome.Failed e)) s h left = refl
by-effect (entry.Call pass nth None call ended) s h left = refl
by-effect (entry.PageIn pass page from_disk) s h left =
    maybe (page.stream == s) (CameIn pass page.page from_disk) h (open_of-came_in pass page.page from_disk h)
by-effect (entry.PageOut pass page) s h left = maybe (page.stream == s) (WentOut pass page.page) h (open_of-went_out pass page.page h)
by-effect (entry.FillFailed pass page) s h left = refl
by-effect (entry.WriteBegin pass page) s h left = rw (apart (page.stream == s) left) refl
by-effect (entry.WriteEnd pass page how) s h left = rw (apart (page.stream == s) left) refl
by-effect (entry.Sync pass stream how) s h left = maybe (stream == s) (Synced pass how) h (open_of-synced pass how h)
by-effect (entry.Append pass handle lsn bytes) s h left = refl
by-effect (entry.Flushed pass handle to) s h left = refl
by-effect (entry.LogFailed pass handle) s h left = refl
by-effect (entry.Defer pass id file pages retrying) s h left = refl
by-effect (entry.Posted id) s h left = refl
by-effect (entry.Scan pass picked) s h left = refl
by-effect (entry.Record pass stream size valid how) s h left = refl
by-effect (entry.RecordFailed pass stream) s h left = refl
by-effect (entry.Locked pass file span exclusive granted id) s h left = refl
by-effect (entry.Unlocked pass file id gone) s h left = refl
by-effect (entry.Tested pass file span write conflict) s h left = refl

pub open-kept : (e : Entry) (past : List Entry) (s : ℕ) → leaves_open s e ≡ true → open_of (history (e ∷ past) s) ≡ open_of (history past s)
open-kept e past s left = ap open_of (history-effect e past s (effect_of e s) refl) ∙ by-effect e s (history past s) left
