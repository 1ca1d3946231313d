-- What a journal owes to entries that have to find a place, before an entry and after it.
use Rattle.std.specs.Prelude.{◌≡◌, ℕ, Bool, true, false, ◌==◌, List, [], ◌∷◌, refl, if◌then◌else◌}
use Rattle.std.specs.declared.option.Option.TheVariants.{Some, None}
use Rattle.std.specs.List.{cons_option, sum_by}
use Rattle.std.proofs.Common.{ap, sym, ◌∙◌}
use Rattle.std.proofs.lemmas.List.Sums.{sum_by-cons}
use Rattle.cc_entry.specs.declared.entry.Entry.{Entry}
use Rattle.cc_entry.specs.declared.entry.Entry.TheVariants as entry
use Rattle.cc_laws.proofs.HistorySteps.{history-effect}
use Rattle.cc_laws.proofs.HoldSteps.{holds_of-came_in, holds_of-went_out, holds_of-synced}
use Rattle.cc_laws.proofs.ImageSteps.{open_of-came_in, open_of-went_out, open_of-synced}
use Rattle.cc_model.specs.Cache.{all_streams}
use Rattle.cc_model.specs.History.{Effect, CameIn, WentOut, Synced, effect_of, history}
use Rattle.cc_model.specs.Room.{owed_by_stream, stores_unfinished, reserved_in}

-- whether an entry is neither of a call nor of a page's transfer
abbrev pub owes_nothing : Entry → Bool
owes_nothing (entry.Call pass nth stream call ended) = false
owes_nothing (entry.WriteBegin pass page) = false
owes_nothing (entry.WriteEnd pass page how) = false
owes_nothing other = true

sum-same : (f g : ℕ → ℕ) (ns : List ℕ) → ((n : ℕ) → f n ≡ g n) → sum_by f ns ≡ sum_by g ns
sum-same f g [] same = refl
sum-same f g (n ∷ ns) same = sum_by-cons f n ns ∙ rw (same n, sum-same f g ns same) (sym (sum_by-cons g n ns))

maybe : (b : Bool) (effect : Effect) (h : List Effect) → owed_by_stream (effect ∷ h) ≡ owed_by_stream h → owed_by_stream (cons_option (if b then Some effect else None) h) ≡ owed_by_stream h
maybe true effect h same = same
maybe false effect h same = refl

by-effect : (e : Entry) (past : List Entry) (s : ℕ) → owes_nothing e ≡ true → owed_by_stream (cons_option (effect_of e s) (history past s)) ≡ owed_by_stream (history past s)
by-effect (entry.Call pass nth stream call ended) past s plain = absurd (cc)
by-effect (entry.PageIn pass page from_disk) past s plain =
    let h = history past s in
    maybe (page.stream == s) (CameIn pass page.page from_disk) h (rw (holds_of-came_in pass page.page from_disk h, open_of-came_in pass page.page from_disk h) refl)
by-effect (entry.PageOut pass page) past s plain =
    let h = history past s in
    maybe (page.stream == s) (WentOut pass page.page) h (rw (holds_of-went_out pass page.page h, open_of-went_out pass page.page h) refl)
by-effect (entry.FillFailed pass page) past s plain = refl
by-effect (entry.WriteBegin pass page) past s plain = absurd (cc)
by-effect (entry.WriteEnd pass page how) past s plain = absurd (cc)
by-effect (entry.Sync pass stream how) past s plain =
    let h = history past s in
    maybe (stream == s) (Synced pass how) h (rw (holds_of-synced pass how h, open_of-synced pass how h) refl)
by-effect (entry.Append pass handle lsn bytes) past s plain = refl
by-effect (entry.Flushed pass handle to) past s plain = refl
by-effect (entry.LogFailed pass handle) past s plain = refl
by-effect (entry.Defer pass id file pages retrying) past s plain = refl
by-effect (entry.Posted id) past s plain = refl
by-effect (entry.Scan pass picked) past s plain = refl
by-effect (entry.Record pass stream size valid how) past s plain = refl
by-effect (entry.RecordFailed pass stream) past s plain = refl
by-effect (entry.Locked pass file span exclusive granted id) past s plain = refl
by-effect (entry.Unlocked pass file id gone) past s plain = refl
by-effect (entry.Tested pass file span write conflict) past s plain = refl

owed-same : (e : Entry) (past : List Entry) (s : ℕ) → owes_nothing e ≡ true → owed_by_stream (history (e ∷ past) s) ≡ owed_by_stream (history past s)
owed-same e past s plain = ap owed_by_stream (history-effect e past s (effect_of e s) refl) ∙ by-effect e past s plain

stores-same : (e : Entry) (past : List Entry) → owes_nothing e ≡ true → stores_unfinished [] (e ∷ past) ≡ stores_unfinished [] past
unfolding stores_unfinished
stores-same (entry.Call pass nth stream call ended) past plain = absurd (cc)
stores-same other past plain = refl

-- an entry of neither leaves what is owed
pub reserved-same : (e : Entry) (past : List Entry) → owes_nothing e ≡ true → reserved_in (e ∷ past) ≡ reserved_in past
unfolding reserved_in
reserved-same e past plain =
    rw (sum-same (λ s. owed_by_stream (history (e ∷ past) s)) (λ s. owed_by_stream (history past s)) all_streams (λ s. owed-same e past s plain), stores-same e past plain) refl
