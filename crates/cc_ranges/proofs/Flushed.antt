-- When a flush may be done: behind its last call it synced well, with its span settled.
use Rattle.std.specs.Prelude.{◌≡◌, ℕ, ◌≤◌, Bool, true, false, ◌==◌, List, [], ◌∷◌, ◌++◌, length, refl}
use Rattle.std.specs.declared.option.Option.{Option}
use Rattle.std.proofs.Common.{ap, ◌∙◌, arith, append_assoc}
use Rattle.std.proofs.lemmas.Bool.{eq-eqb}
use Rattle.cc_entry.specs.Place.{Range}
use Rattle.cc_entry.specs.declared.call.Call.{Call}
use Rattle.cc_entry.specs.declared.entry.Entry.{Entry}
use Rattle.cc_entry.specs.declared.entry.Entry.TheVariants as entry
use Rattle.cc_entry.specs.declared.entry.End.TheVariants as how
use Rattle.cc_model.specs.History.{history}
use Rattle.cc_model.specs.Passes.{is_mine, is_call_of, up_to_call}
use Rattle.cc_model.specs.Flushed.{is_ok_sync_of, synced_after, is_flushed}
use Rattle.cc_laws.proofs.PassSteps.{up_to_call-other}
use Rattle.cc_laws.proofs.FlushSteps.{synced_after-sync, synced_after-other, is_flushed-synced_after}
use Rattle.cc_effects.specs.Moments.{Others, EachOwn}
use Rattle.cc_effects.specs.Asked.{Work, Calls}
use Rattle.cc_effects.specs.Places.{MayPlace, Works}
use Rattle.cc_effects.specs.Calls.{IsSynced}
use Rattle.cc_ranges.proofs.Settling.{history-longer, settled_since-fewer}

-- an entry of another pass is no call of this one, and no sync of it
no_call-other : (me : ℕ) (e : Entry) → is_mine me e ≡ false → is_call_of me e ≡ false
no_call-other me (entry.Call pass nth stream call ended) other = other
no_call-other me e other = refl

no_sync-other : (me s : ℕ) (e : Entry) → is_mine me e ≡ false → is_ok_sync_of me s e ≡ false
no_sync-other me s (entry.Sync pass stream how) other = rw other refl
no_sync-other me s e other = refl

-- an entry that a pass may place before its call's own one is no call
pub no_call-placed : (me : ℕ) (work : Work) (old past : List Entry) (e : Entry) → (is_mine me e ≡ true → MayPlace me work old past e) → is_call_of me e ≡ false
no_call-placed me work old past (entry.Call pass nth stream call ended) may = go (pass == me) may
  where
    go : (b : Bool) → (b ≡ true → ⊥) → b ≡ false
    go true none = absurd (none refl)
    go false none = refl
no_call-placed me work old past e may = refl

-- so while it works its last call is what it was
pub up_to_call-works : (me : ℕ) (work : Work) (old during begun : List Entry) → EachOwn me (MayPlace me work old) during begun → up_to_call (during ++ begun) me ≡ up_to_call begun me
up_to_call-works me work old [] begun each = refl
up_to_call-works me work old (e ∷ during) begun each =
    up_to_call-other e (during ++ begun) me (no_call-placed me work old (during ++ begun) e each.0)
    ∙ up_to_call-works me work old during begun each.1

-- up to its last call a stream had no more effects than it has
history-to_call : (past : List Entry) (me s : ℕ) → length (history (up_to_call past me) s) ≤ length (history past s)
unfolding up_to_call
history-to_call [] me s = omega arith
history-to_call (e ∷ past) me s = go (is_call_of me e) (history-to_call past me s)
  where
    go : (b : Bool) → length (history (up_to_call past me) s) ≤ length (history past s) → length (history (elim b as (λ x. List Entry) [ true ↦ e ∷ past | false ↦ up_to_call past me ]) s) ≤ length (history (e ∷ past) s)
    go true rest = omega arith
    go false rest = let longer = history-longer (e ∷ []) past s in omega (arith, rest, longer)

-- what others placed after a sync leaves it the last
synced_after-others : (seen : ℕ) (after past : List Entry) (me s : ℕ) (span : Option Range) → Others me after → synced_after seen (after ++ past) me s span ≡ synced_after seen past me s span
synced_after-others seen [] past me s span others = refl
synced_after-others seen (e ∷ after) past me s span others =
    synced_after-other seen e (after ++ past) me s span (no_call-other me e others.0) (no_sync-other me s e others.0)
    ∙ synced_after-others seen after past me s span others.1

-- A flush may be done where its pass worked for it since `begun`, and synced well with its span settled.
pub is_flushed-synced : (me s : ℕ) (it : Call) (span : Option Range) (during begun new : List Entry) → new ≡ during ++ begun → Works me (Calls it) during begun → IsSynced me s span during begun → is_flushed new me s span ≡ true
is_flushed-synced me s it span during begun new grew works synced =
    ap (λ past. is_flushed past me s span) grew
    ∙ (is_flushed-synced_after (during ++ begun) me s span
    ∙ (ap (λ past. synced_after (length (history past s)) (during ++ begun) me s span) (up_to_call-works me (Calls it) begun during begun works.each)
    ∙ (ap (λ past. synced_after seen past me s span) split
    ∙ (synced_after-others seen synced.after (entry.Sync me s how.Good ∷ (synced.before ++ begun)) me s span synced.quiet
    ∙ synced_after-sync seen me s how.Good (synced.before ++ begun) me s span (eq-eqb me me refl) (eq-eqb s s refl) refl
    (settled_since-fewer (length (history begun s)) seen (history (synced.before ++ begun) s) span (history-to_call begun me s) synced.settled)))))
  where
    seen : ℕ
    seen = length (history (up_to_call begun me) s)

    split : during ++ begun ≡ synced.after ++ entry.Sync me s how.Good ∷ (synced.before ++ begun)
    split = ap (λ l. l ++ begun) synced.split ∙ append_assoc synced.after (entry.Sync me s how.Good ∷ synced.before) begun
