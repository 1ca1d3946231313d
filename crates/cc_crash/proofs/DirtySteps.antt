-- The pages that were ever touched, after an entry.
use Rattle.std.specs.Prelude.{◌≡◌, ℕ, ◌+◌, ◌<◌, List, [], ◌∷◌, ◌++◌, length, take, refl}
use Rattle.std.proofs.Common.{ap, sym, ◌∙◌, get_or}
use Rattle.cc_entry.specs.declared.entry.Entry.{Entry}
use Rattle.cc_model.specs.History.{effect_of, history}
use Rattle.cc_model.specs.Touches.{touched}
use Rattle.cc_crash.specs.Effects.{effects}
use Rattle.cc_events.specs.Events.{event_on, touched_pages}
use Rattle.cc_crash.proofs.EffectSteps.{effects_back}
use Rattle.cc_crash.proofs.TouchSteps.{entries_next}
use Rattle.cc_events.proofs.TouchedEvents.{touched-event}

pub touched_back : (journal rest : List Entry) (last : Entry) (s : ℕ) → journal ≡ rest ++ last ∷ [] → touched (effects journal s) ≡ touched_pages (event_on last s) (effects rest s) ++ touched (effects rest s)
touched_back journal rest last s is = ap touched (effects_back journal rest last s is) ∙ touched-event (effect_of last s) (effects rest s)

pub touched_none : (journal : List Entry) (s : ℕ) → journal ≡ [] → touched (effects journal s) ≡ []
unfolding touched history
touched_none journal s is = rw is refl

pub touched_next : (journal : List Entry) (i : ℕ) (entry : Entry) (s : ℕ) (before now : List ℕ) → entry ≡ get_or journal i entry → i < length journal → before ≡ touched (effects (take i journal) s) → now ≡ touched_pages (event_on entry s) (effects (take i journal) s) ++ before → now ≡ touched (effects (take (i + 1) journal) s)
touched_next journal i entry s before now is in_range was more =
    more
    ∙ (ap (λ (ps : List ℕ). touched_pages (event_on entry s) (effects (take i journal) s) ++ ps) was
    ∙ sym (touched_back (take (i + 1) journal) (take i journal) entry s (entries_next journal i entry is in_range)))
