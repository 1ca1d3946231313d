-- What an event does to what is read of a stream.
use Rattle.std.specs.Prelude.{◌≡◌, ℕ, ◌+◌, ◌<◌, List, [], ◌∷◌, ◌++◌, length, reverse, take, refl}
use Rattle.std.specs.List.{cons_option}
use Rattle.std.proofs.Common.{ap, sym, ◌∙◌, get_or}
use Rattle.std.proofs.lemmas.List.{reverse-append, take_more}
use Rattle.cc_entry.specs.declared.entry.Entry.{Entry}
use Rattle.cc_events.specs.declared.event.StreamEvent.{StreamEvent}
use Rattle.cc_model.specs.History.{effect_of, history}
use Rattle.cc_model.specs.Objects.{objects}
use Rattle.cc_crash.specs.Effects.{effects}
use Rattle.cc_events.specs.Events.{event_of, objects_after}
use Rattle.cc_events.proofs.ObjectEvents.{objects-event}

pub history-back : (rest : List Entry) (last : Entry) (s : ℕ) → history (reverse (rest ++ last ∷ [])) s ≡ cons_option (effect_of last s) (history (reverse rest) s)
unfolding history
history-back rest last s = rw reverse-append refl

pub effects_back : (journal rest : List Entry) (last : Entry) (s : ℕ) → journal ≡ rest ++ last ∷ [] → effects journal s ≡ cons_option (effect_of last s) (effects rest s)
effects_back journal rest last s is = rw is (history-back rest last s)

pub effects_more : (journal : List Entry) (i : ℕ) (d : Entry) (s : ℕ) → i < length journal → effects (take (i + 1) journal) s ≡ cons_option (effect_of (get_or journal i d) s) (effects (take i journal) s)
effects_more journal i d s in_range = ap (λ (es : List Entry). history (reverse es) s) (take_more journal i d in_range) ∙ history-back (take i journal) (get_or journal i d) s

pub objects_more : (journal : List Entry) (i : ℕ) (d : Entry) (s : ℕ) → i < length journal → objects (effects (take (i + 1) journal) s) ≡ objects_after (event_of (effect_of (get_or journal i d) s)) (objects (effects (take i journal) s))
objects_more journal i d s in_range = ap objects (effects_more journal i d s in_range) ∙ objects-event (effect_of (get_or journal i d) s) (effects (take i journal) s)

pub objects_next : (journal : List Entry) (i : ℕ) (item : Entry) (s : ℕ) (what : StreamEvent) (before : List ℕ) → item ≡ get_or journal i item → i < length journal → what ≡ event_of (effect_of item s) → before ≡ objects (effects (take i journal) s) → objects_after what before ≡ objects (effects (take (i + 1) journal) s)
objects_next journal i item s what before is in_range happens was =
    ap (λ (e : StreamEvent). objects_after e before) happens
    ∙ (ap (λ (x : Entry). objects_after (event_of (effect_of x s)) before) is
    ∙ (ap (λ (b : List ℕ). objects_after (event_of (effect_of (get_or journal i item) s)) b) was
    ∙ sym (objects_more journal i item s in_range)))
