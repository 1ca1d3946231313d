-- What an entry does to the touches of a page, and to the pages that were ever touched.
use Rattle.std.specs.Prelude.{◌≡◌, ℕ, ◌+◌, ◌<◌, Bool, true, false, not, List, [], ◌∷◌, ◌++◌, length, take, slice_index, refl}
use Rattle.std.specs.declared.option.Option.{Option}
use Rattle.std.specs.declared.option.Option.TheVariants.{Some}
use Rattle.std.proofs.Common.{ap, sym, ◌∙◌, arith, get_or}
use Rattle.std.proofs.lemmas.List.{take-append-le, length-append, take_all, take_more, nil_from_length}
use Rattle.std.proofs.lemmas.Bool.{lt-ltb}
use Rattle.cc_entry.specs.declared.entry.Entry.{Entry}
use Rattle.cc_events.specs.declared.touching.Touching.{Touching}
use Rattle.cc_events.specs.declared.touching.Touching.TheVariants as touching
use Rattle.cc_model.specs.Numbers.{is_among, is_empty, without}
use Rattle.cc_model.specs.History.{Effect, effect_of, history}
use Rattle.cc_model.specs.Objects.{truncation}
use Rattle.cc_model.specs.Sizes.{Touch}
use Rattle.cc_model.specs.Touches.{touches, size_of}
use Rattle.cc_crash.specs.Effects.{effects, AreSizesOverJournal}
use Rattle.cc_events.specs.Events.{event_of}
use Rattle.cc_events.specs.Touchings.{touching_of, touches_after}
use Rattle.cc_crash.proofs.EffectSteps.{effects_back}
use Rattle.cc_events.proofs.TouchEvents.{touches-event}

-- the entries up to the next one
pub entries_next : (journal : List Entry) (i : ℕ) (entry : Entry) → entry ≡ get_or journal i entry → i < length journal → take (i + 1) journal ≡ take i journal ++ entry ∷ []
entries_next journal i entry is in_range = take_more journal i entry in_range ∙ ap (λ (e : Entry). take i journal ++ e ∷ []) (sym is)

pub touches_back : (journal rest : List Entry) (last : Entry) (s : ℕ) (what : Touching) (ended : Bool) (p : ℕ) → journal ≡ rest ++ last ∷ [] → what ≡ touching_of (event_of (effect_of last s)) (effects rest s) p → touches ended (effects journal s) p ≡ touches_after what ended (effects rest s) p
touches_back journal rest last s what ended p is happens =
    ap (λ (h : List Effect). touches ended h p) (effects_back journal rest last s is)
    ∙ (touches-event (effect_of last s) ended (effects rest s) p
    ∙ ap (λ (w : Touching). touches_after w ended (effects rest s) p) (sym happens))

pub touches_none : (journal : List Entry) (s : ℕ) (ended : Bool) (p : ℕ) → journal ≡ [] → touches ended (effects journal s) p ≡ []
unfolding touches history
touches_none journal s ended p is = rw is refl

-- the sizes of the entries before the last one
pub sizes_back : (sizes : List ℕ) (journal rest : List Entry) (last : Entry) (s : ℕ) → journal ≡ rest ++ last ∷ [] → AreSizesOverJournal sizes journal s → AreSizesOverJournal sizes rest s
sizes_back sizes journal rest last s is are = record {
  long = omega (arith, are.long, ap length is, length-append rest (last ∷ []));
  each = λ i within.
      are.each i (omega (arith, ap length is, length-append rest (last ∷ [])))
      ∙ ap (λ (es : List Entry). size_of (effects es s)) (ap (λ (es : List Entry). take i es) is ∙ take-append-le i rest (last ∷ []) within);
}

pub size_at : (sizes : List ℕ) (rest : List Entry) (s : ℕ) → AreSizesOverJournal sizes rest s → slice_index sizes (length rest) ≡ size_of (effects rest s)
size_at sizes rest s are = are.each (length rest) (omega arith) ∙ ap (λ (es : List Entry). size_of (effects es s)) (take_all (length rest) rest (omega arith))

pub counts : (opened left : List ℕ) (size to object : ℕ) (truncate : Option ℕ) → truncate ≡ Some to → is_among object opened ≡ true → left ≡ without object opened → length left ≡ 0 → to < size → Some to ≡ truncation opened size (record { stream = 0; object = object }) truncate
counts opened left size to object truncate is among rest none below = rw (is, among, ← rest, nil_from_length left none, lt-ltb to size below) refl

pub begins_ended : (ended : Bool) (h : List Effect) (p : ℕ) → ended ≡ true → touches_after touching.Begins ended h p ≡ []
begins_ended ended h p is = rw is refl

pub begins_open : (ended : Bool) (h : List Effect) (p : ℕ) → ended ≡ false → touches_after touching.Begins ended h p ≡ touches ended h p
begins_open ended h p is = rw is refl

-- whether a page has an unwritten touch

pub unwritten_by : (journal rest : List Entry) (last : Entry) (s : ℕ) (what : Touching) (ended : Bool) (p : ℕ) → journal ≡ rest ++ last ∷ [] → what ≡ touching_of (event_of (effect_of last s)) (effects rest s) p → not (is_empty (touches ended (effects journal s) p)) ≡ not (is_empty (touches_after what ended (effects rest s) p))
unwritten_by journal rest last s what ended p is happens = ap (λ (ts : List Touch). not (is_empty ts)) (touches_back journal rest last s what ended p is happens)

pub unwritten_none : (ended : Bool) (journal : List Entry) (s p : ℕ) → journal ≡ [] → not (is_empty (touches ended (effects journal s) p)) ≡ false
unwritten_none ended journal s p is = ap (λ (ts : List Touch). not (is_empty ts)) (touches_none journal s ended p is)
