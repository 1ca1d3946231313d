-- The sizes of a stream after an entry.
use Rattle.std.specs.Prelude.{◌≡◌, ℕ, ◌+◌, ◌<◌, ◌≤◌, Bool, true, false, nat_le, List, [], ◌∷◌, ◌++◌, length, take, slice_index, refl}
use Rattle.std.proofs.Common.{ap, sym, ◌∙◌, arith, get_or, subst}
use Rattle.std.proofs.lemmas.Bool.{leb-true, leb-false}
use Rattle.std.proofs.lemmas.List.{take-append-le, length-append, length-take, take_all, get_or_append_left, get_or_push}
use Rattle.cc_entry.specs.declared.entry.Entry.{Entry}
use Rattle.cc_model.specs.History.{effect_of, history}
use Rattle.cc_model.specs.Touches.{sizes, size_of, valid_of}
use Rattle.cc_crash.specs.Effects.{effects, AreSizesOverJournal}
use Rattle.cc_events.specs.Events.{event_of, size_after, valid_after}
use Rattle.cc_crash.proofs.EffectSteps.{effects_back}
use Rattle.cc_crash.proofs.TouchSteps.{entries_next}
use Rattle.cc_events.proofs.SizeEvents.{size-event, valid-event}

pub size_back : (journal rest : List Entry) (last : Entry) (s : ℕ) → journal ≡ rest ++ last ∷ [] → size_of (effects journal s) ≡ size_after (event_of (effect_of last s)) (effects rest s)
size_back journal rest last s is = ap size_of (effects_back journal rest last s is) ∙ size-event (effect_of last s) (effects rest s)

pub valid_back : (journal rest : List Entry) (last : Entry) (s : ℕ) → journal ≡ rest ++ last ∷ [] → valid_of (effects journal s) ≡ valid_after (event_of (effect_of last s)) (effects rest s)
valid_back journal rest last s is = ap valid_of (effects_back journal rest last s is) ∙ valid-event (effect_of last s) (effects rest s)

pub valid_none : (journal : List Entry) (s : ℕ) → journal ≡ [] → valid_of (effects journal s) ≡ 0
unfolding sizes history
valid_none journal s is = rw is refl

pub sizes_more : (found : List ℕ) (journal rest : List Entry) (last : Entry) (s size : ℕ) → journal ≡ rest ++ last ∷ [] → AreSizesOverJournal found rest s → length found ≡ length rest + 1 → size ≡ size_after (event_of (effect_of last s)) (effects rest s) → AreSizesOverJournal (found ++ size ∷ []) journal s
sizes_more found journal rest last s size is are count now = record {
  long = omega (arith, ap length is, length-append rest (last ∷ []), length-append found (size ∷ []));
  each = λ i within. go i within (nat_le i (length rest)) refl;
}
  where
    go : (i : ℕ) → i ≤ length journal → (b : Bool) → nat_le i (length rest) ≡ b → slice_index (found ++ size ∷ []) i ≡ size_of (effects (take i journal) s)
    go i within true early =
        get_or_append_left found (size ∷ []) 0 i (omega (arith, leb-true i (length rest) early))
        ∙ (are.each i (leb-true i (length rest) early)
        ∙ ap (λ (es : List Entry). size_of (effects es s)) (sym (ap (λ (es : List Entry). take i es) is ∙ take-append-le i rest (last ∷ []) (leb-true i (length rest) early))))
    go i within false late =
        let at : i ≡ length found = omega (arith, leb-false i (length rest) late, ap length is, length-append rest (last ∷ [])) in
        let all : length journal ≤ i = omega (arith, leb-false i (length rest) late, ap length is, length-append rest (last ∷ [])) in
        get_or_push found size 0 i (sym at)
        ∙ (now ∙ (sym (size_back journal rest last s is) ∙ ap (λ (es : List Entry). size_of (effects es s)) (sym (take_all i journal all))))

pub sizes_none : (found : List ℕ) (journal : List Entry) (s : ℕ) → journal ≡ [] → found ≡ 0 ∷ [] → AreSizesOverJournal found journal s
unfolding sizes history
sizes_none found journal s is one = record {
  long = rw (is, one) (omega arith);
  each = λ i within. rw (one, is) (go i (rw is at within));
}
  where
    go : (i : ℕ) → i ≤ 0 → slice_index (0 ∷ []) i ≡ size_of (effects (take i []) s)
    go i within = let zero : i ≡ 0 = omega arith in rw zero refl

pub sizes_next : (found now : List ℕ) (journal : List Entry) (i : ℕ) (entry : Entry) (s size : ℕ) → entry ≡ get_or journal i entry → i < length journal → AreSizesOverJournal found (take i journal) s → length found ≡ i + 1 → size ≡ size_after (event_of (effect_of entry s)) (effects (take i journal) s) → now ≡ found ++ size ∷ [] → AreSizesOverJournal now (take (i + 1) journal) s
sizes_next found now journal i entry s size is in_range are count after pushed =
    subst (λ (xs : List ℕ). AreSizesOverJournal xs (take (i + 1) journal) s) (sym pushed)
    (sizes_more found (take (i + 1) journal) (take i journal) entry s size (entries_next journal i entry is in_range) are (omega (arith, length-take i journal)) after)

pub valid_next : (journal : List Entry) (i : ℕ) (entry : Entry) (s now : ℕ) → entry ≡ get_or journal i entry → i < length journal → now ≡ valid_after (event_of (effect_of entry s)) (effects (take i journal) s) → now ≡ valid_of (effects (take (i + 1) journal) s)
valid_next journal i entry s now is in_range after =
    after ∙ sym (valid_back (take (i + 1) journal) (take i journal) entry s (entries_next journal i entry is in_range))
