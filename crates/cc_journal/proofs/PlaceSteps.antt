-- How the places of open holds step.
use Rattle.std.specs.Prelude.{◌≡◌, ℕ, ◌==◌, cond, ◌&&◌, Bool, true, false, List, [], ◌∷◌, Option, None, Some, if◌then◌else◌, refl}
use Rattle.std.specs.List.{cons_option}
use Rattle.std.proofs.Common.{ap, sym, ◌∙◌}
use Rattle.std.proofs.lemmas.Bool.{eqb-true}
use Rattle.cc_entry.specs.declared.entry.Entry.{Entry}
use Rattle.cc_model.specs.History.{effect_of, history}
use Rattle.cc_model.specs.Holds.{Hold, holds_of}
use Rattle.cc_events.specs.declared.holding.Holding.{Holding}
use Rattle.cc_events.specs.declared.holding.Holding.TheVariants as holding
use Rattle.cc_events.specs.Holdings.{holding_of, place_in, place_after}
use Rattle.cc_events.proofs.HoldEvents.{place_in-holding}
use Rattle.cc_journal.specs.Alone.{IsOfStream}
use Rattle.cc_journal.specs.Places.{HeldPlaces, held_at, place_held_after, ChangesHoldPlaces, PlacesHolds}

-- no hold is open in an empty past
pub places_none : (places : HeldPlaces) → places ≡ [] → PlacesHolds [] places
unfolding holds_of history
places_none places is stream id = rw is refl

-- what happened to one hold happened to the holds of its stream
both : (a b : Bool) (x y : Option (ℕ × ℕ)) → cond (a && b) x y ≡ (if a then (if b then x else y) else y)
both true true x y = refl
both true false x y = refl
both false b x y = refl

-- what happened to a hold is what the definition says, where the places before are those of the holds
after : (what : Holding) (held : ℕ → Option (ℕ × ℕ)) (holds : List Hold) (id : ℕ) → ((i : ℕ) → held i ≡ place_in holds i) → place_held_after what held id ≡ place_after what holds id
after (holding.Makes made at len) held holds id are = ap (λ o. if made == id then Some (at, len) else o) (are id)
after (holding.Repins made named) held holds id are =
    ap (λ o. elim o [ None ↦ held id | Some place ↦ if made == id then Some place else held id ]) (are named)
    ∙ ap (λ o. elim (place_in holds named) [ None ↦ o | Some place ↦ if made == id then Some place else o ]) (are id)
after (holding.Ends ended) held holds id are = ap (λ o. if ended == id then None else o) (are id)
after holding.Rests held holds id are = are id

-- an entry of a stream, by what it does to the stream's holds
pub places_step : (old new : HeldPlaces) (stream : ℕ) (what : Holding) (e : Entry) (past : List Entry) → IsOfStream e stream → what ≡ holding_of (effect_of e stream) → ChangesHoldPlaces old new stream what → PlacesHolds past old → PlacesHolds (e ∷ past) new
unfolding history
places_step old new stream what e past alone happens changed stood s id = go (stream == s) refl
  where
    go : (b : Bool) → (stream == s) ≡ b → held_at new s id ≡ place_in (holds_of (history (e ∷ past) s)) id
    go true same =
        changed s id
        ∙ (ap (λ b. if b then place_held_after what (held_at old stream) id else held_at old s id) same
        ∙ (after what (held_at old stream) (holds_of (history past stream)) id (stood stream)
        ∙ (ap (λ w. place_after w (holds_of (history past stream)) id) happens
        ∙ (sym (place_in-holding (effect_of e stream) (history past stream) id)
        ∙ ap (λ t. place_in (holds_of (history (e ∷ past) t)) id) (eqb-true stream s same)))))
    go false other =
        changed s id
        ∙ (ap (λ b. if b then place_held_after what (held_at old stream) id else held_at old s id) other
        ∙ (stood s id ∙ ap (λ o. place_in (holds_of (cons_option o (history past s))) id) (sym (alone s other))))

-- an entry that means nothing to a hold
pub places_other : (places : HeldPlaces) (e : Entry) (past : List Entry) → ((s : ℕ) → holding_of (effect_of e s) ≡ holding.Rests) → PlacesHolds past places → PlacesHolds (e ∷ past) places
unfolding history
places_other places e past none stood s id =
    stood s id ∙ (sym (ap (λ w. place_after w (holds_of (history past s)) id) (none s)) ∙ sym (place_in-holding (effect_of e s) (history past s) id))
