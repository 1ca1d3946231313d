-- The ranges of open holds, by stream and id.
use Rattle.std.specs.Prelude.{◌≡◌, ℕ, ◌==◌, nat_eq, ◌&&◌, cond, List, Option, None, Some, if◌then◌else◌}
use Rattle.std.specs.Map.{lookup}
use Rattle.cc_entry.specs.declared.entry.Entry.{Entry}
use Rattle.cc_events.specs.declared.holding.Holding.{Holding}
use Rattle.cc_events.specs.declared.holding.Holding.TheVariants as holding
use Rattle.cc_events.specs.Holdings.{place_in}
use Rattle.cc_model.specs.History.{history}
use Rattle.cc_model.specs.Holds.{holds_of}

-- places by stream and id
abbrev pub HeldPlaces : Type 0
HeldPlaces = List ((ℕ × ℕ) × (ℕ × ℕ))

-- the place and the length of the hold of this id on a stream, where it is open
abbrev pub held_at : HeldPlaces → ℕ → ℕ → Option (ℕ × ℕ)
held_at places stream id = lookup (λ key. nat_eq stream key.0 && nat_eq id key.1) places

-- the same places but for that of one hold
abbrev pub Sets : HeldPlaces → HeldPlaces → ℕ → ℕ → Option (ℕ × ℕ) → Type 0
Sets old new stream id place = (s i : ℕ) → held_at new s i ≡ cond (nat_eq stream s && nat_eq id i) place (held_at old s i)

-- the place of a hold of a stream after what happened to its holds, given those before it
abbrev pub place_held_after : Holding → (ℕ → Option (ℕ × ℕ)) → ℕ → Option (ℕ × ℕ)
place_held_after (holding.Makes made at len) held id = if made == id then Some (at, len) else held id
place_held_after (holding.Repins made named) held id =
    elim (held named) [ None ↦ held id | Some place ↦ if made == id then Some place else held id ]
place_held_after (holding.Ends ended) held id = if ended == id then None else held id
place_held_after holding.Rests held id = held id

-- something happened to the holds of one stream, and nothing to those of others
abbrev pub ChangesHoldPlaces : HeldPlaces → HeldPlaces → ℕ → Holding → Type 0
ChangesHoldPlaces old new stream what =
    (s i : ℕ) → held_at new s i ≡ (if stream == s then place_held_after what (held_at old stream) i else held_at old s i)

-- the places are those of a past's open holds
abbrev pub PlacesHolds : List Entry → HeldPlaces → Type 0
PlacesHolds past places = (stream id : ℕ) → held_at places stream id ≡ place_in (holds_of (history past stream)) id
