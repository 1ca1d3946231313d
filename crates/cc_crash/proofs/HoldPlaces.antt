-- The place of an open hold after what happened to the holds of a stream.
use Rattle.std.specs.Prelude.{◌≡◌, ℕ, ◌==◌, List, [], ◌∷◌, ◌++◌, if◌then◌else◌, refl}
use Rattle.std.specs.declared.option.Option.{Option}
use Rattle.std.specs.declared.option.Option.TheVariants.{Some, None}
use Rattle.std.proofs.Common.{ap, sym, ◌∙◌}
use Rattle.cc_entry.specs.declared.entry.Entry.{Entry}
use Rattle.cc_events.specs.declared.holding.Holding.{Holding}
use Rattle.cc_events.specs.declared.holding.Holding.TheVariants as holding
use Rattle.cc_model.specs.History.{Effect, effect_of, history}
use Rattle.cc_model.specs.Holds.{Hold, holds_of}
use Rattle.cc_crash.specs.Effects.{effects}
use Rattle.cc_events.specs.Holdings.{holding_of, place_in, place_after}
use Rattle.cc_crash.proofs.EffectSteps.{effects_back}
use Rattle.cc_events.proofs.HoldEvents.{place_in-holding, choose_other}

pub place_in_back : (journal rest : List Entry) (last : Entry) (s : ℕ) (what : Holding) (id : ℕ) → journal ≡ rest ++ last ∷ [] → what ≡ holding_of (effect_of last s) → place_in (holds_of (effects journal s)) id ≡ place_after what (holds_of (effects rest s)) id
place_in_back journal rest last s what id is happens =
    ap (λ (h : List Effect). place_in (holds_of h) id) (effects_back journal rest last s is)
    ∙ (place_in-holding (effect_of last s) (effects rest s) id
    ∙ ap (λ (w : Holding). place_after w (holds_of (effects rest s)) id) (sym happens))

pub place_in_none : (id s : ℕ) (journal : List Entry) → journal ≡ [] → place_in (holds_of (effects journal s)) id ≡ None
unfolding holds_of history
place_in_none id s journal is = rw is refl

pub place_after-repins : (made named id : ℕ) (holds : List Hold) (place : ℕ × ℕ) → Some place ≡ place_in holds named → place_after (holding.Repins made named) holds id ≡ (if made == id then Some place else place_in holds id)
place_after-repins made named id holds place is =
    ap (λ (o : Option (ℕ × ℕ)). elim o [ None ↦ place_in holds id | Some p ↦ if made == id then Some p else place_in holds id ]) (sym is)

pub place_after-repins_none : (made named id : ℕ) (holds : List Hold) → None ≡ place_in holds named → place_after (holding.Repins made named) holds id ≡ place_in holds id
place_after-repins_none made named id holds is =
    ap (λ (o : Option (ℕ × ℕ)). elim o [ None ↦ place_in holds id | Some p ↦ if made == id then Some p else place_in holds id ]) (sym is)

pub place_after-repins_other : (made named id : ℕ) (holds : List Hold) → (made ≡ id → ⊥) → place_after (holding.Repins made named) holds id ≡ place_in holds id
place_after-repins_other made named id holds other = go (place_in holds named)
  where
    go : (o : Option (ℕ × ℕ)) → elim o [ None ↦ place_in holds id | Some p ↦ if made == id then Some p else place_in holds id ] ≡ place_in holds id
    go None = refl
    go (Some p) = choose_other made id (Some p) (place_in holds id) other
