-- How the places of the open holds of a stream step at an effect.
use Rattle.std.specs.Prelude.{◌≡◌, ℕ, Bool, true, false, ◌==◌, not, List, [], ◌∷◌, if◌then◌else◌, refl}
use Rattle.std.specs.declared.option.Option.{Option}
use Rattle.std.specs.declared.option.Option.TheVariants.{Some, None}
use Rattle.std.specs.List.{cons_option, filter}
use Rattle.std.proofs.Common.{ap, sym, ◌∙◌, arith}
use Rattle.std.proofs.lemmas.Bool.{eq-eqb, eqb-true, ne_eqb}
use Rattle.std.proofs.lemmas.Bool.Decides.{nat_tests}
use Rattle.cc_entry.specs.declared.call.Call.TheVariants as call
use Rattle.cc_model.specs.History.{Effect, Did, CameIn, WentOut, Began, Ended, Synced}
use Rattle.cc_model.specs.Holds.{Hold, holds_of, hold_at, changed_at, repinned, id_of}
use Rattle.cc_events.specs.Holdings.{holding_of, place_of_hold, place_in, place_after}

-- a choice by a test of equal numbers
pub choose_same : {A : Type 0} (a b : ℕ) (x y : A) → a ≡ b → (if a == b then x else y) ≡ x
choose_same a b x y same = rw (eq-eqb a b same) refl

pub choose_other : {A : Type 0} (a b : ℕ) (x y : A) → (a ≡ b → ⊥) → (if a == b then x else y) ≡ y
choose_other a b x y other = rw (ne_eqb a b other) refl

pub place_in-cons : (hold : Hold) (holds : List Hold) (id : ℕ) → place_in (hold ∷ holds) id ≡ (if hold.id == id then Some (place_of_hold hold) else place_in holds id)
place_in-cons hold holds id = go (hold.id == id) refl
  where
    go : (b : Bool) → (hold.id == id) ≡ b → place_in (hold ∷ holds) id ≡ (if hold.id == id then Some (place_of_hold hold) else place_in holds id)
    go true is = rw is refl
    go false is = rw is refl

place_in-changed : (target : ℕ) (change : Hold → Hold) → ((it : Hold) → (change it).id ≡ it.id) → ((it : Hold) → place_of_hold (change it) ≡ place_of_hold it) → (holds : List Hold) (id : ℕ) → place_in (changed_at target change holds) id ≡ place_in holds id
place_in-changed target change same place [] id = refl
place_in-changed target change same place (hold ∷ holds) id = go (place_in-changed target change same place holds id) (hold.id == target) refl
  where
    go : place_in (changed_at target change holds) id ≡ place_in holds id → (b : Bool) → (hold.id == target) ≡ b → place_in (changed_at target change (hold ∷ holds)) id ≡ place_in (hold ∷ holds) id
    go before true is =
        rw is (place_in-cons (change hold) (changed_at target change holds) id
        ∙ (rw (same hold, place hold, before) refl ∙ sym (place_in-cons hold holds id)))
    go before false is =
        rw is (place_in-cons hold (changed_at target change holds) id
        ∙ (rw before refl ∙ sym (place_in-cons hold holds id)))

tests_other : (a b c : ℕ) → (a == c) ≡ true → (a == b) ≡ false → (b == c) ≡ false
tests_other a b c same other = grind (arith, nat_tests)

place_in-ended : (ended id : ℕ) (holds : List Hold) → place_in (filter (λ it. not (it.id == ended)) holds) id ≡ (if ended == id then None else place_in holds id)
place_in-ended ended id [] = go (ended == id) refl
  where
    go : (b : Bool) → (ended == id) ≡ b → place_in [] id ≡ (if ended == id then None else place_in [] id)
    go true is = rw is refl
    go false is = rw is refl
place_in-ended ended id (hold ∷ holds) = go (place_in-ended ended id holds) (hold.id == ended) refl
  where
    gone : (b : Bool) → (ended == id) ≡ b → hold.id ≡ ended → (if ended == id then None else place_in holds id) ≡ (if ended == id then None else place_in (hold ∷ holds) id)
    gone true is same = rw is refl
    gone false is same = ap (λ (place : Option (ℕ × ℕ)). if ended == id then None else place) (sym (place_in-cons hold holds id ∙ rw (same, is) refl))

    kept : (b : Bool) → (hold.id == id) ≡ b → (hold.id == ended) ≡ false → (if hold.id == id then Some (place_of_hold hold) else (if ended == id then None else place_in holds id)) ≡ (if ended == id then None else place_in (hold ∷ holds) id)
    kept true is other = rw (is, tests_other hold.id ended id is other) refl
    kept false is other = rw is refl

    go : place_in (filter (λ it. not (it.id == ended)) holds) id ≡ (if ended == id then None else place_in holds id) → (b : Bool) → (hold.id == ended) ≡ b → place_in (filter (λ it. not (it.id == ended)) (hold ∷ holds)) id ≡ (if ended == id then None else place_in (hold ∷ holds) id)
    go before true is = rw is (before ∙ gone (ended == id) refl (eqb-true hold.id ended is))
    go before false is = rw is (place_in-cons hold (filter (λ it. not (it.id == ended)) holds) id ∙ (rw before refl ∙ kept (hold.id == id) refl is))

place_in-repinned : (made pass named id : ℕ) (holds : List Hold) → place_in (repinned made pass (hold_at holds named) holds) id ≡ elim (place_in holds named) [ None ↦ place_in holds id | Some place ↦ if made == id then Some place else place_in holds id ]
place_in-repinned made pass named id holds = go (hold_at holds named) refl
  where
    go : (o : Option Hold) → hold_at holds named ≡ o → place_in (repinned made pass (hold_at holds named) holds) id ≡ elim (place_in holds named) [ None ↦ place_in holds id | Some place ↦ if made == id then Some place else place_in holds id ]
    go None is = rw is refl
    go (Some hold) is = rw is (place_in-cons _ holds id)

pub place_in-holding : (o : Option Effect) (h : List Effect) (id : ℕ) → place_in (holds_of (cons_option o h)) id ≡ place_after (holding_of o) (holds_of h) id
unfolding holds_of
place_in-holding None h id = refl
place_in-holding (Some (Did pass (call.Map file at len) reply)) h id = place_in-cons _ _ id
place_in-holding (Some (Did pass (call.PinRead file at len exclusive) reply)) h id = place_in-cons _ _ id
place_in-holding (Some (Did pass (call.MdlRead file at len) reply)) h id = place_in-cons _ _ id
place_in-holding (Some (Did pass (call.MdlWrite file at len) reply)) h id = place_in-cons _ _ id
place_in-holding (Some (Did pass (call.PreparePin file at len true exclusive) reply)) h id = place_in-cons _ _ id
place_in-holding (Some (Did pass (call.PreparePin file at len false exclusive) reply)) h id = place_in-cons _ _ id
place_in-holding (Some (Did pass (call.PinMapped hold exclusive) reply)) h id = place_in-changed hold _ (λ it. refl) (λ it. refl) (holds_of h) id
place_in-holding (Some (Did pass (call.PinnedWrite hold at bytes) reply)) h id = place_in-changed hold _ (λ it. refl) (λ it. refl) (holds_of h) id
place_in-holding (Some (Did pass (call.SetDirty hold lsn) reply)) h id = place_in-changed hold _ (λ it. refl) (λ it. refl) (holds_of h) id
place_in-holding (Some (Did pass (call.EndHold hold) reply)) h id = place_in-ended hold id (holds_of h)
place_in-holding (Some (Did pass (call.Repin hold) reply)) h id = place_in-repinned (id_of reply) pass hold id (holds_of h)
place_in-holding (Some (Did pass (call.Initialise file sizes quota temporary) reply)) h id = refl
place_in-holding (Some (Did pass (call.Uninitialise file truncate) reply)) h id = refl
place_in-holding (Some (Did pass (call.CopyRead file at len wait) reply)) h id = refl
place_in-holding (Some (Did pass (call.CopyWrite file at bytes) reply)) h id = refl
place_in-holding (Some (Did pass (call.Zero file span) reply)) h id = refl
place_in-holding (Some (Did pass (call.MappedRead hold at len) reply)) h id = refl
place_in-holding (Some (Did pass (call.PinnedRead hold at len) reply)) h id = refl
place_in-holding (Some (Did pass (call.MdlBytes hold at len) reply)) h id = refl
place_in-holding (Some (Did pass (call.MdlStore hold at bytes) reply)) h id = refl
place_in-holding (Some (Did pass (call.NcRead file page) reply)) h id = refl
place_in-holding (Some (Did pass (call.NcStore file page bytes) reply)) h id = refl
place_in-holding (Some (Did pass (call.NcWrite file page) reply)) h id = refl
place_in-holding (Some (Did pass (call.SetSizes file allocation size) reply)) h id = refl
place_in-holding (Some (Did pass (call.Query asked) reply)) h id = refl
place_in-holding (Some (Did pass (call.Flush file span) reply)) h id = refl
place_in-holding (Some (Did pass (call.Purge file span) reply)) h id = refl
place_in-holding (Some (Did pass (call.Discard file span) reply)) h id = refl
place_in-holding (Some (Did pass (call.SetLog file handle) reply)) h id = refl
place_in-holding (Some (Did pass (call.SetGranularity file bytes) reply)) h id = refl
place_in-holding (Some (Did pass (call.SetAttributes file no_read_ahead no_write_behind) reply)) h id = refl
place_in-holding (Some (Did pass (call.SetThreshold file pages) reply)) h id = refl
place_in-holding (Some (Did pass (call.AskAhead file at len) reply)) h id = refl
place_in-holding (Some (Did pass (call.AheadStep request) reply)) h id = refl
place_in-holding (Some (CameIn pass page from_disk)) h id = refl
place_in-holding (Some (WentOut pass page)) h id = refl
place_in-holding (Some (Began pass page)) h id = refl
place_in-holding (Some (Ended pass page how)) h id = refl
place_in-holding (Some (Synced pass how)) h id = refl
