-- The hold of an id among open holds, after a done call and before it.
use Rattle.std.specs.Prelude.{◌≡◌, ℕ, ◌+◌, Bool, true, false, cond, not, ◌==◌, List, [], ◌∷◌, length, refl, ◌⊎◌}
use Rattle.std.specs.declared.option.Option.{Option}
use Rattle.std.specs.declared.option.Option.TheVariants.{Some, None}
use Rattle.std.specs.Option.{option_map}
use Rattle.std.specs.List.{filter}
use Rattle.std.proofs.Common.{ap, sym, ◌∙◌, inl, inr, subst}
use Rattle.std.proofs.lemmas.Bool.{eqb-true, eq-eqb}
use Rattle.cc_entry.specs.declared.call.Call.{Call}
use Rattle.cc_entry.specs.declared.call.Call.TheVariants as call
use Rattle.cc_entry.specs.declared.hold.HoldKind.TheVariants as kind
use Rattle.cc_model.specs.Holds.{Hold, hold_at, changed_at, repinned, held_after}
use Rattle.cc_model.specs.Cache.{makes_hold}
use Rattle.cc_own.specs.Own.{hold_after, changes_it, hold_of_done_call}

pub some-is : {A : Type 0} (a b : A) → Some a ≡ Some b → a ≡ b
some-is a b is = cc

-- a hold that is found has the id
pub found-id : (holds : List Hold) (id : ℕ) (hold : Hold) → hold_at holds id ≡ Some hold → hold.id ≡ id
found-id [] id hold found = absurd (cc)
found-id (it ∷ holds) id hold found = go (it.id == id) refl found (found-id holds id hold)
  where
    go : (b : Bool) → (it.id == id) ≡ b → cond b (Some it) (hold_at holds id) ≡ Some hold → (hold_at holds id ≡ Some hold → hold.id ≡ id) → hold.id ≡ id
    go true is found rest = sym (ap (λ (h : Hold). h.id) (some-is it hold found)) ∙ eqb-true it.id id is
    go false is found rest = rest found

-- a change of the hold of another id
pub changed-other : (holds : List Hold) (named id : ℕ) (change : Hold → Hold) → ((hold : Hold) → (change hold).id ≡ hold.id) → (named == id) ≡ false → hold_at (changed_at named change holds) id ≡ hold_at holds id
changed-other [] named id change same apart = refl
changed-other (it ∷ holds) named id change same apart = go (it.id == named) refl (changed-other holds named id change same apart)
  where
    away : (it.id == named) ≡ true → (it.id == id) ≡ false
    away is = rw (eqb-true it.id named is) apart

    go : (b : Bool) → (it.id == named) ≡ b → hold_at (changed_at named change holds) id ≡ hold_at holds id → (let new : Hold = cond b (change it) it in cond (new.id == id) (Some new) (hold_at (changed_at named change holds) id)) ≡ cond (it.id == id) (Some it) (hold_at holds id)
    go true is rest = rw (same it, away is) rest
    go false is rest = rw rest refl

-- a change of the hold itself
pub changed-found : (holds : List Hold) (id : ℕ) (change : Hold → Hold) → ((hold : Hold) → (change hold).id ≡ hold.id) → hold_at (changed_at id change holds) id ≡ option_map change (hold_at holds id)
changed-found [] id change same = refl
changed-found (it ∷ holds) id change same = go (it.id == id) refl (changed-found holds id change same)
  where
    go : (b : Bool) → (it.id == id) ≡ b → hold_at (changed_at id change holds) id ≡ option_map change (hold_at holds id) → (let new : Hold = cond b (change it) it in cond (new.id == id) (Some new) (hold_at (changed_at id change holds) id)) ≡ option_map change (cond b (Some it) (hold_at holds id))
    go true is rest = rw (same it, is) refl
    go false is rest = rw is rest

-- the end of a hold
pub ended-other : (holds : List Hold) (named id : ℕ) → (named == id) ≡ false → hold_at (filter (λ it. not (it.id == named)) holds) id ≡ hold_at holds id
ended-other [] named id apart = refl
ended-other (it ∷ holds) named id apart = go (it.id == named) refl (ended-other holds named id apart)
  where
    away : (it.id == named) ≡ true → (it.id == id) ≡ false
    away is = rw (eqb-true it.id named is) apart

    go : (b : Bool) → (it.id == named) ≡ b → hold_at (filter (λ it. not (it.id == named)) holds) id ≡ hold_at holds id → hold_at (cond (not b) (it ∷ filter (λ it. not (it.id == named)) holds) (filter (λ it. not (it.id == named)) holds)) id ≡ cond (it.id == id) (Some it) (hold_at holds id)
    go true is rest = rw (away is) rest
    go false is rest = rw rest refl

pub ended-gone : (holds : List Hold) (id : ℕ) → hold_at (filter (λ it. not (it.id == id)) holds) id ≡ None
ended-gone [] id = refl
ended-gone (it ∷ holds) id = go (it.id == id) refl (ended-gone holds id)
  where
    go : (b : Bool) → (it.id == id) ≡ b → hold_at (filter (λ it. not (it.id == id)) holds) id ≡ None → hold_at (cond (not b) (it ∷ filter (λ it. not (it.id == id)) holds) (filter (λ it. not (it.id == id)) holds)) id ≡ None
    go true is rest = rest
    go false is rest = rw is rest

changed-after : (holds : List Hold) (named id : ℕ) (change : Hold → Hold) (hold : Hold) → ((hold : Hold) → (change hold).id ≡ hold.id) → hold_at holds id ≡ Some hold → hold_at (changed_at named change holds) id ≡ cond (named == id) (Some (change hold)) (Some hold)
changed-after holds named id change hold same found = go (named == id) refl
  where
    go : (b : Bool) → (named == id) ≡ b → hold_at (changed_at named change holds) id ≡ cond b (Some (change hold)) (Some hold)
    go true is = rw (eqb-true named id is) (changed-found holds id change same ∙ ap (option_map change) found)
    go false is = changed-other holds named id change same is ∙ found

ended-after : (holds : List Hold) (named id : ℕ) (hold : Hold) → hold_at holds id ≡ Some hold → hold_at (filter (λ it. not (it.id == named)) holds) id ≡ cond (named == id) None (Some hold)
ended-after holds named id hold found = go (named == id) refl
  where
    go : (b : Bool) → (named == id) ≡ b → hold_at (filter (λ it. not (it.id == named)) holds) id ≡ cond b None (Some hold)
    go true is = rw (eqb-true named id is) (ended-gone holds id)
    go false is = ended-other holds named id is ∙ found

-- what a done call makes of the hold of an id, where a new hold has another
pub found-after : (pass : ℕ) (call : Call) (new : ℕ) (holds : List Hold) (id : ℕ) (hold : Hold) → (makes_hold call ≡ true → (new == id) ≡ false) → hold_at holds id ≡ Some hold → hold_at (held_after pass call new holds) id ≡ hold_after id call hold
found-after pass (call.Map file at len) new holds id hold fresh found = rw (fresh refl) found
found-after pass (call.PinRead file at len exclusive) new holds id hold fresh found = rw (fresh refl) found
found-after pass (call.PinMapped named exclusive) new holds id hold fresh found = changed-after holds named id _ hold (λ it. refl) found
found-after pass (call.PreparePin file at len true exclusive) new holds id hold fresh found = rw (fresh refl) found
found-after pass (call.PreparePin file at len false exclusive) new holds id hold fresh found = rw (fresh refl) found
found-after pass (call.PinnedWrite named at bytes) new holds id hold fresh found = changed-after holds named id _ hold (λ it. refl) found
found-after pass (call.SetDirty named lsn) new holds id hold fresh found = changed-after holds named id _ hold (λ it. refl) found
found-after pass (call.EndHold named) new holds id hold fresh found = ended-after holds named id hold found
found-after pass (call.Repin named) new holds id hold fresh found = go (hold_at holds named)
  where
    go : (o : Option Hold) → hold_at (repinned new pass o holds) id ≡ Some hold
    go None = found
    go (Some it) = rw (fresh refl) found
found-after pass (call.MdlRead file at len) new holds id hold fresh found = rw (fresh refl) found
found-after pass (call.MdlWrite file at len) new holds id hold fresh found = rw (fresh refl) found
found-after pass other new holds id hold fresh found = found

-- a call that does not change it leaves it
pub after-same : (id : ℕ) (call : Call) (hold : Hold) → changes_it id call ≡ false → hold_after id call hold ≡ Some hold
after-same id (call.PinMapped named exclusive) hold kept = rw kept refl
after-same id (call.PinnedWrite named at bytes) hold kept = rw kept refl
after-same id (call.SetDirty named lsn) hold kept = rw kept refl
after-same id (call.EndHold named) hold kept = rw kept refl
after-same id other hold kept = refl

-- a hold keeps its pass
pub after-pass : (id : ℕ) (call : Call) (hold new : Hold) → hold_after id call hold ≡ Some new → new.pass ≡ hold.pass
after-pass id (call.PinMapped named exclusive) hold new is = go (named == id) is
  where
    go : (b : Bool) → cond b (Some (record hold { kind = kind.Pin; exclusive = exclusive })) (Some hold) ≡ Some new → new.pass ≡ hold.pass
    go true is = sym (ap (λ (h : Hold). h.pass) (some-is _ new is))
    go false is = sym (ap (λ (h : Hold). h.pass) (some-is _ new is))
after-pass id (call.PinnedWrite named at bytes) hold new is = go (named == id) is
  where
    go : (b : Bool) → cond b (Some (record hold { owed = record { from = at; to = at + length bytes } ∷ hold.owed })) (Some hold) ≡ Some new → new.pass ≡ hold.pass
    go true is = sym (ap (λ (h : Hold). h.pass) (some-is _ new is))
    go false is = sym (ap (λ (h : Hold). h.pass) (some-is _ new is))
after-pass id (call.SetDirty named lsn) hold new is = go (named == id) is
  where
    go : (b : Bool) → cond b (Some (record hold { owed = [] })) (Some hold) ≡ Some new → new.pass ≡ hold.pass
    go true is = sym (ap (λ (h : Hold). h.pass) (some-is _ new is))
    go false is = sym (ap (λ (h : Hold). h.pass) (some-is _ new is))
after-pass id (call.EndHold named) hold new is = go (named == id) is
  where
    go : (b : Bool) → cond b None (Some hold) ≡ Some new → new.pass ≡ hold.pass
    go true is = absurd (cc)
    go false is = sym (ap (λ (h : Hold). h.pass) (some-is _ new is))
after-pass id other hold new is = sym (ap (λ (h : Hold). h.pass) (some-is hold new is))

-- a new hold is found by its id
pub made-found : (id pass : ℕ) (call : Call) (holds : List Hold) (hold : Hold) → hold_of_done_call id pass call holds ≡ Some hold → hold_at (held_after pass call id holds) id ≡ Some hold
made-found id pass (call.Map file at len) holds hold is = rw (eq-eqb id id refl) is
made-found id pass (call.PinRead file at len exclusive) holds hold is = rw (eq-eqb id id refl) is
made-found id pass (call.PreparePin file at len true exclusive) holds hold is = rw (eq-eqb id id refl) is
made-found id pass (call.PreparePin file at len false exclusive) holds hold is = rw (eq-eqb id id refl) is
made-found id pass (call.Repin named) holds hold is = go (hold_at holds named) is
  where
    go : (o : Option Hold) → option_map (λ (it : Hold). record { id = id; pass = pass; file = it.file; at = it.at; len = it.len; kind = kind.Repin; exclusive = false; owed = [] }) o ≡ Some hold → hold_at (repinned id pass o holds) id ≡ Some hold
    go None is = absurd (cc)
    go (Some it) is = rw (eq-eqb id id refl) is
made-found id pass (call.MdlRead file at len) holds hold is = rw (eq-eqb id id refl) is
made-found id pass (call.MdlWrite file at len) holds hold is = rw (eq-eqb id id refl) is
made-found id pass other holds hold is = absurd (cc)

-- and is of the pass
pub made-pass : (id pass : ℕ) (call : Call) (holds : List Hold) (hold : Hold) → hold_of_done_call id pass call holds ≡ Some hold → hold.pass ≡ pass
made-pass id pass (call.Map file at len) holds hold is = sym (ap (λ (h : Hold). h.pass) (some-is _ hold is))
made-pass id pass (call.PinRead file at len exclusive) holds hold is = sym (ap (λ (h : Hold). h.pass) (some-is _ hold is))
made-pass id pass (call.PreparePin file at len true exclusive) holds hold is = sym (ap (λ (h : Hold). h.pass) (some-is _ hold is))
made-pass id pass (call.PreparePin file at len false exclusive) holds hold is = sym (ap (λ (h : Hold). h.pass) (some-is _ hold is))
made-pass id pass (call.Repin named) holds hold is = go (hold_at holds named) is
  where
    go : (o : Option Hold) → option_map (λ (it : Hold). record { id = id; pass = pass; file = it.file; at = it.at; len = it.len; kind = kind.Repin; exclusive = false; owed = [] }) o ≡ Some hold → hold.pass ≡ pass
    go None is = absurd (cc)
    go (Some it) is = sym (ap (λ (h : Hold). h.pass) (some-is _ hold is))
made-pass id pass (call.MdlRead file at len) holds hold is = sym (ap (λ (h : Hold). h.pass) (some-is _ hold is))
made-pass id pass (call.MdlWrite file at len) holds hold is = sym (ap (λ (h : Hold). h.pass) (some-is _ hold is))
made-pass id pass other holds hold is = absurd (cc)

-- a hold of the id is there
abbrev pub IsOpen : List Hold → ℕ → Type 0
IsOpen holds id = (hold : Hold) × (hold_at holds id ≡ Some hold)

-- the hold of an id is the new one of a call, or was open before it
abbrev pub WasOpen : Call → ℕ → List Hold → ℕ → Type 0
WasOpen call new holds id = ((makes_hold call ≡ true) × (new ≡ id)) ⊎ IsOpen holds id

new-or-open : (call : Call) (new : ℕ) (it hold : Hold) (holds : List Hold) (id : ℕ) → makes_hold call ≡ true → cond (new == id) (Some it) (hold_at holds id) ≡ Some hold → WasOpen call new holds id
new-or-open call new it hold holds id makes found = go (new == id) refl found
  where
    go : (b : Bool) → (new == id) ≡ b → cond b (Some it) (hold_at holds id) ≡ Some hold → WasOpen call new holds id
    go true is found = inl (makes, eqb-true new id is)
    go false is found = inr (hold, found)

changed-before : (holds : List Hold) (named id : ℕ) (change : Hold → Hold) (hold : Hold) → ((hold : Hold) → (change hold).id ≡ hold.id) → hold_at (changed_at named change holds) id ≡ Some hold → IsOpen holds id
changed-before holds named id change hold same found = go (named == id) refl
  where
    mapped : (o : Option Hold) → hold_at holds id ≡ o → option_map change o ≡ Some hold → IsOpen holds id
    mapped None is e = absurd (cc)
    mapped (Some it) is e = (it, is)

    go : (b : Bool) → (named == id) ≡ b → IsOpen holds id
    go true is =
        let there : hold_at (changed_at id change holds) id ≡ Some hold = subst (λ n. hold_at (changed_at n change holds) id ≡ Some hold) (eqb-true named id is) found in
        mapped (hold_at holds id) refl (sym (changed-found holds id change same) ∙ there)
    go false is = (hold, sym (changed-other holds named id change same is) ∙ found)

ended-before : (holds : List Hold) (named id : ℕ) (hold : Hold) → hold_at (filter (λ it. not (it.id == named)) holds) id ≡ Some hold → IsOpen holds id
ended-before holds named id hold found = go (named == id) refl
  where
    clash : {A : Type 0} (o : Option Hold) → o ≡ None → o ≡ Some hold → A
    clash o none some = absurd (cc)

    go : (b : Bool) → (named == id) ≡ b → IsOpen holds id
    go true is =
        let there : hold_at (filter (λ it. not (it.id == id)) holds) id ≡ Some hold = subst (λ n. hold_at (filter (λ it. not (it.id == n)) holds) id ≡ Some hold) (eqb-true named id is) found in
        clash _ (ended-gone holds id) there
    go false is = (hold, sym (ended-other holds named id is) ∙ found)

-- a hold that is open after a call
pub found-before : (pass : ℕ) (call : Call) (new : ℕ) (holds : List Hold) (id : ℕ) (hold : Hold) → hold_at (held_after pass call new holds) id ≡ Some hold → WasOpen call new holds id
found-before pass (call.Map file at len) new holds id hold found = new-or-open (call.Map file at len) new _ hold holds id refl found
found-before pass (call.PinRead file at len exclusive) new holds id hold found = new-or-open (call.PinRead file at len exclusive) new _ hold holds id refl found
found-before pass (call.PinMapped named exclusive) new holds id hold found = inr (changed-before holds named id _ hold (λ it. refl) found)
found-before pass (call.PreparePin file at len true exclusive) new holds id hold found = new-or-open (call.PreparePin file at len true exclusive) new _ hold holds id refl found
found-before pass (call.PreparePin file at len false exclusive) new holds id hold found = new-or-open (call.PreparePin file at len false exclusive) new _ hold holds id refl found
found-before pass (call.PinnedWrite named at bytes) new holds id hold found = inr (changed-before holds named id _ hold (λ it. refl) found)
found-before pass (call.SetDirty named lsn) new holds id hold found = inr (changed-before holds named id _ hold (λ it. refl) found)
found-before pass (call.EndHold named) new holds id hold found = inr (ended-before holds named id hold found)
found-before pass (call.Repin named) new holds id hold found = go (hold_at holds named) found
  where
    go : (o : Option Hold) → hold_at (repinned new pass o holds) id ≡ Some hold → WasOpen (call.Repin named) new holds id
    go None found = inr (hold, found)
    go (Some it) found = new-or-open (call.Repin named) new _ hold holds id refl found
found-before pass (call.MdlRead file at len) new holds id hold found = new-or-open (call.MdlRead file at len) new _ hold holds id refl found
found-before pass (call.MdlWrite file at len) new holds id hold found = new-or-open (call.MdlWrite file at len) new _ hold holds id refl found
found-before pass other new holds id hold found = inr (hold, found)
