-- The locks by their ids and at their places, after one came or went.
use Rattle.std.proofs.Common.{◌≡◌, ℕ, zero, suc, ◌-◌, ◌^◌, ◌<◌, Bool, true, false, cond, Option, None, Some, IfSome, List, [], ◌∷◌, ◌++◌, ◌⊎◌, inl, inr, All, length, get_or, set, refl, sym, ◌∙◌, ap, subst, arith, nat_cmp}
use Rattle.std.specs.Map.{keys_of, values_of, remove_entry}
use Rattle.std.specs.BTreeMap.{is_at, insert_entry}
use Rattle.std.specs.List.Sorted.{IsStrictlySortedBy}
use Rattle.std.proofs.lemmas.Bool.{cond-true, cond-false, false_from_ne_true}
use Rattle.std.proofs.lemmas.List.Elements.{All-head, All-tail, All-cons, All-push}
use Rattle.std.proofs.lemmas.Map.Views.{tells_apart, IfSome-lookup_from_All}
use Rattle.cc_entry.specs.declared.lock.Lock.{Lock}
use Rattle.cc_locks.specs.Place.{LockPlace, place_of, place_cmp, class_of, lock_of, lock_at, LocksAreIndexed}
use Rattle.cc_locks.proofs.Order.{place_exact, place-same, place-apart, at-same, at-apart, at-true}
use Rattle.cc_locks.proofs.Ids.{IsKeyed, Keyed, insert-last, keyed-lock}

added-cases : {X : Type 0} (b : Bool) (x y : X) (o : Option X) → cond b (Some x) o ≡ Some y → ((b ≡ true) × (x ≡ y)) ⊎ ((b ≡ false) × (o ≡ Some y))
added-cases true x y o h = inl (refl, cc)
added-cases false x y o h = inr (refl, h)

removed-cases : {X : Type 0} (b : Bool) (y : X) (o : Option X) → cond b None o ≡ Some y → (b ≡ false) × (o ≡ Some y)
removed-cases true y o h = absurd (cc)
removed-cases false y o h = (refl, h)

set-noted : (used : List Bool) (c k : ℕ) → get_or used k false ≡ true → get_or (set used c true) k false ≡ true
set-noted [] c k h = h
set-noted (u ∷ used) zero zero h = refl
set-noted (u ∷ used) zero (suc k) h = h
set-noted (u ∷ used) (suc c) zero h = h
set-noted (u ∷ used) (suc c) (suc k) h = set-noted used c k h

set-here : (used : List Bool) (c : ℕ) → c < length used → get_or (set used c true) c false ≡ true
set-here [] c lt = absurd (omega arith)
set-here (u ∷ used) zero lt = refl
set-here (u ∷ used) (suc c) lt = set-here used c (omega arith)

keyed-remove : (test : ℕ → Bool) (ids : List (ℕ × Lock)) → Keyed ids → Keyed (remove_entry test ids)
keyed-remove test [] h = h
keyed-remove test (e ∷ ids) h = go (test e.0) (keyed-remove test ids (All-tail IsKeyed e ids h))
  where
    go : (b : Bool) → Keyed (remove_entry test ids) → Keyed (cond b ids (e ∷ remove_entry test ids))
    go true rest = All-tail IsKeyed e ids h
    go false rest = All-cons IsKeyed e (remove_entry test ids) (All-head IsKeyed e ids h) rest

module _ (ids : List (ℕ × Lock)) (places : List (LockPlace × Lock)) (used : List Bool) (lock : Lock) (i : LocksAreIndexed ids places used) where
  -- a lock with an id above all others comes
  module _ (above : All (λ (l : Lock). l.id < lock.id) (values_of ids)) (within : class_of lock.span < length used) where
    fresh : (n : ℕ) (l : Lock) → lock_of ids n ≡ Some l → l.id < lock.id
    fresh n l h = subst (λ (o : Option Lock). IfSome o (λ (l : Lock). l.id < lock.id)) h (IfSome-lookup_from_All (λ (l : Lock). l.id < lock.id) (is_at (nat_cmp n)) ids above)

    module _ (new : List (LockPlace × Lock)) (put : (p : LockPlace) → lock_at new p ≡ cond (is_at (place_cmp (place_of lock)) p) (Some lock) (lock_at places p)) where
      apart : (n : ℕ) (l : Lock) → lock_of ids n ≡ Some l → lock_at new (place_of l) ≡ Some l
      apart n l h =
          put (place_of l) ∙ (cond-false (is_at (place_cmp (place_of lock)) (place_of l)) (Some lock) (lock_at places (place_of l)) (place-apart (place_of lock) (place_of l) (fresh n l h)) ∙ i.held n l h)

      pub IsIndexed-added : (more : List (ℕ × Lock)) → more ≡ insert_entry nat_cmp ids lock.id lock
          → ((n : ℕ) → lock_of more n ≡ cond (is_at (nat_cmp lock.id) n) (Some lock) (lock_of ids n))
          → IsStrictlySortedBy nat_cmp (keys_of more) → IsStrictlySortedBy place_cmp (keys_of new) → lock.span.to - lock.span.from < 2 ^ 64
          → LocksAreIndexed more new (set used (class_of lock.span) true)
      IsIndexed-added more is upd up pup fits = record {
        ids_ascend = up;
        places_ascend = pup;
        keyed = subst Keyed (sym (is ∙ insert-last ids lock i.keyed above)) (All-push IsKeyed ids (lock.id, lock) i.keyed refl);
        held = λ n l h. elim (cases n l h) [
          | inl w ↦ subst (λ (l : Lock). lock_at new (place_of l) ≡ Some l) w.1 at_new
          | inr w ↦ apart n l w.1
        ];
        placed = λ p l h. elim (added-cases (is_at (place_cmp (place_of lock)) p) lock l (lock_at places p) (sym (put p) ∙ h)) [
          | inl w ↦ (sym (tells_apart place_exact (place_of lock) p w.0) ∙ ap place_of w.1, subst (λ (l : Lock). lock_of more l.id ≡ Some l) w.1 by_id)
          | inr w ↦ let old = i.placed p l w.1 in (old.0, upd l.id ∙ (cond-false (is_at (nat_cmp lock.id) l.id) (Some lock) (lock_of ids l.id) (at-apart lock.id l.id (fresh l.id l old.1)) ∙ old.1))
        ];
        noted = λ n l h. elim (cases n l h) [
          | inl w ↦ subst (λ (l : Lock). get_or (set used (class_of lock.span) true) (class_of l.span) false ≡ true) w.1 (set-here used (class_of lock.span) within)
          | inr w ↦ set-noted used (class_of lock.span) (class_of l.span) (i.noted n l w.1)
        ];
        sized = λ n l h. elim (cases n l h) [
          | inl w ↦ subst (λ (l : Lock). l.span.to - l.span.from < 2 ^ 64) w.1 fits
          | inr w ↦ i.sized n l w.1
        ];
      }
        where
          cases : (n : ℕ) (l : Lock) → lock_of more n ≡ Some l → ((is_at (nat_cmp lock.id) n ≡ true) × (lock ≡ l)) ⊎ ((is_at (nat_cmp lock.id) n ≡ false) × (lock_of ids n ≡ Some l))
          cases n l h = added-cases (is_at (nat_cmp lock.id) n) lock l (lock_of ids n) (sym (upd n) ∙ h)

          at_new : lock_at new (place_of lock) ≡ Some lock
          at_new = put (place_of lock) ∙ cond-true (is_at (place_cmp (place_of lock)) (place_of lock)) (Some lock) (lock_at places (place_of lock)) (place-same (place_of lock))

          by_id : lock_of more lock.id ≡ Some lock
          by_id = upd lock.id ∙ cond-true (is_at (nat_cmp lock.id) lock.id) (Some lock) (lock_of ids lock.id) (at-same lock.id)

      -- it goes from its place again
      pub IsIndexed-back : (old : List (LockPlace × Lock)) → ((p : LockPlace) → lock_at old p ≡ cond (is_at (place_cmp (place_of lock)) p) None (lock_at new p))
          → IsStrictlySortedBy place_cmp (keys_of old) → LocksAreIndexed ids old (set used (class_of lock.span) true)
      IsIndexed-back old back pup = record {
        ids_ascend = i.ids_ascend;
        places_ascend = pup;
        keyed = i.keyed;
        held = λ n l h. back (place_of l) ∙ (cond-false (is_at (place_cmp (place_of lock)) (place_of l)) None (lock_at new (place_of l)) (place-apart (place_of lock) (place_of l) (fresh n l h)) ∙ apart n l h);
        placed = λ p l h.
            let w = removed-cases (is_at (place_cmp (place_of lock)) p) l (lock_at new p) (sym (back p) ∙ h) in
            i.placed p l (sym (cond-false (is_at (place_cmp (place_of lock)) p) (Some lock) (lock_at places p) w.0) ∙ (sym (put p) ∙ w.1));
        noted = λ n l h. set-noted used (class_of lock.span) (class_of l.span) (i.noted n l h);
        sized = i.sized;
      }

  -- one more class is noted
  pub IsIndexed-noted : (class : ℕ) → LocksAreIndexed ids places (set used class true)
  IsIndexed-noted class = record {
    ids_ascend = i.ids_ascend;
    places_ascend = i.places_ascend;
    keyed = i.keyed;
    held = i.held;
    placed = i.placed;
    sized = i.sized;
    noted = λ n l h. set-noted used class (class_of l.span) (i.noted n l h);
  }

  -- a lock goes
  pub IsIndexed-removed : (fewer : List (ℕ × Lock)) (new : List (LockPlace × Lock)) → lock_of ids lock.id ≡ Some lock → fewer ≡ remove_entry (is_at (nat_cmp lock.id)) ids
      → ((n : ℕ) → lock_of fewer n ≡ cond (is_at (nat_cmp lock.id) n) None (lock_of ids n))
      → ((p : LockPlace) → lock_at new p ≡ cond (is_at (place_cmp (place_of lock)) p) None (lock_at places p))
      → IsStrictlySortedBy nat_cmp (keys_of fewer) → IsStrictlySortedBy place_cmp (keys_of new) → LocksAreIndexed fewer new used
  IsIndexed-removed fewer new there is upd put up pup = record {
    ids_ascend = up;
    places_ascend = pup;
    keyed = subst Keyed (sym is) (keyed-remove (is_at (nat_cmp lock.id)) ids i.keyed);
    held = λ n l h.
        let w = was n l h in
        let other = false_from_ne_true (is_at (place_cmp (place_of lock)) (place_of l)) (λ at. same n l w.0 (keyed-lock ids n l i.keyed w.1) (ap (λ (p : LockPlace). p.2) (tells_apart place_exact (place_of lock) (place_of l) at))) in
        put (place_of l) ∙ (cond-false (is_at (place_cmp (place_of lock)) (place_of l)) None (lock_at places (place_of l)) other ∙ i.held n l w.1);
    placed = λ p l h.
        let w = removed-cases (is_at (place_cmp (place_of lock)) p) l (lock_at places p) (sym (put p) ∙ h) in
        let old = i.placed p l w.1 in
        let other = false_from_ne_true (is_at (nat_cmp lock.id) l.id) (λ at. differs p l w.0 old.0 old.1 (at-true lock.id l.id at)) in
        (old.0, upd l.id ∙ (cond-false (is_at (nat_cmp lock.id) l.id) None (lock_of ids l.id) other ∙ old.1));
    noted = λ n l h. i.noted n l (was n l h).1;
    sized = λ n l h. i.sized n l (was n l h).1;
  }
    where
      was : (n : ℕ) (l : Lock) → lock_of fewer n ≡ Some l → (is_at (nat_cmp lock.id) n ≡ false) × (lock_of ids n ≡ Some l)
      was n l h = removed-cases (is_at (nat_cmp lock.id) n) l (lock_of ids n) (sym (upd n) ∙ h)

      same : (n : ℕ) (l : Lock) → is_at (nat_cmp lock.id) n ≡ false → l.id ≡ n → lock.id ≡ l.id → ⊥
      same n l other named e = let hit : is_at (nat_cmp lock.id) n ≡ true = subst (λ k. is_at (nat_cmp lock.id) k ≡ true) (e ∙ named) (at-same lock.id) in absurd (cc)

      differs : (p : LockPlace) (l : Lock) → is_at (place_cmp (place_of lock)) p ≡ false → p ≡ place_of l → lock_of ids l.id ≡ Some l → l.id ≡ lock.id → ⊥
      differs p l other at of e =
          let is_lock : lock_of ids lock.id ≡ Some l = subst (λ k. lock_of ids k ≡ Some l) e of in
          let both : Some lock ≡ Some l = sym there ∙ is_lock in
          let one : lock ≡ l = cc in
          let hit : is_at (place_cmp (place_of lock)) p ≡ true = subst (λ (q : LockPlace). is_at (place_cmp (place_of lock)) q ≡ true) (ap place_of one ∙ sym at) (place-same (place_of lock)) in
          absurd (cc)

  -- the lock of an id goes
  pub IsIndexed-removed_id : (id : ℕ) (fewer : List (ℕ × Lock)) (new : List (LockPlace × Lock)) → lock_of ids id ≡ Some lock → fewer ≡ remove_entry (is_at (nat_cmp id)) ids
      → ((n : ℕ) → lock_of fewer n ≡ cond (is_at (nat_cmp id) n) None (lock_of ids n))
      → ((p : LockPlace) → lock_at new p ≡ cond (is_at (place_cmp (place_of lock)) p) None (lock_at places p))
      → IsStrictlySortedBy nat_cmp (keys_of fewer) → IsStrictlySortedBy place_cmp (keys_of new) → LocksAreIndexed fewer new used
  IsIndexed-removed_id id fewer new there is upd put up pup =
      let same : id ≡ lock.id = sym (keyed-lock ids id lock i.keyed there) in
      IsIndexed-removed fewer new (subst (λ k. lock_of ids k ≡ Some lock) same there) (subst (λ k. fewer ≡ remove_entry (is_at (nat_cmp k)) ids) same is)
      (λ n. subst (λ k. lock_of fewer n ≡ cond (is_at (nat_cmp k) n) None (lock_of ids n)) same (upd n)) put up pup
