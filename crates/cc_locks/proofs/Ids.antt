-- The locks by their ids.
use Rattle.std.proofs.Common.{◌≡◌, ℕ, ◌<◌, ◌==◌, eq-eqb, Bool, true, false, cond, not, ◌&&◌, Option, None, Some, List, [], ◌∷◌, ◌++◌, All, length, refl, sym, ◌∙◌, ap, subst, arith, nat_cmp, Greater}
use Rattle.std.specs.Ordering.{match_ordering, eq_by_cmp}
use Rattle.std.specs.Cmp.{nat_cmp_total, eq_by_cmp_equiv}
use Rattle.std.specs.Map.{lookup, keys_of, values_of, remove_entry}
use Rattle.std.specs.BTreeMap.{is_at, insert_entry}
use Rattle.std.specs.List.{list_any, filter}
use Rattle.std.specs.List.Sorted.{IsStrictlySortedBy}
use Rattle.std.proofs.lemmas.Bool.{and_left}
use Rattle.std.proofs.lemmas.List.Elements.{All-head, All-tail}
use Rattle.std.proofs.lemmas.Map.{lookup-none}
use Rattle.std.proofs.lemmas.Map.Entries.{none_past_head}
use Rattle.std.proofs.lemmas.Map.Keys.{IsDistinct-from_sorted}
use Rattle.cc_entry.specs.Place.{File}
use Rattle.cc_entry.specs.Locks.{is_of, is_named}
use Rattle.cc_entry.specs.declared.lock.Lock.{Lock}
use Rattle.cc_locks.specs.Place.{lock_of}
use Rattle.cc_locks.proofs.Order.{at-true, at-false, cmp-greater}
use Rattle.cc_locks.proofs.Members.{filter-none}

abbrev pub IsKeyed : ℕ × Lock → Type 0
IsKeyed e = e.0 ≡ e.1.id

abbrev pub Keyed : List (ℕ × Lock) → Type 0
Keyed ids = All IsKeyed ids

-- a lock with an id above all others goes behind them
pub insert-last : (ids : List (ℕ × Lock)) (lock : Lock) → Keyed ids → All (λ (l : Lock). l.id < lock.id) (values_of ids)
    → insert_entry nat_cmp ids lock.id lock ≡ ids ++ (lock.id, lock) ∷ []
insert-last [] lock keyed above = refl
insert-last (e ∷ ids) lock keyed above =
    let key : e.0 ≡ e.1.id = All-head IsKeyed e ids keyed in
    let lt : e.1.id < lock.id = All-head (λ (l : Lock). l.id < lock.id) e.1 (values_of ids) above in
    let greater : nat_cmp lock.id e.0 ≡ Greater = cmp-greater lock.id e.0 (omega arith) in
    let rest = insert-last ids lock (All-tail IsKeyed e ids keyed) (All-tail (λ (l : Lock). l.id < lock.id) e.1 (values_of ids) above) in
    rw greater (ap (λ r. e ∷ r) rest)

-- a look-up finds the lock of that id
pub keyed-lock : (ids : List (ℕ × Lock)) (id : ℕ) (lock : Lock) → Keyed ids → lock_of ids id ≡ Some lock → lock.id ≡ id
keyed-lock [] id lock keyed h = absurd (cc)
keyed-lock (e ∷ ids) id lock keyed h = go (is_at (nat_cmp id) e.0) refl (λ g. keyed-lock ids id lock (All-tail IsKeyed e ids keyed) g) h
  where
    go : (b : Bool) → is_at (nat_cmp id) e.0 ≡ b → (lock_of ids id ≡ Some lock → lock.id ≡ id) → cond b (Some e.1) (lock_of ids id) ≡ Some lock → lock.id ≡ id
    go true hit more h =
        let same : e.1 ≡ lock = cc in
        let key : e.0 ≡ e.1.id = All-head IsKeyed e ids keyed in
        ap (λ (l : Lock). l.id) (sym same) ∙ (sym key ∙ at-true id e.0 hit)
    go false hit more h = more h

module _ (file : File) (id : ℕ) where
  named-other : (e : ℕ × Lock) → e.0 ≡ e.1.id → is_at (nat_cmp id) e.0 ≡ false → is_named file id e.1 ≡ false
  named-other e key hit = subst (λ k. (k == id && is_of e.1 file) ≡ false) key (and_left (e.0 == id) (is_of e.1 file) (at-false id e.0 hit))

  named-here : (e : ℕ × Lock) → e.0 ≡ e.1.id → is_at (nat_cmp id) e.0 ≡ true → is_named file id e.1 ≡ is_of e.1 file
  named-here e key hit =
      let same : e.1.id ≡ id = sym key ∙ at-true id e.0 hit in
      ap (λ k. k == id && is_of e.1 file) same ∙ ap (λ t. t && is_of e.1 file) (eq-eqb id id refl)

  -- where there is no lock of the id
  pub none-named : (ids : List (ℕ × Lock)) → Keyed ids → lock_of ids id ≡ None → list_any (is_named file id) (values_of ids) ≡ false
  none-named [] keyed h = refl
  none-named (e ∷ ids) keyed h = go (is_at (nat_cmp id) e.0) refl (λ g. none-named ids (All-tail IsKeyed e ids keyed) g) h
    where
      go : (b : Bool) → is_at (nat_cmp id) e.0 ≡ b → (lock_of ids id ≡ None → list_any (is_named file id) (values_of ids) ≡ false)
          → cond b (Some e.1) (lock_of ids id) ≡ None → list_any (is_named file id) (values_of (e ∷ ids)) ≡ false
      go true hit more h = absurd (cc)
      go false hit more h = rw (named-other e (All-head IsKeyed e ids keyed) hit) (more h)

  -- behind the lock of the id there is none of it
  none-behind : (e : ℕ × Lock) (ids : List (ℕ × Lock)) → IsStrictlySortedBy nat_cmp (keys_of (e ∷ ids)) → is_at (nat_cmp id) e.0 ≡ true → lock_of ids id ≡ None
  none-behind e ids up hit =
      lookup-none (is_at (nat_cmp id)) ids
      (none_past_head (eq_by_cmp_equiv nat_cmp_total) id e ids (IsDistinct-from_sorted nat_cmp (keys_of (e ∷ ids)) up) hit)

  tail-up : (e : ℕ × Lock) (ids : List (ℕ × Lock)) → IsStrictlySortedBy nat_cmp (keys_of (e ∷ ids)) → IsStrictlySortedBy nat_cmp (keys_of ids)
  unfolding IsStrictlySortedBy
  tail-up e ids up = up.1

  -- where there is one, it is the one
  pub named-is : (ids : List (ℕ × Lock)) (lock : Lock) → IsStrictlySortedBy nat_cmp (keys_of ids) → Keyed ids → lock_of ids id ≡ Some lock
      → list_any (is_named file id) (values_of ids) ≡ is_of lock file
  named-is [] lock up keyed h = absurd (cc)
  named-is (e ∷ ids) lock up keyed h = go (is_at (nat_cmp id) e.0) refl (λ g. named-is ids lock (tail-up e ids up) (All-tail IsKeyed e ids keyed) g) h
    where
      key : e.0 ≡ e.1.id
      key = All-head IsKeyed e ids keyed

      rest : Keyed ids
      rest = All-tail IsKeyed e ids keyed

      here : (b : Bool) → is_of e.1 file ≡ b → is_at (nat_cmp id) e.0 ≡ true → list_any (is_named file id) (values_of (e ∷ ids)) ≡ b
      here true of hit = rw (named-here e key hit ∙ of) refl
      here false of hit = rw (named-here e key hit ∙ of) (none-named ids rest (none-behind e ids up hit))

      go : (b : Bool) → is_at (nat_cmp id) e.0 ≡ b → (lock_of ids id ≡ Some lock → list_any (is_named file id) (values_of ids) ≡ is_of lock file)
          → cond b (Some e.1) (lock_of ids id) ≡ Some lock → list_any (is_named file id) (values_of (e ∷ ids)) ≡ is_of lock file
      go true hit more h = let same : e.1 ≡ lock = cc in here (is_of e.1 file) refl hit ∙ ap (λ (l : Lock). is_of l file) same
      go false hit more h = rw (named-other e key hit) (more h)

  -- without it
  pub values-remove : (ids : List (ℕ × Lock)) (lock : Lock) → IsStrictlySortedBy nat_cmp (keys_of ids) → Keyed ids → lock_of ids id ≡ Some lock → is_of lock file ≡ true
      → values_of (remove_entry (is_at (nat_cmp id)) ids) ≡ filter (λ (l : Lock). not (is_named file id l)) (values_of ids)
  values-remove [] lock up keyed h of = absurd (cc)
  values-remove (e ∷ ids) lock up keyed h of = go (is_at (nat_cmp id) e.0) refl (λ g. values-remove ids lock (tail-up e ids up) (All-tail IsKeyed e ids keyed) g of) h
    where
      key : e.0 ≡ e.1.id
      key = All-head IsKeyed e ids keyed

      rest : Keyed ids
      rest = All-tail IsKeyed e ids keyed

      go : (b : Bool) → is_at (nat_cmp id) e.0 ≡ b
          → (lock_of ids id ≡ Some lock → values_of (remove_entry (is_at (nat_cmp id)) ids) ≡ filter (λ (l : Lock). not (is_named file id l)) (values_of ids))
          → cond b (Some e.1) (lock_of ids id) ≡ Some lock
          → values_of (remove_entry (is_at (nat_cmp id)) (e ∷ ids)) ≡ filter (λ (l : Lock). not (is_named file id l)) (values_of (e ∷ ids))
      go true hit more h =
          let same : e.1 ≡ lock = cc in
          let named : is_named file id e.1 ≡ true = named-here e key hit ∙ (ap (λ (l : Lock). is_of l file) same ∙ of) in
          rw (hit, named) (sym (filter-none (is_named file id) (λ (l : Lock). not (is_named file id l)) (λ l fails. ap not fails) (values_of ids) (none-named ids rest (none-behind e ids up hit))))
      go false hit more h = rw (hit, named-other e key hit) (ap (λ r. e.1 ∷ r) (more h))
