-- The least lock that conflicts, class by class.
use Rattle.std.proofs.Common.{◌≡◌, ℕ, ◌+◌, ◌-◌, ◌*◌, ◌/◌, ◌^◌, ◌<◌, ◌≤◌, min, max, Bool, true, false, ltb, ◌&&◌, not, ◌||◌, Option, None, Some, IsSomeAnd, List, ◌⊎◌, inl, inr, map, get_or, refl, sym, ◌∙◌, ap, subst, arith, nat_cmp, ltb-true}
use Rattle.std.specs.List.{Contains, filter, reduce}
use Rattle.std.specs.Ordering.{eq_by_cmp}
use Rattle.std.specs.Cmp.{nat_cmp_total, eq_by_cmp_equiv}
use Rattle.std.specs.Map.{keys_of, values_of}
use Rattle.std.specs.BTreeMap.Range.{range_contains, entries_between}
use Rattle.std.specs.declared.ops.Bound.TheVariants.{Included, Excluded}
use Rattle.std.proofs.lemmas.Bool.{and_parts, cases_lt}
use Rattle.std.proofs.lemmas.Nat.{pow-add}
use Rattle.std.proofs.lemmas.Map.Views.{tells_apart, Contains-from_lookup, lookup-from_Contains}
use Rattle.std.proofs.lemmas.Map.Made.{Contains-from_values_of, Contains-values_of}
use Rattle.std.proofs.lemmas.Map.Lookups.{exact_unsigned}
use Rattle.std.proofs.lemmas.Map.Keys.{IsDistinct-from_sorted}
use Rattle.cc_entry.specs.Place.{Range}
use Rattle.cc_entry.specs.Locks.{least_lock_id, overlaps}
use Rattle.cc_entry.specs.declared.lock.Lock.{Lock}
use Rattle.cc_locks.specs.declared.asked.Asked.{Asked}
use Rattle.cc_locks.specs.declared.asked.Asked.TheVariants as asked
use Rattle.cc_locks.specs.Asked.{span_of, conflicts}
use Rattle.cc_locks.specs.Place.{LockPlace, place_of, place_cmp, class_of, lesser_id, lock_of, lock_at, LocksAreIndexed, CoversClass, IsLeastOfClass}
use Rattle.cc_locks.proofs.Order.{place_total, place_exact, place-within, class-le, class-fits}
use Rattle.cc_locks.proofs.Members.{Contains-from_filter, Contains-filter}
use Rattle.cc_locks.proofs.Least.{IsLeast, IsLeast-list, IsLeast-unique, lesser-one, lesser-left, lesser-right}

record Meets (lock range : Range) : Type 0 where
  pub before_end : lock.from < range.to
  pub past_start : range.from < lock.to
  pub some : lock.from < lock.to

overlaps-meets : (lock range : Range) → overlaps lock range ≡ true → Meets lock range
overlaps-meets lock range h =
    let lt : max lock.from range.from < min lock.to range.to = ltb-true (max lock.from range.from) (min lock.to range.to) h in
    record { before_end = omega arith; past_start = omega arith; some = omega arith }

-- what conflicts overlaps
conflicts-meets : (a : Asked) (lock : Lock) → conflicts a lock ≡ true → Meets lock.span (span_of a)
conflicts-meets (asked.Read file range) lock h = overlaps-meets lock.span range (and_parts (overlaps lock.span range) _ h).0
conflicts-meets (asked.Write file range) lock h = overlaps-meets lock.span range (and_parts (overlaps lock.span range) _ h).0
conflicts-meets (asked.Lock range exclusive) lock h = overlaps-meets lock.span range (and_parts (overlaps lock.span range) _ h).0

module _ (ids : List (ℕ × Lock)) (places : List (LockPlace × Lock)) (used : List Bool) (i : LocksAreIndexed ids places used) where
  -- a lock of the list is the one of an id
  of_id : (lock : Lock) → Contains (values_of ids) lock → (id : ℕ) × (lock_of ids id ≡ Some lock)
  of_id lock has =
      let key = Contains-from_values_of ids lock has in
      (key.0, lookup-from_Contains {eq = eq_by_cmp nat_cmp} (eq_by_cmp_equiv nat_cmp_total) key.0 lock ids (IsDistinct-from_sorted nat_cmp (keys_of ids) i.ids_ascend) key.1)

  -- a lock at a place is of the list
  listed : (e : LockPlace × Lock) → Contains places e → Contains (values_of ids) e.1
  listed e has =
      let at : lock_at places e.0 ≡ Some e.1 = lookup-from_Contains {eq = eq_by_cmp place_cmp} (eq_by_cmp_equiv place_total) e.0 e.1 places (IsDistinct-from_sorted place_cmp (keys_of places) i.places_ascend) has in
      let by_id = (i.placed e.0 e.1 at).1 in
      Contains-values_of ids e.1.id e.1 (Contains-from_lookup {eq = eq_by_cmp nat_cmp} (tells_apart exact_unsigned) e.1.id e.1 ids by_id)

  -- a class that was never used has no lock
  pub IsLeastOfClass-none : (a : Asked) (class : ℕ) → get_or used class false ≡ false → IsLeastOfClass a (values_of ids) class None
  IsLeastOfClass-none a class unused = record {
    one = λ id h. absurd (cc);
    least = λ lock has pick at.
        let by = of_id lock has in
        let noted : get_or used class false ≡ true = subst (λ k. get_or used k false ≡ true) at (i.noted by.0 lock by.1) in
        absurd (cc);
  }

  -- those that conflict begin within the reach of the class
  pub IsLeastOfClass-found : (a : Asked) (class reach low high : ℕ) (found : Option ℕ) → CoversClass class reach → low ≡ (span_of a).from - reach → high ≡ (span_of a).to
      → found ≡ reduce min (map (λ (e : LockPlace × Lock). e.1.id) (filter (λ (e : LockPlace × Lock). conflicts a e.1) (entries_between place_cmp (Included (class, low, 0)) (Excluded (class, high, 0)) places)))
      → IsLeastOfClass a (values_of ids) class found
  IsLeastOfClass-found a class reach low high found covers from to is = record {
    one = λ id h.
        let r = best.one id h in
        (r.0.1, listed r.0 (Contains-from_filter inside r.0 places r.1), r.2, r.3);
    least = λ lock has pick at.
        let by = of_id lock has in
        let there = Contains-from_lookup {eq = eq_by_cmp place_cmp} (tells_apart place_exact) (place_of lock) lock places (i.held by.0 lock by.1) in
        let m = conflicts-meets a lock pick in
        let fits = i.sized by.0 lock by.1 in
        let len : lock.span.to - lock.span.from ≤ reach = covers (lock.span.to - lock.span.from) fits (subst (λ k. lock.span.to - lock.span.from < 2 ^ k) at (class-fits lock.span fits)) in
        let start : low ≤ lock.span.from = omega (arith, m.before_end, m.past_start, m.some, len, from) in
        let end : lock.span.from < high = omega (arith, m.before_end, to) in
        best.least (place_of lock, lock) (Contains-filter inside (place_of lock, lock) places (place-within class low high (place_of lock) at start end) there) pick;
  }
    where
      inside : LockPlace × Lock → Bool
      inside e = range_contains place_cmp (Included (class, low, 0)) (Excluded (class, high, 0)) e.0

      best : IsLeast (λ (e : LockPlace × Lock). conflicts a e.1) (λ (e : LockPlace × Lock). e.1.id) (Contains (filter inside places)) found
      best = subst (IsLeast (λ (e : LockPlace × Lock). conflicts a e.1) (λ (e : LockPlace × Lock). e.1.id) (Contains (filter inside places))) (sym is) (IsLeast-list (λ (e : LockPlace × Lock). conflicts a e.1) (λ (e : LockPlace × Lock). e.1.id) (filter inside places))

-- the least id of a lock that conflicts, of the classes below one
pub record IsLeastBelow (a : Asked) (locks : List Lock) (class : ℕ) (found : Option ℕ) : Type 0 where
  pub one : (id : ℕ) → found ≡ Some id → (lock : Lock) × Contains locks lock × (conflicts a lock ≡ true) × (lock.id ≡ id)
  pub least : (lock : Lock) → Contains locks lock → conflicts a lock ≡ true → class_of lock.span < class → IsSomeAnd found (λ id. id ≤ lock.id)

pub IsLeastBelow-start : (a : Asked) (locks : List Lock) → IsLeastBelow a locks 0 None
IsLeastBelow-start a locks = record { one = λ id h. absurd (cc); least = λ lock has pick lt. absurd (omega arith) }

pub IsLeastBelow-next : (a : Asked) (locks : List Lock) (class : ℕ) (found next : Option ℕ) → IsLeastBelow a locks class found → IsLeastOfClass a locks class next → IsLeastBelow a locks (class + 1) (lesser_id found next)
IsLeastBelow-next a locks class found next below of = record {
  one = λ id h. elim (lesser-one found next id h) [ inl w ↦ below.one id w | inr w ↦ of.one id w ];
  least = λ lock has pick lt. elim (cases_lt (class_of lock.span) class) [
    | inl less ↦ lesser-left found next lock.id (below.least lock has pick less)
    | inr from ↦ lesser-right found next lock.id (of.least lock has pick (omega arith))
  ];
}

pub IsLeastBelow-end : (a : Asked) (locks : List Lock) (found : Option ℕ) → IsLeastBelow a locks 65 found → found ≡ least_lock_id (conflicts a) locks
IsLeastBelow-end a locks found below =
    IsLeast-unique (conflicts a) (λ (l : Lock). l.id) (Contains locks) found (least_lock_id (conflicts a) locks) all (IsLeast-list (conflicts a) (λ (l : Lock). l.id) locks)
  where
    all : IsLeast (conflicts a) (λ (l : Lock). l.id) (Contains locks) found
    all = record { one = below.one; least = λ lock has pick. below.least lock has pick (omega (arith, class-le lock.span)) }

pub Covers-start : CoversClass 0 0
Covers-start = λ len fits lt. omega arith

pub Covers-next : (class reach next : ℕ) → CoversClass class reach → (2 * reach + 1 ≤ next) ⊎ (2 ^ 64 ≤ next + 1) → CoversClass (class + 1) next
Covers-next class reach next covers (inr top) = λ len fits lt. omega arith
Covers-next class reach next covers (inl double) = λ len fits lt.
    let pow : 2 ^ (class + 1) ≡ 2 ^ class * 2 = pow-add 2 class 1 in
    let half : len / 2 < 2 ^ class = omega arith in
    let le : len / 2 ≤ reach = covers (len / 2) (omega arith) half in
    omega arith

-- twice the reach and one more, or the greatest that there is
pub doubled : (reach twice next : ℕ) → twice ≡ min (reach * 2) (2 ^ 64 - 1) → next ≡ min (twice + 1) (2 ^ 64 - 1) → (2 * reach + 1 ≤ next) ⊎ (2 ^ 64 ≤ next + 1)
doubled reach twice next a b = elim (cases_lt (2 * reach + 1) (2 ^ 64)) [ inl lt ↦ inl (omega arith) | inr top ↦ inr (omega arith) ]
