-- Where locks stand, so that those that overlap a range are found.
use Rattle.std.specs.Prelude.{◌≡◌, ℕ, ◌-◌, ◌^◌, ◌<◌, ◌≤◌, min, Bool, true, false, List, Option, None, Some, IsSomeAnd, All, slice_index_or}
use Rattle.std.specs.declared.cmp.Ordering.{Ordering}
use Rattle.std.specs.Ordering.{nat_cmp, ordering_then}
use Rattle.std.specs.List.{Contains}
use Rattle.std.specs.Int.{w64, leading_zeros}
use Rattle.std.specs.Map.{lookup, keys_of}
use Rattle.std.specs.BTreeMap.{is_at}
use Rattle.std.specs.List.Sorted.{IsStrictlySortedBy}
use Rattle.cc_entry.specs.Place.{Range}
use Rattle.cc_entry.specs.declared.lock.Lock.{Lock}
use Rattle.cc_locks.specs.Asked.{conflicts}
use Rattle.cc_locks.specs.declared.asked.Asked.{Asked}

-- a class of lengths, a first byte, an id
abbrev pub LockPlace : Type 0
LockPlace = ℕ × ℕ × ℕ

-- the class of a range's length: the number of its binary digits
unfoldable pub class_of : Range → ℕ
class_of range = 64 - leading_zeros w64 (range.to - range.from)

abbrev pub place_of : Lock → LockPlace
place_of lock = (class_of lock.span, lock.span.from, lock.id)

-- the order of places: by class, then by first byte, then by id
abbrev pub place_cmp : LockPlace → LockPlace → Ordering
place_cmp a b = ordering_then (ordering_then (nat_cmp a.0 b.0) (nat_cmp a.1 b.1)) (nat_cmp a.2 b.2)

-- the lesser of two ids, either of which may be missing
abbrev pub lesser_id : Option ℕ → Option ℕ → Option ℕ
lesser_id None b = b
lesser_id (Some a) None = Some a
lesser_id (Some a) (Some b) = Some (min a b)

-- the lock of an id, and the lock at a place
abbrev pub lock_of : List (ℕ × Lock) → ℕ → Option Lock
lock_of ids id = lookup (is_at (nat_cmp id)) ids

abbrev pub lock_at : List (LockPlace × Lock) → LockPlace → Option Lock
lock_at places place = lookup (is_at (place_cmp place)) places

-- the same locks stand by their ids and at their places, their lengths are numbers of 64 digits, and their classes are noted
pub record LocksAreIndexed (ids : List (ℕ × Lock)) (places : List (LockPlace × Lock)) (used : List Bool) : Type 0 where
  pub ids_ascend : IsStrictlySortedBy nat_cmp (keys_of ids)
  pub places_ascend : IsStrictlySortedBy place_cmp (keys_of places)
  pub keyed : All (λ e. e.0 ≡ e.1.id) ids
  pub held : (id : ℕ) (lock : Lock) → lock_of ids id ≡ Some lock → lock_at places (place_of lock) ≡ Some lock
  pub placed : (place : LockPlace) (lock : Lock) → lock_at places place ≡ Some lock →
      (place ≡ place_of lock) × (lock_of ids lock.id ≡ Some lock)
  pub sized : (id : ℕ) (lock : Lock) → lock_of ids id ≡ Some lock → lock.span.to - lock.span.from < 2 ^ 64
  pub noted : (id : ℕ) (lock : Lock) → lock_of ids id ≡ Some lock → slice_index_or used (class_of lock.span) false ≡ true

-- no length of a class is above `reach`
abbrev pub CoversClass : ℕ → ℕ → Type 0
CoversClass class reach = (len : ℕ) → len < 2 ^ 64 → len < 2 ^ class → len ≤ reach

-- the least id of those locks of a class that conflict; it may be that of another one that conflicts, if that is less
pub record IsLeastOfClass (asked : Asked) (locks : List Lock) (class : ℕ) (found : Option ℕ) : Type 0 where
  pub one : (id : ℕ) → found ≡ Some id → (lock : Lock) × Contains locks lock × (conflicts asked lock ≡ true) × (lock.id ≡ id)
  pub least : (lock : Lock) → Contains locks lock → conflicts asked lock ≡ true → class_of lock.span ≡ class →
      IsSomeAnd found (λ id. id ≤ lock.id)
