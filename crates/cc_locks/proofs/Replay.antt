-- The replay of the calls, after one more.
use Rattle.std.proofs.Common.{◌≡◌, ℕ, ◌+◌, ◌<◌, ◌≤◌, Bool, true, false, not, Option, None, Some, IsSomeAnd, List, [], ◌∷◌, ◌++◌, All, length, get_or, refl, sym, ◌∙◌, ap, subst, arith}
use Rattle.std.specs.List.{AllPairs, Contains, filter, list_any}
use Rattle.std.proofs.lemmas.Bool.{false_from_ne_true}
use Rattle.std.proofs.lemmas.List.Elements.{All-filter, All-push, All-weaker, Contains-get_or}
use Rattle.std.proofs.lemmas.List.Kept.{AllPairs-filter}
use Rattle.std.proofs.lemmas.List.Quantifiers.{all_pairs_push}
use Rattle.cc_entry.specs.Place.{File, Range}
use Rattle.cc_entry.specs.Locks.{LockTable, lock_conflicts, lock_conflict, is_named, next_lock, after_lock, after_unlock, lock_answer, unlock_answer, locks_after, AreAnswered, AreCompatible}
use Rattle.cc_entry.specs.declared.lock.Lock.{Lock}
use Rattle.cc_entry.specs.declared.lock.LockCall.{LockCall}
use Rattle.cc_entry.specs.declared.lock.LockCall.TheVariants as call
use Rattle.cc_locks.specs.Locks.{HeldLocks, held_locks, IsReplayed, locked, unlocked}
use Rattle.cc_locks.proofs.Least.{IsLeast-list}

-- where there is no least id that conflicts, nothing does
none-conflicts : (locks : List Lock) (range : Range) (exclusive : Bool) → lock_conflict locks range exclusive ≡ None
    → (k : ℕ) (d : Lock) → k < length locks → lock_conflicts (get_or locks k d) range exclusive ≡ false
none-conflicts locks range exclusive none k d lt =
    let all = IsLeast-list (λ (l : Lock). lock_conflicts l range exclusive) (λ (l : Lock). l.id) locks in
    false_from_ne_true (lock_conflicts (get_or locks k d) range exclusive)
    (λ pick. subst (λ (o : Option ℕ). IsSomeAnd o (λ n. n ≤ (get_or locks k d).id)) none (all.least (get_or locks k d) (Contains-get_or locks k d lt) pick))

-- a lock that was granted
pub IsReplayed-granted : (old : HeldLocks) (file : File) (range : Range) (exclusive : Bool) → IsReplayed old → lock_conflict old.table.locks range exclusive ≡ None
    → IsReplayed (locked old file range exclusive None)
IsReplayed-granted old file range exclusive i free = record {
  table = sym (ap (λ (t : LockTable). after_lock t file range exclusive (lock_conflict t.locks range exclusive)) (sym i.table) ∙ ap (λ (o : Option ℕ). after_lock old.table file range exclusive o) free);
  answered = (ap (λ (t : LockTable). lock_answer t (lock_conflict t.locks range exclusive)) (sym i.table) ∙ ap (λ (o : Option ℕ). lock_answer old.table o) free, i.answered);
  compatible = all_pairs_push (λ (earlier : Lock) (later : Lock). lock_conflicts earlier later.span later.exclusive ≡ false) old.table.locks (next_lock old.table file range exclusive) i.compatible (none-conflicts old.table.locks range exclusive free);
  numbered = All-push (λ (l : Lock). l.id ≤ old.table.granted + 1) old.table.locks (next_lock old.table file range exclusive)
      (All-weaker (λ (l : Lock). l.id ≤ old.table.granted) (λ (l : Lock). l.id ≤ old.table.granted + 1) (λ l le. omega arith) old.table.locks i.numbered) (omega arith);
}

-- a lock that was refused
pub IsReplayed-refused : (old : HeldLocks) (file : File) (range : Range) (exclusive : Bool) (id : ℕ) → IsReplayed old → lock_conflict old.table.locks range exclusive ≡ Some id
    → IsReplayed (locked old file range exclusive (Some id))
IsReplayed-refused old file range exclusive id i conflict = record {
  table = sym (ap (λ (t : LockTable). after_lock t file range exclusive (lock_conflict t.locks range exclusive)) (sym i.table) ∙ ap (λ (o : Option ℕ). after_lock old.table file range exclusive o) conflict);
  answered = (ap (λ (t : LockTable). lock_answer t (lock_conflict t.locks range exclusive)) (sym i.table) ∙ ap (λ (o : Option ℕ). lock_answer old.table o) conflict, i.answered);
  compatible = i.compatible;
  numbered = i.numbered;
}

-- a lock that was to end
pub IsReplayed-unlocked : (old : HeldLocks) (file : File) (id : ℕ) → IsReplayed old → IsReplayed (unlocked old file id)
IsReplayed-unlocked old file id i = record {
  table = ap (λ (t : LockTable). after_unlock t file id) i.table;
  answered = (ap (λ (t : LockTable). unlock_answer t file id) (sym i.table), i.answered);
  compatible = AllPairs-filter (λ (earlier : Lock) (later : Lock). lock_conflicts earlier later.span later.exclusive ≡ false) (λ (l : Lock). not (is_named file id l)) old.table.locks i.compatible;
  numbered = All-filter (λ (l : Lock). not (is_named file id l)) (λ (l : Lock). l.id ≤ old.table.granted) old.table.locks i.numbered;
}
