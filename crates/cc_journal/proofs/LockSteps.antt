-- How the locks of the streams step, by the kind of entry.
use Rattle.std.specs.Prelude.{◌≡◌, ◌≢◌, ℕ, suc, ◌+◌, ◌-◌, ◌<◌, ◌==◌, Bool, true, false, List, [], ◌∷◌, ◌++◌, length, slice_index_or, slice_set, Option, None, Some, Result, Ok, Err, IfErr, IfOk, IsOk, OnOk, if◌then◌else◌, refl}
use Rattle.std.proofs.Common.{ap, sym, ◌∙◌, subst, arith}
use Rattle.std.proofs.lemmas.Bool.{eqb-true, eq-eqb}
use Rattle.std.proofs.lemmas.Grind.{get_or-set_at}
use Rattle.std.proofs.lemmas.Result.{IfErr-weaker, IfOk-weaker}
use Rattle.std.proofs.lemmas.List.{get_or-set_other, get_or_append_left, get_or_push, length-append, length-set, set-get_or}
use Rattle.cc_entry.specs.Locks.{LockTable, table_after_call, after_lock, lock_conflict, locks_after, no_locks, unlock_answer}
use Rattle.cc_entry.specs.Place.{File, Range}
use Rattle.cc_entry.specs.declared.entry.Entry.{Entry}
use Rattle.cc_entry.specs.declared.entry.Entry.TheVariants as entry
use Rattle.cc_entry.specs.declared.error.CcError.{CcError}
use Rattle.cc_entry.specs.declared.error.CcError.TheVariants as error
use Rattle.cc_entry.specs.declared.lock.LockCall.{LockCall}
use Rattle.cc_entry.specs.declared.lock.LockCall.TheVariants as call
use Rattle.cc_entry.specs.declared.hold.Deferral.{Deferral}
use Rattle.cc_dirty.specs.declared.row.Row.{Row}
use Rattle.cc_locks.specs.Locks.{HeldLocks, locked, unlocked}
use Rattle.cc_locks.specs.Locks as one
use Rattle.cc_model.specs.Locks.{lock_call, lock_calls, locks_of}
use Rattle.cc_journal.specs.Journal.{JournalState}
use Rattle.cc_journal.specs.Locks.{LocksAreNumbered, LocksStand, is_lock_call, lock_in_way, Granted, Refused, LockEnded, GrantsLock, RefusesLock, EndsLock}

apart : (b : Bool) → b ≡ true → b ≡ false → ⊥
apart b is other = let it : true ≡ false = sym is ∙ other in absurd (cc it)

-- an entry that makes and ends no lock
same_calls : (e : Entry) (past : List Entry) (s : ℕ) → is_lock_call e ≡ false → lock_calls (e ∷ past) s ≡ lock_calls past s
unfolding lock_calls
same_calls (entry.Locked pass file range exclusive granted id) past s other = absurd (cc)
same_calls (entry.Unlocked pass file id gone) past s other = absurd (cc)
same_calls e past s other = refl

pub locks_other : (e : Entry) (past : List Entry) (locks : List HeldLocks) → is_lock_call e ≡ false → LocksStand past locks → LocksStand (e ∷ past) locks
locks_other e past locks other stands = λ s d below. stands s d below ∙ ap locks_after (sym (same_calls e past s other))

-- nothing happened yet
pub locks_none : (locks : List HeldLocks) → ((s : ℕ) (d : HeldLocks) → s < 16 → (slice_index_or locks s d).table ≡ no_locks) → LocksStand [] locks
unfolding lock_calls
locks_none locks none = none

-- so many streams have locks, and none was granted
pub record AreFresh (count : ℕ) (locks : List HeldLocks) : Type 0 where
  pub count_is : length locks ≡ count
  pub each : (s : ℕ) (d : HeldLocks) → s < count → ((slice_index_or locks s d).stream ≡ s) × ((slice_index_or locks s d).table ≡ no_locks)

pub fresh_more : (count : ℕ) (locks : List HeldLocks) (next : HeldLocks) → next.stream ≡ count → next.table ≡ no_locks → AreFresh count locks → AreFresh (count + 1) (locks ++ next ∷ [])
fresh_more count locks next number none fresh = record {
  count_is = omega (arith, length-append locks (next ∷ []), fresh.count_is);
  each = λ s d below. go s d below (s == count) refl;
}
  where
    go : (s : ℕ) (d : HeldLocks) → s < count + 1 → (b : Bool) → (s == count) ≡ b
        → ((slice_index_or (locks ++ next ∷ []) s d).stream ≡ s) × ((slice_index_or (locks ++ next ∷ []) s d).table ≡ no_locks)
    go s d below true here =
        let at : s ≡ count = eqb-true s count here in
        rw (get_or_push locks next d s (fresh.count_is ∙ sym at)) (number ∙ sym at, none)
    go s d below false away =
        let other : s ≢ count = λ e. apart (s == count) (eq-eqb s count e) away in
        let within : s < count = omega (arith, below, other) in
        rw (get_or_append_left locks (next ∷ []) d s (omega (arith, within, fresh.count_is))) (fresh.each s d within)

pub fresh_numbered : (locks : List HeldLocks) → AreFresh 16 locks → LocksAreNumbered locks
fresh_numbered locks fresh = record { count = fresh.count_is; each = λ s d below. (fresh.each s d below).0 }

pub fresh_stands : (locks : List HeldLocks) → AreFresh 16 locks → LocksStand [] locks
fresh_stands locks fresh = locks_none locks (λ s d below. (fresh.each s d below).1)

-- a call that an entry tells of, of one stream
pub locks_called : (e : Entry) (it : LockCall) (stream : ℕ) (past : List Entry) (locks : List HeldLocks) (now : HeldLocks) → stream < length locks
    → ((s : ℕ) → lock_call s e ≡ (if stream == s then Some it else None)) → now.table ≡ table_after_call (locks_of past stream) it
    → LocksStand past locks → LocksStand (e ∷ past) (slice_set locks stream now)
unfolding lock_calls
locks_called e it stream past locks now within tells after stands = λ s d below. go s d below (stream == s) refl
  where
    go : (s : ℕ) (d : HeldLocks) → s < 16 → (b : Bool) → (stream == s) ≡ b → (slice_index_or (slice_set locks stream now) s d).table ≡ locks_of (e ∷ past) s
    go s d below true here =
        let same : stream ≡ s = eqb-true stream s here in
        rw (tells s, here, get_or-set_at locks stream s now d (sym same) within) (rw same at after)
    go s d below false away =
        rw (tells s, away, get_or-set_other locks stream s now d (λ e. apart (stream == s) (eq-eqb stream s (sym e)) away)) (stands s d below)

-- the streams stay at their numbers
pub numbered_called : (stream : ℕ) (locks : List HeldLocks) (now : HeldLocks) → stream < length locks → now.stream ≡ stream → LocksAreNumbered locks → LocksAreNumbered (slice_set locks stream now)
numbered_called stream locks now within is numbered = record {
  count = length-set locks stream now ∙ numbered.count;
  each = λ s d below. go s d below (stream == s) refl;
}
  where
    go : (s : ℕ) (d : HeldLocks) → s < 16 → (b : Bool) → (stream == s) ≡ b → (slice_index_or (slice_set locks stream now) s d).stream ≡ s
    go s d below true here =
        let same : stream ≡ s = eqb-true stream s here in
        rw (get_or-set_at locks stream s now d (sym same) within) (is ∙ same)
    go s d below false away =
        rw (get_or-set_other locks stream s now d (λ e. apart (stream == s) (eq-eqb stream s (sym e)) away)) (numbered.each s d below)

-- a lock was granted by the locks of its stream
pub granted_by : (past : List Entry) (locks : List HeldLocks) (was now : HeldLocks) (file : File) (range : Range) (exclusive : Bool) (id : ℕ) → file.stream < length locks
    → was.table ≡ locks_of past file.stream → one.Grants was now file range exclusive id
    → LocksStand past locks → Granted past (slice_set locks file.stream now) file range exclusive id
granted_by past locks was now file range exclusive id within is grants stands = record {
  free = free;
  next = grants.next ∙ omega (arith, ap (λ (t : LockTable). t.granted) is);
  stands = λ pass. locks_called (entry.Locked pass file range exclusive true id) (call.Lock file range exclusive true id) file.stream past locks now within (λ s. refl) after stands;
}
  where
    free : lock_in_way past file range exclusive ≡ None
    free = ap (λ (t : LockTable). lock_conflict t.locks range exclusive) (sym is) ∙ grants.free

    after : now.table ≡ table_after_call (locks_of past file.stream) (call.Lock file range exclusive true id)
    after = ap (λ (h : HeldLocks). h.table) grants.after ∙ (ap (λ (t : LockTable). after_lock t file range exclusive None) is
        ∙ ap (λ (o : Option ℕ). after_lock (locks_of past file.stream) file range exclusive o) (sym free))

-- a lock was refused by them
pub refused_by : (past : List Entry) (locks : List HeldLocks) (was now : HeldLocks) (file : File) (range : Range) (exclusive : Bool) (e : CcError) → file.stream < length locks
    → was ≡ slice_index_or locks file.stream was → was.table ≡ locks_of past file.stream → one.Refuses was now file range exclusive e
    → LocksStand past locks → Refused past locks (slice_set locks file.stream now) file range exclusive e
refused_by past locks was now file range exclusive (error.LockConflict id) within here is refuses stands =
    let way : lock_in_way past file range exclusive ≡ Some id = ap (λ (t : LockTable). lock_conflict t.locks range exclusive) (sym is) ∙ refuses.0 in
    let after : now.table ≡ table_after_call (locks_of past file.stream) (call.Lock file range exclusive false id) =
    ap (λ (h : HeldLocks). h.table) refuses.1 ∙ (is ∙ ap (λ (o : Option ℕ). after_lock (locks_of past file.stream) file range exclusive o) (sym way)) in
    (way, λ pass. locks_called (entry.Locked pass file range exclusive false id) (call.Lock file range exclusive false id) file.stream past locks now within (λ s. refl) after stands)
refused_by past locks was now file range exclusive error.NoMemory within here is refuses stands = (
  ap (λ (t : LockTable). lock_conflict t.locks range exclusive) (sym is) ∙ refuses.0,
  ap (λ (h : HeldLocks). slice_set locks file.stream h) (refuses.1 ∙ here) ∙ set-get_or locks file.stream was,
)
refused_by past locks was now file range exclusive other within here is refuses stands = absurd refuses

-- nothing has changed where it was refused otherwise: memory was wanting
pub refused_rest : (past : List Entry) (locks now : List HeldLocks) (file : File) (range : Range) (exclusive : Bool) (e : CcError) → ((id : ℕ) → e ≡ error.LockConflict id → ⊥)
    → Refused past locks now file range exclusive e → (e ≡ error.NoMemory) × (lock_in_way past file range exclusive ≡ None) × (now ≡ locks)
refused_rest past locks now file range exclusive (error.LockConflict id) other refused = absurd (other id refl)
refused_rest past locks now file range exclusive error.NoMemory other refused = (refl, refused.0, refused.1)
refused_rest past locks now file range exclusive e other refused = absurd refused

-- a lock was ended by them
pub ended_by : (past : List Entry) (locks : List HeldLocks) (was now : HeldLocks) (file : File) (id : ℕ) (gone : Bool) → file.stream < length locks
    → was.table ≡ locks_of past file.stream → gone ≡ unlock_answer was.table file id → now ≡ unlocked was file id
    → LocksStand past locks → LockEnded past (slice_set locks file.stream now) file id gone
ended_by past locks was now file id gone within is owned after stands = record {
  owned = owned ∙ ap (λ (t : LockTable). unlock_answer t file id) is;
  stands = λ pass. locks_called (entry.Unlocked pass file id gone) (call.Unlock file id gone) file.stream past locks now within (λ s. refl)
      (ap (λ (h : HeldLocks). h.table) after ∙ ap (λ (t : LockTable). table_after_call t (call.Unlock file id gone)) is) stands;
}

-- ---- a call for the locks at a place among those of the streams

-- the locks stay those of their stream
stays_locked : (was now : HeldLocks) (file : File) (range : Range) (exclusive : Bool) (r : Result ℕ CcError) → IfOk r (one.Grants was now file range exclusive) → IfErr r (one.Refuses was now file range exclusive) → now.stream ≡ was.stream
stays_locked was now file range exclusive (Ok id) grants refuses = ap (λ (h : HeldLocks). h.stream) grants.after
stays_locked was now file range exclusive (Err (error.LockConflict id)) grants refuses = ap (λ (h : HeldLocks). h.stream) refuses.1
stays_locked was now file range exclusive (Err error.NoMemory) grants refuses = ap (λ (h : HeldLocks). h.stream) refuses.1
stays_locked was now file range exclusive (Err other) grants refuses = absurd refuses

stays_unlocked : (was now : HeldLocks) (file : File) (id : ℕ) (r : Result Bool CcError) → IsOk r → OnOk r (now ≡ unlocked was file id) → now.stream ≡ was.stream
stays_unlocked was now file id (Ok gone) sure rest = ap (λ (h : HeldLocks). h.stream) rest
stays_unlocked was now file id (Err e) sure rest = absurd (cc)

module _ (locks : List HeldLocks) (at : ℕ) (was now : HeldLocks) (file : File) (here : at ≡ file.stream) (below : at < 16) (numbered : LocksAreNumbered locks) (is : was ≡ slice_index_or locks at was) where
  within : at < length locks
  within = omega (arith, below, numbered.count)

  within-stream : file.stream < length locks
  within-stream = omega (arith, within, here)

  is-stream : was ≡ slice_index_or locks file.stream was
  is-stream = is ∙ ap (λ (n : ℕ). slice_index_or locks n was) here

  pub stream_there : was.stream ≡ file.stream
  stream_there = ap (λ (h : HeldLocks). h.stream) is ∙ (numbered.each at was below ∙ here)

  table_there : (past : List Entry) → LocksStand past locks → was.table ≡ locks_of past file.stream
  table_there past stands = ap (λ (h : HeldLocks). h.table) is ∙ (stands at was below ∙ ap (λ (n : ℕ). locks_of past n) here)

  numbered_there : now.stream ≡ was.stream → LocksAreNumbered (slice_set locks at now)
  numbered_there kept = numbered_called at locks now within (kept ∙ (stream_there ∙ sym here)) numbered

  module _ (range : Range) (exclusive : Bool) (r : Result ℕ CcError) (grants : IfOk r (one.Grants was now file range exclusive)) (refuses : IfErr r (one.Refuses was now file range exclusive)) where
    pub locked_numbered : LocksAreNumbered (slice_set locks at now)
    locked_numbered = numbered_there (stays_locked was now file range exclusive r grants refuses)

    pub locked_granted : IfOk r (λ id. (past : List Entry) → LocksStand past locks → Granted past (slice_set locks at now) file range exclusive id)
    locked_granted = IfOk-weaker r (one.Grants was now file range exclusive) (λ id. (past : List Entry) → LocksStand past locks → Granted past (slice_set locks at now) file range exclusive id)
        (λ id granted past stands. subst (λ (n : ℕ). Granted past (slice_set locks n now) file range exclusive id) (sym here)
        (granted_by past locks was now file range exclusive id within-stream (table_there past stands) granted stands)) grants

    pub locked_refused : IfErr r (λ e. (past : List Entry) → LocksStand past locks → Refused past locks (slice_set locks at now) file range exclusive e)
    locked_refused = IfErr-weaker r (one.Refuses was now file range exclusive) (λ e. (past : List Entry) → LocksStand past locks → Refused past locks (slice_set locks at now) file range exclusive e)
        (λ e refused past stands. subst (λ (n : ℕ). Refused past locks (slice_set locks n now) file range exclusive e) (sym here)
        (refused_by past locks was now file range exclusive e within-stream is-stream (table_there past stands) refused stands)) refuses

  module _ (id : ℕ) (r : Result Bool CcError) (sure : IsOk r) (owned : IfOk r (λ gone. gone ≡ unlock_answer was.table file id)) (rest : OnOk r (now ≡ unlocked was file id)) where
    pub unlocked_numbered : LocksAreNumbered (slice_set locks at now)
    unlocked_numbered = numbered_there (stays_unlocked was now file id r sure rest)

    pub unlocked_ended : IfOk r (λ gone. (past : List Entry) → LocksStand past locks → LockEnded past (slice_set locks at now) file id gone)
    unlocked_ended = all r owned rest
      where
        all : (r : Result Bool CcError) → IfOk r (λ gone. gone ≡ unlock_answer was.table file id) → OnOk r (now ≡ unlocked was file id)
            → IfOk r (λ gone. (past : List Entry) → LocksStand past locks → LockEnded past (slice_set locks at now) file id gone)
        all (Ok gone) owned rest = λ past stands. subst (λ (n : ℕ). LockEnded past (slice_set locks n now) file id gone) (sym here)
            (ended_by past locks was now file id gone within-stream (table_there past stands) owned rest stands)
        all (Err e) owned rest = tt

-- ---- the journal with the entry of such a call

module _ {Q : Type 0} (capacity threshold logs : ℕ) (past now : List Entry) (reserved : ℕ) (rows : List Row) (queue : List (Deferral × Q)) (old : JournalState Q)
    (is : record { capacity = capacity; threshold = threshold; logs = logs; entries = past; reserved = reserved; rows = rows; queue = queue } ≡ old) where
  -- with one entry more, on a reserved place
  abbrev pub after : JournalState Q
  after = record { capacity = capacity; threshold = threshold; logs = logs; entries = now; reserved = reserved - 1; rows = rows; queue = queue }

  one_more : (e : Entry) → now ≡ e ∷ past → after ≡ record old { entries = e ∷ old.entries; reserved = old.reserved - 1 }
  one_more e grown = subst (λ (j : JournalState Q). after ≡ record j { entries = e ∷ j.entries; reserved = j.reserved - 1 }) is
      (ap (λ (entries : List Entry). record { capacity = capacity; threshold = threshold; logs = logs; entries = entries; reserved = reserved - 1; rows = rows; queue = queue }) grown)

  pub grants_lock : (pass : ℕ) (file : File) (range : Range) (exclusive : Bool) (id : ℕ) (locks : List HeldLocks) → now ≡ entry.Locked pass file range exclusive true id ∷ past
      → Granted past locks file range exclusive id → GrantsLock old after pass file range exclusive id
  grants_lock pass file range exclusive id locks grown granted = record {
    free = subst (λ (j : JournalState Q). lock_in_way j.entries file range exclusive ≡ None) is granted.free;
    next = subst (λ (j : JournalState Q). id ≡ suc (locks_of j.entries file.stream).granted) is granted.next;
    placed = one_more (entry.Locked pass file range exclusive true id) grown;
  }

  pub refuses_lock : (pass : ℕ) (file : File) (range : Range) (exclusive : Bool) (id : ℕ) (locks left : List HeldLocks) → now ≡ entry.Locked pass file range exclusive false id ∷ past
      → Refused past locks left file range exclusive (error.LockConflict id) → RefusesLock old after pass file range exclusive (error.LockConflict id)
  refuses_lock pass file range exclusive id locks left grown refused = (
    subst (λ (j : JournalState Q). lock_in_way j.entries file range exclusive ≡ Some id) is refused.0,
    one_more (entry.Locked pass file range exclusive false id) grown,
  )

  pub rests_lock : (pass : ℕ) (file : File) (range : Range) (exclusive : Bool) (e : CcError) → e ≡ error.NoMemory → lock_in_way past file range exclusive ≡ None
      → RefusesLock old (record after { entries = past; reserved = reserved }) pass file range exclusive e
  rests_lock pass file range exclusive e is_none free =
      subst (λ (x : CcError). RefusesLock old (record after { entries = past; reserved = reserved }) pass file range exclusive x) (sym is_none)
      (subst (λ (j : JournalState Q). lock_in_way j.entries file range exclusive ≡ None) is free, is)

  pub ends_lock : (pass : ℕ) (file : File) (id : ℕ) (gone : Bool) (locks : List HeldLocks) → now ≡ entry.Unlocked pass file id gone ∷ past
      → LockEnded past locks file id gone → EndsLock old after pass file id gone
  ends_lock pass file id gone locks grown ended = record {
    owned = subst (λ (j : JournalState Q). gone ≡ unlock_answer (locks_of j.entries file.stream) file id) is ended.owned;
    placed = one_more (entry.Unlocked pass file id gone) grown;
  }
