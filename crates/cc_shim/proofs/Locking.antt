-- Calls for locks, and tests against them: their entries may stand, reserve nothing, and need the journal's turn alone; and
-- what the visit to the journal leaves that places them.
use Rattle.std.specs.Prelude.{◌≡◌, ℕ, suc, ◌+◌, ◌-◌, ◌^◌, ◌≤◌, min, Bool, true, false, List, [], ◌∷◌, length, Option, None, Some, Result, Ok, Err, refl}
use Rattle.std.specs.List.{sum_by}
use Rattle.std.proofs.Common.{ap, sym, ◌∙◌, subst, arith, inl, inr}
use Rattle.std.proofs.lemmas.Bool.{eq-eqb}
use Rattle.std.proofs.lemmas.List.Sums.{sum_by-cons}
use Rattle.cc_entry.specs.Place.{File, Range}
use Rattle.cc_entry.specs.Locks.{IsAnswered, LockTable, lock_answer}
use Rattle.cc_entry.specs.declared.entry.Entry.{Entry}
use Rattle.cc_entry.specs.declared.entry.Entry.TheVariants as entry
use Rattle.cc_entry.specs.declared.error.CcError.{CcError}
use Rattle.cc_entry.specs.declared.error.CcError.TheVariants as error
use Rattle.cc_pieces.specs.Locks.{LockLeft, TestLeft, UnlockLeft, tested_range}
use Rattle.cc_journal.specs.Journal.{JournalState, MayBePushed}
use Rattle.cc_journal.specs.Locks.{GrantsLock, RefusesLock}
use Rattle.cc_journal.proofs.GoodEntries.{MayBePushed-good}
use Rattle.cc_model.specs.Locks.{conflict_of, locks_of}
use Rattle.cc_entry.specs.declared.lock.LockCall.TheVariants as lock_call
use Rattle.cc_laws.proofs.HistorySteps.{history-no_effect}
use Rattle.cc_laws.proofs.TurnSteps.{is_quiet-none, is_quiet-unneeded}
use Rattle.cc_model.specs.Allowed.{IsAllowed, IsAllowedSoFar, IsOwed, MayStand, owed_begin}
use Rattle.cc_model.specs.Cache.{all_streams}
use Rattle.cc_model.specs.Covered.{IsCovered, IsCoveredEntry}
use Rattle.cc_model.specs.Good.{IsGood}
use Rattle.cc_model.specs.History.{history}
use Rattle.cc_model.specs.Legal.{IsLegal, IsLegalEntry}
use Rattle.cc_model.specs.Room.{owed_by_stream, stores_unfinished, reserved_in}
use Rattle.cc_model.specs.Setup.{Setup}
use Rattle.cc_model.specs.Turns.{Turn, Device, Book, Log, Journal, needs, is_quiet}
use Rattle.cc_turns.specs.Journal.{JournalStands}
use Rattle.cc_turns.specs.Standing.{Standing, TurnsHeld, holds}
use Rattle.cc_turns.specs.Takes.{Takes, may_be_of, with_journal, without_journal}
use Rattle.cc_writes.specs.Logs.{IsStopAt}
use Rattle.cc_writes.specs.Ways.{IsFull}
use Rattle.cc_writes.proofs.OneVisit.{Visited, Visiting, visited, visiting, stepping-none}
use Rattle.cc_calls.proofs.LogCalls.{idle-grows, only-placed}
use Rattle.cc_calls.proofs.Holding.{so-far}
use Rattle.cc_model.specs.Passes.{HasSeen}
use Rattle.cc_pieces.proofs.Grown.{grew-only}
use Rattle.cc_shim.specs.Ends.{ListEnds}
use Rattle.cc_shim.specs.Locks.{HasTested, LockEnds, LockIn, LockedAt, TestIn, UnlockEnds, UnlockIn}
use Rattle.cc_shim.proofs.Going.{HasGone, ends-here, full-now, on-went}

-- ---- the entries

-- whether an entry tells of a call for a lock, or of a test
abbrev pub tells_lock : Entry → Bool
tells_lock (entry.Locked pass file range exclusive granted id) = true
tells_lock (entry.Unlocked pass file id gone) = true
tells_lock (entry.Tested pass file range write conflict) = true
tells_lock other = false

nothing_owed : (e : Entry) (past : List Entry) → owed_begin past ≡ None → IsOwed (owed_begin past) e
nothing_owed e past none = rw none tt

-- one may stand where the rules give its answer
good-told : (u : Setup) (past : List Entry) (e : Entry) → tells_lock e ≡ true → IsGood u past → MayStand u past e → IsGood u (e ∷ past)
unfolding IsLegal IsLegalEntry IsAllowed IsAllowedSoFar IsCovered IsCoveredEntry
good-told u past (entry.Locked pass file range exclusive granted id) is good may = record {
  legal = (tt, good.legal);
  allowed = ((nothing_owed (entry.Locked pass file range exclusive granted id) past good.allowed.1, may, good.allowed.0), refl);
  covered = (tt, good.covered);
}
good-told u past (entry.Unlocked pass file id gone) is good may = record {
  legal = (tt, good.legal);
  allowed = ((nothing_owed (entry.Unlocked pass file id gone) past good.allowed.1, may, good.allowed.0), refl);
  covered = (tt, good.covered);
}
good-told u past (entry.Tested pass file range write conflict) is good may = record {
  legal = (tt, good.legal);
  allowed = ((nothing_owed (entry.Tested pass file range write conflict) past good.allowed.1, may, good.allowed.0), refl);
  covered = (tt, good.covered);
}
good-told u past other is good may = absurd (cc)

-- one of a test may be pushed
pub pushed-test : (u : Setup) (past : List Entry) (pass : ℕ) (file : File) (range : Range) (write : Bool) (conflict : Option ℕ) → IsGood u past → conflict ≡ conflict_of (locks_of past file.stream).locks write file range → MayBePushed past (entry.Tested pass file range write conflict)
pushed-test u past pass file range write conflict good is =
    let e = entry.Tested pass file range write conflict in
    MayBePushed-good u past e (so-far u (e ∷ past) (good-told u past e refl good is))

sum-same : (f g : ℕ → ℕ) (ns : List ℕ) → ((n : ℕ) → f n ≡ g n) → sum_by f ns ≡ sum_by g ns
sum-same f g [] same = refl
sum-same f g (n ∷ ns) same = sum_by-cons f n ns ∙ rw (same n, sum-same f g ns same) (sym (sum_by-cons g n ns))

reserved-told : (e : Entry) (past : List Entry) → tells_lock e ≡ true → reserved_in (e ∷ past) ≡ reserved_in past
unfolding reserved_in stores_unfinished
reserved-told (entry.Locked pass file range exclusive granted id) past is =
    rw (sum-same (λ s. owed_by_stream (history (entry.Locked pass file range exclusive granted id ∷ past) s)) (λ s. owed_by_stream (history past s)) all_streams (λ s. ap owed_by_stream (history-no_effect (entry.Locked pass file range exclusive granted id) past s refl))) refl
reserved-told (entry.Unlocked pass file id gone) past is =
    rw (sum-same (λ s. owed_by_stream (history (entry.Unlocked pass file id gone ∷ past) s)) (λ s. owed_by_stream (history past s)) all_streams (λ s. ap owed_by_stream (history-no_effect (entry.Unlocked pass file id gone) past s refl))) refl
reserved-told (entry.Tested pass file range write conflict) past is =
    rw (sum-same (λ s. owed_by_stream (history (entry.Tested pass file range write conflict ∷ past) s)) (λ s. owed_by_stream (history past s)) all_streams (λ s. ap owed_by_stream (history-no_effect (entry.Tested pass file range write conflict) past s refl))) refl
reserved-told other past is = absurd (cc)

clash : true ≡ false → ⊥
clash e = absurd (cc)

unneeded : (h : TurnsHeld) (e : Entry) → tells_lock e ≡ true → h.journal ≡ true → (t : Turn) → holds h t ≡ false → needs e t ≡ false
unneeded h e is journal Journal free = absurd (clash (sym journal ∙ free))
unneeded h (entry.Locked pass file range exclusive granted id) is journal (Device n) free = refl
unneeded h (entry.Locked pass file range exclusive granted id) is journal (Book n) free = refl
unneeded h (entry.Locked pass file range exclusive granted id) is journal (Log n) free = refl
unneeded h (entry.Unlocked pass file id gone) is journal (Device n) free = refl
unneeded h (entry.Unlocked pass file id gone) is journal (Book n) free = refl
unneeded h (entry.Unlocked pass file id gone) is journal (Log n) free = refl
unneeded h (entry.Tested pass file range write conflict) is journal (Device n) free = refl
unneeded h (entry.Tested pass file range write conflict) is journal (Book n) free = refl
unneeded h (entry.Tested pass file range write conflict) is journal (Log n) free = refl
unneeded h other is journal t free = absurd (cc)

quiet-told : (h : TurnsHeld) (e : Entry) → tells_lock e ≡ true → h.journal ≡ true → (t : Turn) → holds h t ≡ false → is_quiet t (e ∷ []) ≡ true
quiet-told h e is journal t free = is_quiet-unneeded t e [] (unneeded h e is journal t free) ∙ is_quiet-none t

-- ---- a visit to the journal

module _ {Q : Type 0} (posted : Q → Bool) (w v : Standing) (j k : JournalState Q) (away : w.held.journal ≡ false) (vis : Visiting posted w v j) where
  noted-visited : (e : Entry) → tells_lock e ≡ true → may_be_of w.number e ≡ true → MayStand w.setup j.entries e → k ≡ record j { entries = e ∷ j.entries; rows = k.rows } → Visited posted w v w.in_flight k
  noted-visited e is own may placed = visited posted w v w.in_flight (e ∷ []) j k away vis (record {
    kept = subst (λ (x : JournalState Q). k ≡ record j { entries = e ∷ j.entries; reserved = x.reserved; rows = x.rows }) (sym placed) placed;
    good = subst (λ (past : List Entry). IsGood w.setup past) (sym (ap (λ x. x.entries) placed)) (good-told w.setup j.entries e is vis.good may);
    event = tt;
    own = (own, tt);
    held = quiet-told (record w.held { journal = true }) e is refl;
    reserved = ap (λ x. x.reserved) placed
        ∙ (vis.reserved_is ∙ ap (λ (n : ℕ). n + w.in_flight + v.others) (sym (ap (λ x. reserved_in x.entries) placed ∙ reserved-told e j.entries is)));
  })

  -- the rows stayed too
  told-visited : (e : Entry) → tells_lock e ≡ true → may_be_of w.number e ≡ true → MayStand w.setup j.entries e → k ≡ record j { entries = e ∷ j.entries } → Visited posted w v w.in_flight k
  told-visited e is own may placed =
      noted-visited e is own may (subst (λ (x : JournalState Q). k ≡ record j { entries = e ∷ j.entries; rows = x.rows }) (sym placed) placed)

  kept-visited : k ≡ j → Visited posted w v w.in_flight k
  kept-visited same = visited posted w v w.in_flight [] j k away vis (stepping-none posted w v w.in_flight j.reserved j k vis same vis.reserved_is)

  good-given : Visited posted w v w.in_flight k → IsGood w.setup k.entries
  good-given given = subst (λ (u : Setup). IsGood u k.entries) (ap (λ x. x.setup) given.went.same) given.good

  stopped-full : (A : Type 0) (e : CcError) → IsStopAt 1 j e → k ≡ j → IsFull {A = A} 1 (without_journal k v) (Err e)
  stopped-full A e (inl full) same =
      let given = kept-visited same in
      subst (λ (x : CcError). IsFull {A = A} 1 (without_journal k v) (Err x)) (sym full.0) (
        ap (λ (i : JournalState Q). length i.entries) (sym same),
        omega (arith, full.1, ap (λ (i : JournalState Q). i.reserved) same, ap (λ (i : JournalState Q). length i.entries) same, ap (λ (i : JournalState Q). i.capacity) same, given.journal.reserved_is, given.journal.capacity_is),
      )
  stopped-full A e (inr none) same = subst (λ (x : CcError). IsFull {A = A} 1 (without_journal k v) (Err x)) (sym none) tt

  -- ---- a lock
  module _ (file : File) (range : Range) (exclusive : Bool) where
    stopped-lock : (e : CcError) → IsStopAt 1 j e → LockLeft w.number file range exclusive (Err e) w.seen j.entries × LockedAt w.number file range exclusive (Err e) j.entries
    stopped-lock e (inl full) = subst (λ (x : CcError). LockLeft w.number file range exclusive (Err x) w.seen j.entries × LockedAt w.number file range exclusive (Err x) j.entries) (sym full.0) (idle-grows w j.entries vis.grows, tt)
    stopped-lock e (inr none) = subst (λ (x : CcError). LockLeft w.number file range exclusive (Err x) w.seen j.entries × LockedAt w.number file range exclusive (Err x) j.entries) (sym none) (idle-grows w j.entries vis.grows, tt)

    rests-lock : (e : CcError) → IsStopAt 1 j e → k ≡ j → LockEnds w (without_journal k v) file range exclusive (Err e)
    rests-lock e stop same =
        let past-is : j.entries ≡ k.entries = ap (λ x. x.entries) (sym same) in
        let given = kept-visited same in
        let both = subst (λ (past : List Entry). LockLeft w.number file range exclusive (Err e) w.seen past × LockedAt w.number file range exclusive (Err e) past) past-is (stopped-lock e stop) in
        record { left = both.0; exact = both.1; full = stopped-full ℕ e stop same; goes_on = given.went; good = good-given given }

    lock-visited : (answer : Result ℕ CcError) → LockIn w.number file range exclusive answer j k → Visited posted w v w.in_flight k
    lock-visited (Ok id) left = told-visited (entry.Locked w.number file range exclusive true id) refl (eq-eqb w.number w.number refl) left.0 left.1
    lock-visited (Err (error.LockConflict id)) left = told-visited (entry.Locked w.number file range exclusive false id) refl (eq-eqb w.number w.number refl) left.0 left.1
    lock-visited (Err e) left = kept-visited left.1

    lock-ends : (answer : Result ℕ CcError) → LockIn w.number file range exclusive answer j k → LockEnds w (without_journal k v) file range exclusive answer
    lock-ends (Ok id) left =
        let given = lock-visited (Ok id) left in
        let grew = ap (λ x. x.entries) left.1 in
        record {
          left = only-placed w (entry.Locked w.number file range exclusive true id) k.entries (eq-eqb w.number w.number refl) (record { front = j.entries; grows = vis.grows; placed = grew });
          exact = record { front = j.entries; placed = grew; answered = left.0 };
          full = tt;
          goes_on = given.went;
          good = good-given given;
        }
    lock-ends (Err (error.LockConflict id)) left =
        let given = lock-visited (Err (error.LockConflict id)) left in
        let grew = ap (λ x. x.entries) left.1 in
        record {
          left = only-placed w (entry.Locked w.number file range exclusive false id) k.entries (eq-eqb w.number w.number refl) (record { front = j.entries; grows = vis.grows; placed = grew });
          exact = record { front = j.entries; placed = grew; answered = left.0 };
          full = tt;
          goes_on = given.went;
          good = good-given given;
        }
    lock-ends (Err e) left = rests-lock e left.0 left.1

  -- ---- the end of one
  module _ (file : File) (id : ℕ) where
    stopped-unlock : (e : CcError) → IsStopAt 1 j e → UnlockLeft w.number file id (Err e) w.seen j.entries
    stopped-unlock e (inl full) = subst (λ (x : CcError). UnlockLeft w.number file id (Err x) w.seen j.entries) (sym full.0) (idle-grows w j.entries vis.grows)
    stopped-unlock e (inr none) = subst (λ (x : CcError). UnlockLeft w.number file id (Err x) w.seen j.entries) (sym none) (idle-grows w j.entries vis.grows)

    unlock-visited : (answer : Result Bool CcError) → UnlockIn w.number file id answer j k → Visited posted w v w.in_flight k
    unlock-visited (Ok gone) left = told-visited (entry.Unlocked w.number file id gone) refl (eq-eqb w.number w.number refl) left.0 left.1
    unlock-visited (Err e) left = kept-visited left.1

    unlock-ends : (answer : Result Bool CcError) → UnlockIn w.number file id answer j k → UnlockEnds w (without_journal k v) file id answer
    unlock-ends (Ok gone) left =
        let given = unlock-visited (Ok gone) left in
        let grew = ap (λ x. x.entries) left.1 in
        record {
          left = only-placed w (entry.Unlocked w.number file id gone) k.entries (eq-eqb w.number w.number refl) (record { front = j.entries; grows = vis.grows; placed = grew });
          exact = record { front = j.entries; placed = grew; answered = left.0 };
          full = tt;
          goes_on = given.went;
          good = good-given given;
        }
    unlock-ends (Err e) left =
        let past-is : j.entries ≡ k.entries = ap (λ x. x.entries) (sym left.1) in
        let given = kept-visited left.1 in
        record {
          left = subst (λ (past : List Entry). UnlockLeft w.number file id (Err e) w.seen past) past-is (stopped-unlock e left.0);
          exact = tt;
          full = stopped-full Bool e left.0 left.1;
          goes_on = given.went;
          good = good-given given;
        }

  -- ---- a test
  module _ (file : File) (range : Range) (write : Bool) where
    test-visited : (answer : Result (Unit {0}) CcError) → TestIn w.number file range write answer j k → Visited posted w v w.in_flight k
    test-visited (Ok done) left = noted-visited (entry.Tested w.number file range write None) refl (eq-eqb w.number w.number refl) left.found left.placed
    test-visited (Err (error.LockConflict id)) left = noted-visited (entry.Tested w.number file range write (Some id)) refl (eq-eqb w.number w.number refl) left.found left.placed
    test-visited (Err e) left = kept-visited left.1

    stopped-test : (e : CcError) → IsStopAt 1 j e → TestLeft w.number file range write (Err e) w.seen j.entries
    stopped-test e (inl full) = subst (λ (x : CcError). TestLeft w.number file range write (Err x) w.seen j.entries) (sym full.0) (idle-grows w j.entries vis.grows)
    stopped-test e (inr none) = subst (λ (x : CcError). TestLeft w.number file range write (Err x) w.seen j.entries) (sym none) (idle-grows w j.entries vis.grows)

    test-left : (answer : Result (Unit {0}) CcError) → TestIn w.number file range write answer j k → TestLeft w.number file range write answer w.seen k.entries
    test-left (Ok done) left =
        only-placed w (entry.Tested w.number file range write None) k.entries (eq-eqb w.number w.number refl)
        (record { front = j.entries; grows = vis.grows; placed = ap (λ x. x.entries) left.placed })
    test-left (Err (error.LockConflict id)) left =
        only-placed w (entry.Tested w.number file range write (Some id)) k.entries (eq-eqb w.number w.number refl)
        (record { front = j.entries; grows = vis.grows; placed = ap (λ x. x.entries) left.placed })
    test-left (Err e) left =
        subst (λ (past : List Entry). TestLeft w.number file range write (Err e) w.seen past) (ap (λ x. x.entries) (sym left.1)) (stopped-test e left.0)

    test-full : (answer : Result (Unit {0}) CcError) → TestIn w.number file range write answer j k → IsFull 1 (without_journal k v) answer
    test-full (Ok done) left = tt
    test-full (Err (error.LockConflict id)) left = tt
    test-full (Err e) left = stopped-full (Unit {0}) e left.0 left.1

    pub test-ends : (answer : Result (Unit {0}) CcError) → (without_journal k v).others ≤ (without_journal k v).most_others → TestIn w.number file range write answer j k → ListEnds w (without_journal k v) (TestLeft w.number file range write) answer
    test-ends answer few left =
        let given = test-visited answer left in
        let x = without_journal k v in
        let gone : HasGone w x = record { on = on-went w x given.went; grew = grew-test answer left; good = λ good. good-given given } in
        ends-here w x (TestLeft w.number file range write) answer gone (full-now w x 1 answer gone few (omega arith) (test-full answer left)) (test-left answer left)
      where
        grew-test : (answer : Result (Unit {0}) CcError) → TestIn w.number file range write answer j k → HasSeen w.seen k.entries
        grew-test (Ok done) left = grew-only w.number _ w.seen k.entries (test-left (Ok done) left)
        grew-test (Err (error.LockConflict id)) left = grew-only w.number _ w.seen k.entries (test-left (Err (error.LockConflict id)) left)
        grew-test (Err e) left = subst (λ (past : List Entry). HasSeen w.seen past) (ap (λ x. x.entries) (sym left.1)) (record { later = vis.grows.later; grew = vis.grows.grew })

-- A visit as a whole, from the taking of the journal.
module _ {Q : Type 0} (posted : Q → Bool) (w v : Standing) (j k : JournalState Q) (took : Takes with_journal w v) (stands : JournalStands posted v j) (away : w.held.journal ≡ false) (pass : ℕ) (me : pass ≡ v.number) where
  vis : Visiting posted w v j
  vis = visiting posted w v j took stands

  number : pass ≡ w.number
  number = me ∙ ap (λ x. x.number) took.same

  module _ (file : File) (range : Range) (exclusive : Bool) (answer : Result ℕ CcError) (left : LockIn pass file range exclusive answer j k) where
    own-lock : LockIn w.number file range exclusive answer j k
    own-lock = subst (λ (n : ℕ). LockIn n file range exclusive answer j k) number left

    pub gives-lock : Visited posted w v w.in_flight k
    gives-lock = lock-visited posted w v j k away vis file range exclusive answer own-lock

    pub whole-lock : (z : Standing) → z ≡ without_journal k v → LockEnds w z file range exclusive answer
    whole-lock z is = subst (λ (x : Standing). LockEnds w x file range exclusive answer) (sym is) (lock-ends posted w v j k away vis file range exclusive answer own-lock)

  module _ (file : File) (id : ℕ) (answer : Result Bool CcError) (left : UnlockIn pass file id answer j k) where
    own-unlock : UnlockIn w.number file id answer j k
    own-unlock = subst (λ (n : ℕ). UnlockIn n file id answer j k) number left

    pub gives-unlock : Visited posted w v w.in_flight k
    gives-unlock = unlock-visited posted w v j k away vis file id answer own-unlock

    pub whole-unlock : (z : Standing) → z ≡ without_journal k v → UnlockEnds w z file id answer
    whole-unlock z is = subst (λ (x : Standing). UnlockEnds w x file id answer) (sym is) (unlock-ends posted w v j k away vis file id answer own-unlock)

  module _ (file : File) (range : Range) (write : Bool) (answer : Result (Unit {0}) CcError) (left : TestIn pass file range write answer j k) where
    own-test : TestIn w.number file range write answer j k
    own-test = subst (λ (n : ℕ). TestIn n file range write answer j k) number left

    pub gives-test : Visited posted w v w.in_flight k
    gives-test = test-visited posted w v j k away vis file range write answer own-test

    pub whole-test : (z : Standing) → z ≡ without_journal k v → z.others ≤ z.most_others → ListEnds w z (TestLeft w.number file range write) answer
    whole-test z is few =
        subst (λ (x : Standing). ListEnds w x (TestLeft w.number file range write) answer) (sym is)
        (test-ends posted w v j k away vis file range write answer (subst (λ (x : Standing). x.others ≤ x.most_others) is few) own-test)

-- ---- in a journal in hand

-- a place was reserved, and taken by the entry
placed-there : {Q : Type 0} (e : Entry) (j between k : JournalState Q) → between ≡ record j { reserved = j.reserved + 1 } → k ≡ record between { entries = e ∷ between.entries; reserved = between.reserved - 1 } → k ≡ record j { entries = e ∷ j.entries }
placed-there {Q = Q} e j between k same placed =
    subst (λ (x : JournalState Q). k ≡ record x { entries = e ∷ x.entries; reserved = x.reserved - 1 }) same placed
    ∙ ap (λ (n : ℕ). record j { entries = e ∷ j.entries; reserved = n }) (back j.reserved)
  where
    back : (n : ℕ) → (n + 1) - 1 ≡ n
    back n = omega arith

-- a lock was granted there
pub granted-there : {Q : Type 0} (pass : ℕ) (file : File) (range : Range) (exclusive : Bool) (id : ℕ) (j between k : JournalState Q) → between ≡ record j { reserved = j.reserved + 1 } → GrantsLock between k pass file range exclusive id → LockIn pass file range exclusive (Ok id) j k
granted-there {Q = Q} pass file range exclusive id j between k same grants = (
  subst (λ (x : JournalState Q). IsAnswered (locks_of x.entries file.stream) (lock_call.Lock file range exclusive true id)) same
      (ap (λ (o : Option ℕ). lock_answer (locks_of between.entries file.stream) o) grants.free ∙ ap (λ (n : ℕ). (true, n)) (next (locks_of between.entries file.stream).granted id grants.next)),
  placed-there (entry.Locked pass file range exclusive true id) j between k same grants.placed,
)
  where
    next : (n id : ℕ) → id ≡ suc n → n + 1 ≡ id
    next n id is = omega (arith, is)

-- memory was wanting for it, and the place was given back
pub memory-there : {Q : Type 0} (pass : ℕ) (file : File) (range : Range) (exclusive : Bool) (j between now k : JournalState Q) → between ≡ record j { reserved = j.reserved + 1 } → RefusesLock between now pass file range exclusive error.NoMemory → k ≡ record now { reserved = now.reserved - 1 } → LockIn pass file range exclusive (Err error.NoMemory) j k
memory-there {Q = Q} pass file range exclusive j between now k same refuses released = (
  inr refl,
  released ∙ (ap (λ (x : JournalState Q). record x { reserved = x.reserved - 1 }) (refuses.1 ∙ same) ∙ ap (λ (n : ℕ). record j { reserved = n }) (back j.reserved)),
)
  where
    back : (n : ℕ) → (n + 1) - 1 ≡ n
    back n = omega arith

-- ---- a test

same-range : (a b c d : ℕ) → a ≡ c → b ≡ d → ◌≡◌ {A = Range} (record { from = a; to = b }) (record { from = c; to = d })
same-range a b c d from to = rw (from, to) refl

-- the range that is tested
pub span-tested : (at n end : ℕ) (range : Range) → range.from ≡ at → range.to ≡ end → end ≡ min (at + n) (2 ^ 64 - 1) → range ≡ tested_range at n
span-tested at n end range from to is = same-range range.from range.to at (min (at + n) (2 ^ 64 - 1)) from (to ∙ is)

-- What was found in a journal in which a place was reserved is what the rules give, and its entry may be pushed.
module _ {Q : Type 0} (u : Setup) (pass : ℕ) (file : File) (range : Range) (write : Bool) (j between : JournalState Q) (same : between ≡ record j { reserved = j.reserved + 1 })
    (s : ℕ) (table : LockTable) (is : table ≡ locks_of between.entries s) (stream : s ≡ file.stream) (conflict : Option ℕ) (given : conflict ≡ conflict_of table.locks write file range) where
  entries-same : between.entries ≡ j.entries
  entries-same = ap (λ (x : JournalState Q). x.entries) same

  found-between : conflict ≡ conflict_of (locks_of between.entries file.stream).locks write file range
  found-between =
      given ∙ ap (λ (t : LockTable). conflict_of t.locks write file range) (is ∙ ap (λ (n : ℕ). locks_of between.entries n) stream)

  pub may-test : IsGood u j.entries → MayBePushed between.entries (entry.Tested pass file range write conflict)
  may-test good = pushed-test u between.entries pass file range write conflict (subst (λ (past : List Entry). IsGood u past) (sym entries-same) good) found-between

  pub tested-there : (k : JournalState Q) (told : Option ℕ) → conflict ≡ told → k ≡ record between { entries = entry.Tested pass file range write conflict ∷ between.entries; reserved = between.reserved - 1; rows = k.rows } → HasTested pass file range write told j k
  tested-there k told it placed = subst (λ (o : Option ℕ). HasTested pass file range write o j k) it (record {
    found = subst (λ (past : List Entry). conflict ≡ conflict_of (locks_of past file.stream).locks write file range) entries-same found-between;
    placed =
        subst (λ (x : JournalState Q). k ≡ record x { entries = entry.Tested pass file range write conflict ∷ x.entries; reserved = x.reserved - 1; rows = k.rows }) same placed
        ∙ ap (λ (n : ℕ). record j { entries = entry.Tested pass file range write conflict ∷ j.entries; reserved = n; rows = k.rows }) (back j.reserved);
  })
    where
      back : (n : ℕ) → (n + 1) - 1 ≡ n
      back n = omega arith
