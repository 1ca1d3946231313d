-- What the two calls on a log leave, of the journal and of the pass.
use Rattle.std.specs.Prelude.{◌≡◌, ◌↔◌, ℕ, suc, ◌+◌, ◌^◌, ◌<◌, ◌≤◌, Bool, true, false, List, [], ◌∷◌, length, Result, Ok, Err, IsErrOf, refl}
use Rattle.std.specs.Result.{IsErrAnd}
use Rattle.std.proofs.Common.{ap, sym, ◌∙◌, subst, arith, inl, inr, ⊎_elim}
use Rattle.std.proofs.lemmas.Bool.{eq-eqb}
use Rattle.cc_entry.specs.declared.entry.Entry.{Entry}
use Rattle.cc_entry.specs.declared.entry.Entry.TheVariants as entry
use Rattle.cc_entry.specs.declared.error.CcError.{CcError}
use Rattle.cc_entry.specs.declared.error.CcError.TheVariants as error
use Rattle.cc_effects.specs.LogCalls.{AppendLeft, LogFlushLeft}
use Rattle.cc_effects.specs.Moments.{IsIdle, PlacedOnly, AtSome}
use Rattle.cc_effects.proofs.Stretches.{idle-then, only-before, some-before}
use Rattle.cc_journal.specs.Journal.{JournalState}
use Rattle.cc_model.specs.Good.{IsGood}
use Rattle.cc_model.specs.Logs.{floor_of, flushed_to}
use Rattle.cc_model.specs.Passes.{is_mine}
use Rattle.cc_model.specs.Room.{reserved_in}
use Rattle.cc_log.specs.Turn.{IsAppendError}
use Rattle.cc_model.specs.Setup.{Setup}
use Rattle.cc_turns.specs.Log.{log_failures}
use Rattle.cc_turns.specs.Standing.{Standing}
use Rattle.cc_turns.specs.Takes.{Grows, Takes, with_log, without_journal}
use Rattle.cc_writes.specs.Hands.{WentWith}
use Rattle.cc_writes.specs.Visits.{HasPlaced}
use Rattle.cc_writes.specs.Ways.{IsFull}
use Rattle.cc_writes.specs.Logs.{FlushToLsnLeft}
use Rattle.cc_writes.specs.declared.log.LogFlush.{LogFlush}
use Rattle.cc_writes.specs.declared.log.LogFlush.TheVariants as flush
use Rattle.cc_writes.proofs.OneVisit.{Visited, Visiting, stepping-none, visited, went-then}
use Rattle.cc_calls.specs.Answers.{IsFree}
use Rattle.cc_calls.specs.Pages.{StaysGood}
use Rattle.cc_calls.specs.Logs.{HadRoom, IsNotFull, LogEnds, NoPlace, PlaceIn, LogPlaceLeft}

-- A place was asked for in a journal: nothing was placed, and one more is reserved where it was given.
abbrev pub flight_after : Result (Unit {0}) CcError → ℕ → ℕ
flight_after (Ok done) n = suc n
flight_after (Err e) n = n

-- at most the one that is reserved
pub few-after : (result : Result (Unit {0}) CcError) (n : ℕ) → n ≡ 0 → flight_after result n ≤ 1
few-after (Ok done) n none = omega (arith, none)
few-after (Err e) n none = omega (arith, none)

pub place-visited : {Q : Type 0} (posted : Q → Bool) (w v : Standing) (handle : ℕ) (result : Result (Unit {0}) CcError) (j k : JournalState Q) → w.held.journal ≡ false → Visiting posted w v j → PlaceIn handle result j k → Visited posted w v (flight_after result w.in_flight) k
place-visited posted w v handle (Ok done) j k away vis left =
    visited posted w v (suc w.in_flight) [] j k away vis (stepping-none posted w v (suc w.in_flight) (j.reserved + 1) j k vis left.1 (more j.reserved (reserved_in j.entries) w.in_flight v.others vis.reserved_is))
  where
    more : (n owed mine others : ℕ) → n ≡ owed + mine + others → n + 1 ≡ owed + suc mine + others
    more n owed mine others is = omega (arith, is)
place-visited posted w v handle (Err e) j k away vis left =
    visited posted w v w.in_flight [] j k away vis (stepping-none posted w v w.in_flight j.reserved j k vis left.1 vis.reserved_is)

-- where no log was found, the journal that is given has room
pub place-room : {Q : Type 0} (posted : Q → Bool) (w v : Standing) (handle : ℕ) (result : Result (Unit {0}) CcError) (j k : JournalState Q) → w.held.journal ≡ false → Visiting posted w v j → PlaceIn handle result j k → HadRoom (without_journal k v) result
place-room posted w v handle (Ok done) j k away vis left = tt
place-room posted w v handle (Err (error.NoLog missing)) j k away vis left =
    let seen = place-visited posted w v handle (Err (error.NoLog missing)) j k away vis left in
    let same : k ≡ j = left.1 in
    omega (arith, left.0.2, ap (λ (i : JournalState _). i.reserved) same, ap (λ (i : JournalState _). length i.entries) same, ap (λ (i : JournalState _). i.capacity) same, seen.journal.reserved_is, seen.journal.capacity_is)
place-room posted w v handle (Err other) j k away vis left = tt

-- others went on, and the pass placed nothing
pub idle-grows : (w : Standing) (seen : List Entry) → Grows w seen → IsIdle w.number w.seen seen
idle-grows w seen grows = record { during = grows.later; grew = grows.grew; others = grows.others }

-- the pass placed one entry
pub only-placed : (w : Standing) (e : Entry) (seen : List Entry) → is_mine w.number e ≡ true → HasPlaced w e seen → PlacedOnly w.number e w.seen seen
only-placed w e seen mine placed = record {
  later = [];
  earlier = placed.grows.later;
  grew = placed.placed ∙ ap (λ past. e ∷ past) placed.grows.grew;
  is_own = mine;
  quiet_after = tt;
  quiet_before = placed.grows.others;
}

-- what holds now, and what held at the front of the entry, held at a moment
pub some-now : (Holds : List Entry → Type 0) (w : Standing) (seen : List Entry) → Grows w seen → Holds seen → AtSome Holds w.seen seen
some-now Holds w seen grows holds = record { moment = seen; later = []; since = grows.later; ends = refl; begins = grows.grew; holds = holds }

pub some-front : (Holds : List Entry → Type 0) (w : Standing) (e : Entry) (seen : List Entry) (placed : HasPlaced w e seen) → Holds placed.front → AtSome Holds w.seen seen
some-front Holds w e seen placed holds = record {
  moment = placed.front;
  later = e ∷ [];
  since = placed.grows.later;
  ends = placed.placed;
  begins = placed.grows.grew;
  holds = holds;
}

-- what held at a moment held at one of the stretch that began before
some-idle : (Holds : List Entry → Type 0) (me : ℕ) (old between new : List Entry) → IsIdle me old between → AtSome Holds between new → AtSome Holds old new
some-idle Holds me old between new idle some = some-before Holds old idle.during new (subst (λ (past : List Entry). AtSome Holds past new) idle.grew some)

-- An append left so, after the pass was idle, left so as a whole.
module _ (u : Setup) (me handle : ℕ) (bytes : List ℕ) where
  append-then : (answer : Result ℕ CcError) (old between new : List Entry) → IsIdle me old between → AppendLeft u me handle bytes answer between new → AppendLeft u me handle bytes answer old new
  append-then (Ok lsn) old between new idle left = (left.0, only-before me (entry.Append me handle lsn bytes) old between new idle left.1)
  append-then (Err (error.NoLog missing)) old between new idle left = (left.0, left.1, idle-then me old between new idle left.2)
  append-then (Err (error.LogFull full)) old between new idle left =
      (left.0, some-idle (λ moment. floor_of moment handle ≡ 2 ^ 62) me old between new idle left.1, idle-then me old between new idle left.2)
  append-then (Err (error.LogFault failed)) old between new idle left = (
    left.0,
    some-idle (λ moment. floor_of moment handle < 2 ^ 62) me old between new idle left.1,
    (left.2.0, only-before me (entry.LogFailed me handle) old between new idle left.2.1),
  )
  append-then (Err (error.JournalFull entries)) old between new idle left = idle-then me old between new idle left
  append-then (Err error.NoMemory) old between new idle left = idle-then me old between new idle left
  append-then (Err other) old between new idle left = absurd left

  -- one that got no place
  append-unplaced : (e : CcError) (old new : List Entry) → NoPlace u.logs handle e → IsIdle me old new → AppendLeft u me handle bytes (Err e) old new
  append-unplaced (error.NoLog missing) old new no_place idle = (no_place.0, no_place.1, idle)
  append-unplaced (error.JournalFull entries) old new no_place idle = idle
  append-unplaced error.NoMemory old new no_place idle = idle
  append-unplaced other old new no_place idle = absurd no_place

-- So with a flush.
module _ (u : Setup) (me handle lsn : ℕ) where
  flush-then : (answer : Result (Unit {0}) CcError) (old between new : List Entry) → IsIdle me old between → LogFlushLeft u me handle lsn answer between new → LogFlushLeft u me handle lsn answer old new
  flush-then (Ok done) old between new idle left = (
    left.0,
    ⊎_elim
        (λ only. inl (only-before me (entry.Flushed me handle lsn) old between new idle only))
        (λ was. inr (record {
          idle = idle-then me old between new idle was.idle;
          reached = some-idle (λ moment. lsn ≤ flushed_to moment handle) me old between new idle was.reached;
        }))
        left.1,
  )
  flush-then (Err (error.NoLog missing)) old between new idle left = (left.0, left.1, idle-then me old between new idle left.2)
  flush-then (Err (error.LogFault failed)) old between new idle left = (
    left.0,
    some-idle (λ moment. flushed_to moment handle < lsn) me old between new idle left.1,
    (left.2.0, only-before me (entry.LogFailed me handle) old between new idle left.2.1),
  )
  flush-then (Err (error.JournalFull entries)) old between new idle left = idle-then me old between new idle left
  flush-then (Err error.NoMemory) old between new idle left = idle-then me old between new idle left
  flush-then (Err other) old between new idle left = absurd left

  flush-unplaced : (e : CcError) (old new : List Entry) → NoPlace u.logs handle e → IsIdle me old new → LogFlushLeft {T = Unit {0}} u me handle lsn (Err e) old new
  flush-unplaced (error.NoLog missing) old new no_place idle = (no_place.0, no_place.1, idle)
  flush-unplaced (error.JournalFull entries) old new no_place idle = idle
  flush-unplaced error.NoMemory old new no_place idle = idle
  flush-unplaced other old new no_place idle = absurd no_place

-- what the flush of a log answers its caller
abbrev pub answered : Result LogFlush CcError → Result (Unit {0}) CcError
answered (Ok flush.Reached) = Ok tt
answered (Ok (flush.Failed failed)) = Err (error.LogFault failed)
answered (Err e) = Err e

-- and what it leaves of its call
flush-left : (w : Standing) (handle lsn : ℕ) (result : Result LogFlush CcError) (seen : List Entry) → handle < w.setup.logs → FlushToLsnLeft w handle lsn result seen → LogFlushLeft w.setup w.number handle lsn (answered result) w.seen seen
flush-left w handle lsn (Ok flush.Reached) seen known left = (
  known,
  ⊎_elim
      (λ found. inr (record {
        idle = idle-grows w seen found.0;
        reached = some-now (λ moment. lsn ≤ flushed_to moment handle) w seen found.0 found.1;
      }))
      (λ flushed. inl (only-placed w (entry.Flushed w.number handle lsn) seen (eq-eqb w.number w.number refl) flushed.placed))
      left,
)
flush-left w handle lsn (Ok (flush.Failed failed)) seen known left = (
  left.0,
  some-front (λ moment. flushed_to moment handle < lsn) w (entry.LogFailed w.number handle) seen left.1.placed left.1.due,
  (known, only-placed w (entry.LogFailed w.number handle) seen (eq-eqb w.number w.number refl) left.1.placed),
)
flush-left w handle lsn (Err e) seen known left = subst (λ (e : CcError). LogFlushLeft {T = Unit {0}} w.setup w.number handle lsn (Err e) w.seen seen) (sym left.1) (idle-grows w seen left.0)

-- whether an answer says that there is no log
abbrev is_no_log : {A : Type 0} → Result A CcError → Bool
is_no_log (Ok a) = false
is_no_log (Err (error.NoLog handle)) = true
is_no_log (Err e) = false

-- it never finds the journal full
not-full : {A : Type 0} (w : Standing) (answer : Result A CcError) → IsNotFull answer → IsFull 1 w answer
not-full w (Ok a) room = tt
not-full w (Err (error.JournalFull entries)) room = absurd room
not-full w (Err other) room = tt

flush-not-full : (w : Standing) (handle lsn : ℕ) (result : Result LogFlush CcError) (seen : List Entry) → FlushToLsnLeft w handle lsn result seen → IsNotFull (answered result)
flush-not-full w handle lsn (Ok flush.Reached) seen left = tt
flush-not-full w handle lsn (Ok (flush.Failed failed)) seen left = tt
flush-not-full w handle lsn (Err e) seen left = rw left.1 tt

-- one that got its place is not answered that there is no log
had-room : {A : Type 0} (w : Standing) (answer : Result A CcError) → is_no_log answer ≡ false → HadRoom w answer
had-room w (Ok a) other = tt
had-room w (Err (error.NoLog handle)) other = absurd (cc other)
had-room w (Err e) other = tt

flush-log-there : (w : Standing) (handle lsn : ℕ) (result : Result LogFlush CcError) (seen : List Entry) → FlushToLsnLeft w handle lsn result seen → is_no_log (answered result) ≡ false
flush-log-there w handle lsn (Ok flush.Reached) seen left = refl
flush-log-there w handle lsn (Ok (flush.Failed failed)) seen left = refl
flush-log-there w handle lsn (Err e) seen left = ap (λ (x : CcError). is_no_log {A = Unit {0}} (Err x)) left.1

append-log-there : (u : Setup) (me handle : ℕ) (bytes : List ℕ) (answer : Result ℕ CcError) (old new : List Entry) → handle < u.logs → AppendLeft u me handle bytes answer old new → is_no_log answer ≡ false
append-log-there u me handle bytes (Ok lsn) old new known left = refl
append-log-there u me handle bytes (Err (error.NoLog missing)) old new known left = absurd (omega (arith, known, left.1))
append-log-there u me handle bytes (Err e) old new known left = refl

-- A call that got no place ends with its refusal.
module _ (w v : Standing) (handle : ℕ) (e : CcError) (can : IsFree w) (grows : Grows w v.seen) (left : LogPlaceLeft handle (Err e) w v)
    (full : IsFull {A = Unit {0}} 1 v (Err e)) (room : HadRoom {A = Unit {0}} v (Err e)) (good : IsGood v.setup v.seen) where
  good-still : StaysGood w v
  good-still was_good = subst (λ (u : Setup). IsGood u v.seen) (ap (λ x. x.setup) left.1.same) good

  pub append-no-place : (bytes : List ℕ) (answer : Result ℕ CcError) → IsErrAnd answer (λ told. told ≡ e) → LogEnds w v (AppendLeft w.setup w.number handle bytes) answer
  append-no-place bytes (Ok lsn) told = absurd told
  append-no-place bytes (Err other) told = rw told (record {
    left = append-unplaced w.setup w.number handle bytes e w.seen v.seen left.0 (idle-grows w v.seen grows);
    full = full;
    room = room;
    goes_on = left.1;
    good = good-still;
  })

  pub flush-no-place : (lsn : ℕ) (answer : Result (Unit {0}) CcError) → IsErrAnd answer (λ told. told ≡ e) → LogEnds w v (LogFlushLeft w.setup w.number handle lsn) answer
  flush-no-place lsn (Ok done) told = absurd told
  flush-no-place lsn (Err other) told = rw told (record {
    left = flush-unplaced w.setup w.number handle lsn e w.seen v.seen left.0 (idle-grows w v.seen grows);
    full = full;
    room = room;
    goes_on = left.1;
    good = good-still;
  })

-- One that got its place ends as it went on from there.
module _ (w v x : Standing) (handle : ℕ) (can : IsFree w) (grows : Grows w v.seen) (place : LogPlaceLeft handle (Ok tt) w v)
    (went : WentWith 0 v x) (good : IsGood x.setup x.seen) where
  number : v.number ≡ w.number
  number = ap (λ y. y.number) place.1.same

  setup : v.setup ≡ w.setup
  setup = ap (λ y. y.setup) place.1.same

  went-whole : WentWith w.in_flight w x
  went-whole = subst (λ (n : ℕ). WentWith n w x) (sym can.none) (went-then (suc w.in_flight) 0 w v x place.1 went)

  good-there : StaysGood w x
  good-there was_good = subst (λ (u : Setup). IsGood u x.seen) (ap (λ y. y.setup) went-whole.same) good

  pub append-ends : (bytes : List ℕ) (answer : Result ℕ CcError) → AppendLeft v.setup v.number handle bytes answer v.seen x.seen → IsNotFull answer → LogEnds w x (AppendLeft w.setup w.number handle bytes) answer
  append-ends bytes answer left room =
      let whole : AppendLeft w.setup w.number handle bytes answer w.seen x.seen =
      append-then w.setup w.number handle bytes answer w.seen v.seen x.seen (idle-grows w v.seen grows) (rw (setup, number) at left) in
      record {
        left = whole;
        full = not-full x answer room;
        room = had-room x answer (append-log-there w.setup w.number handle bytes answer w.seen x.seen place.0 whole);
        goes_on = went-whole;
        good = good-there;
      }

  pub flush-ends : (lsn : ℕ) (result : Result LogFlush CcError) → FlushToLsnLeft v handle lsn result x.seen → LogEnds w x (LogFlushLeft w.setup w.number handle lsn) (answered result)
  flush-ends lsn result left =
      let there : LogFlushLeft w.setup w.number handle lsn (answered result) v.seen x.seen =
      rw (setup, number) at (flush-left v handle lsn result x.seen (rw setup place.0) left) in
      let whole : LogFlushLeft w.setup w.number handle lsn (answered result) w.seen x.seen =
      flush-then w.setup w.number handle lsn (answered result) w.seen v.seen x.seen (idle-grows w v.seen grows) there in
      record {
        left = whole;
        full = not-full x (answered result) (flush-not-full v handle lsn result x.seen left);
        room = had-room x (answered result) (flush-log-there v handle lsn result x.seen left);
        goes_on = went-whole;
        good = good-there;
      }

-- what an append leaves as its turn of the log was taken, it leaves as a whole
pub append-turn : (w v : Standing) (handle : ℕ) (bytes : List ℕ) (answer : Result ℕ CcError) (seen : List Entry) → Takes (with_log handle) w v → AppendLeft v.setup v.number handle bytes answer v.seen seen → AppendLeft w.setup w.number handle bytes answer w.seen seen
append-turn w v handle bytes answer seen took left =
    append-then w.setup w.number handle bytes answer w.seen v.seen seen (idle-grows w v.seen took.grows)
    (rw (ap (λ x. x.setup) took.same, ap (λ x. x.number) took.same) at left)

-- an append shows no failure of a log
pub failures-appended : (pass handle lsn : ℕ) (bytes : List ℕ) (log : ℕ) (past : List Entry) → log_failures log (entry.Append pass handle lsn bytes ∷ past) ≡ log_failures log past + 0
unfolding log_failures
failures-appended pass handle lsn bytes log past = omega arith

-- A log whose turn is held refused an append.
module _ (w : Standing) (handle : ℕ) (bytes : List ℕ) (e : CcError) (floor : ℕ) (causes : IsAppendError handle e)
    (full : IsErrOf {T = ℕ} (Err e) (error.LogFull handle) ↔ (floor ≡ 2 ^ 62)) (within : floor ≤ 2 ^ 62) where
  -- the file failed, and its entry was placed
  pub left-failed : (failed : ℕ) (seen : List Entry) → e ≡ error.LogFault failed → handle < w.setup.logs → (placed : HasPlaced w (entry.LogFailed w.number handle) seen) → floor_of placed.front handle ≡ floor → AppendLeft w.setup w.number handle bytes (Err e) w.seen seen
  left-failed failed seen is known placed front = rw is (
    ⊎_elim (λ f. absurd (cc (is, f))) (λ rest. ⊎_elim (λ f. same failed handle (sym is ∙ f)) (λ m. absurd (cc (is, m))) rest) causes,
    some-front (λ moment. floor_of moment handle < 2 ^ 62) w (entry.LogFailed w.number handle) seen placed
        (rw front (below floor within (λ at. clash (full.1 at)))),
    (known, only-placed w (entry.LogFailed w.number handle) seen (eq-eqb w.number w.number refl) placed),
  )
    where
      same : (a b : ℕ) → error.LogFault a ≡ error.LogFault b → a ≡ b
      same a b is = cc

      clash : IsErrOf {T = ℕ} (Err e) (error.LogFull handle) → ⊥
      clash f = absurd (cc (is, f))

      below : (n : ℕ) → n ≤ 2 ^ 62 → (n ≡ 2 ^ 62 → ⊥) → n < 2 ^ 62
      below n most apart = omega (arith, most, apart)

  -- nothing was placed
  pub left-refused : (seen : List Entry) → ((failed : ℕ) → e ≡ error.LogFault failed → ⊥) → Grows w seen → floor_of seen handle ≡ floor → AppendLeft w.setup w.number handle bytes (Err e) w.seen seen
  left-refused seen other grows now =
      ⊎_elim
      (λ f. rw f (refl, some-now (λ moment. floor_of moment handle ≡ 2 ^ 62) w seen grows (now ∙ full.0 (ap (λ (x : CcError). Err x) f)), idle-grows w seen grows))
      (λ rest. ⊎_elim (λ f. absurd (other handle f)) (λ m. rw m (idle-grows w seen grows)) rest)
      causes
