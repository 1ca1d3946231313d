-- Deferrals and posts: their entries may stand, reserve nothing, and need no turn that is not held; and what the visits to
-- the journal leave that place them.
use Rattle.std.specs.Prelude.{◌≡◌, ℕ, suc, ◌+◌, ◌-◌, ◌<◌, ◌≤◌, ◌⊎◌, ◌↔◌, Bool, true, false, List, [], ◌∷◌, length, Result, Ok, Err, IfErr, IsErrOf, OnOk, OnErr, slice_get, drop, refl}
use Rattle.std.specs.Int.{div_ceil}
use Rattle.std.specs.Option.{option_map}
use Rattle.std.specs.declared.option.Option.{Option}
use Rattle.std.specs.declared.option.Option.TheVariants.{Some, None}
use Rattle.std.specs.List.{sum_by}
use Rattle.std.proofs.Common.{ap, sym, ◌∙◌, subst, arith, inl, inr}
use Rattle.std.proofs.lemmas.Bool.{eq-eqb}
use Rattle.std.proofs.lemmas.List.Sums.{sum_by-cons}
use Rattle.cc_entry.specs.Place.{File}
use Rattle.cc_entry.specs.declared.entry.Entry.{Entry}
use Rattle.cc_entry.specs.declared.entry.Entry.TheVariants as entry
use Rattle.cc_entry.specs.declared.error.CcError.{CcError}
use Rattle.cc_entry.specs.declared.error.CcError.TheVariants as error
use Rattle.cc_entry.specs.declared.hold.Deferral.{Deferral}
use Rattle.cc_book.specs.Book.{BookState, BookStands}
use Rattle.cc_book.proofs.BookSteps.{goes_on_none}
use Rattle.cc_effects.specs.Events.{goes_first}
use Rattle.cc_effects.specs.Throttle.{DeferLeft, MayNotPost, PostLeft}
use Rattle.cc_effects.proofs.OtherSteps.{defer-before}
use Rattle.cc_journal.specs.Journal.{JournalState, head_may_go, room_of}
use Rattle.cc_journal.specs.Queue.{AllUnposted}
use Rattle.cc_laws.proofs.HistorySteps.{history-no_effect}
use Rattle.cc_laws.proofs.QuietSteps.{eqb-swapped}
use Rattle.cc_laws.proofs.TurnSteps.{is_quiet-none, is_quiet-unneeded}
use Rattle.cc_model.specs.Allowed.{IsAllowed, IsAllowedSoFar, IsOwed, owed_begin}
use Rattle.cc_model.specs.Cache.{all_streams}
use Rattle.cc_model.specs.Conditions.{MayDefer, MayPost}
use Rattle.cc_model.specs.Covered.{IsCovered, IsCoveredEntry}
use Rattle.cc_model.specs.Good.{IsGood}
use Rattle.cc_model.specs.History.{history}
use Rattle.cc_model.specs.Legal.{IsLegal, IsLegalEntry}
use Rattle.cc_model.specs.Numbers.{is_among}
use Rattle.cc_model.specs.Objects.{objects}
use Rattle.cc_model.specs.Reasons.{is_open}
use Rattle.cc_model.specs.Room.{owed_by_stream, stores_unfinished, reserved_in}
use Rattle.cc_model.specs.Setup.{Setup}
use Rattle.cc_model.specs.Throttle.{deferred, pages_for, queue}
use Rattle.cc_model.specs.Turns.{Turn, Device, Book, Log, Journal, needs, is_quiet}
use Rattle.cc_turns.specs.Journal.{JournalStands}
use Rattle.cc_turns.specs.Standing.{Standing, TurnsHeld, nothing, holds}
use Rattle.cc_turns.proofs.Taking.{book_kept}
use Rattle.cc_turns.specs.Takes.{Takes, may_be_of, with_book, with_journal, without_book, without_journal}
use Rattle.cc_writes.specs.Hands.{HasBook, Went}
use Rattle.cc_writes.specs.Fetch.{CanCall}
use Rattle.cc_writes.specs.Logs.{IsStopAt}
use Rattle.cc_writes.specs.Ways.{IsFull}
use Rattle.cc_writes.proofs.OneVisit.{Visited, Visiting, visited, visiting, stepping-none}
use Rattle.cc_calls.specs.Throttle.{DeferEnds, DeferIn, DeferredAt, HadPlace, IsKeptBack, PlaceFor, PostEnds, PostIn, PostedAt}
use Rattle.cc_calls.proofs.LogCalls.{idle-grows, only-placed, some-now}

-- ---- the two entries

nothing_owed : (e : Entry) (past : List Entry) → owed_begin past ≡ None → IsOwed (owed_begin past) e
nothing_owed e past none = rw none tt

pub good-deferred : (u : Setup) (past : List Entry) (pass id : ℕ) (file : File) (pages : ℕ) (retrying : Bool) → IsGood u past → MayDefer past id file → IsGood u (entry.Defer pass id file pages retrying ∷ past)
unfolding IsLegal IsLegalEntry IsAllowed IsAllowedSoFar IsCovered IsCoveredEntry
good-deferred u past pass id file pages retrying good may = record {
  legal = (tt, good.legal);
  allowed = ((nothing_owed (entry.Defer pass id file pages retrying) past good.allowed.1, may, good.allowed.0), refl);
  covered = (tt, good.covered);
}

pub good-posted : (u : Setup) (past : List Entry) (id : ℕ) → IsGood u past → MayPost u past id (queue past) → IsGood u (entry.Posted id ∷ past)
unfolding IsLegal IsLegalEntry IsAllowed IsAllowedSoFar IsCovered IsCoveredEntry
good-posted u past id good may = record {
  legal = (tt, good.legal);
  allowed = ((nothing_owed (entry.Posted id) past good.allowed.1, may, good.allowed.0), refl);
  covered = (tt, good.covered);
}

sum-same : (f g : ℕ → ℕ) (ns : List ℕ) → ((n : ℕ) → f n ≡ g n) → sum_by f ns ≡ sum_by g ns
sum-same f g [] same = refl
sum-same f g (n ∷ ns) same = sum_by-cons f n ns ∙ rw (same n, sum-same f g ns same) (sym (sum_by-cons g n ns))

pub reserved-deferred : (pass id : ℕ) (file : File) (pages : ℕ) (retrying : Bool) (past : List Entry) → reserved_in (entry.Defer pass id file pages retrying ∷ past) ≡ reserved_in past
unfolding reserved_in stores_unfinished
reserved-deferred pass id file pages retrying past =
    rw (sum-same (λ s. owed_by_stream (history (entry.Defer pass id file pages retrying ∷ past) s)) (λ s. owed_by_stream (history past s)) all_streams (λ s. ap owed_by_stream (history-no_effect (entry.Defer pass id file pages retrying) past s refl))) refl

pub reserved-posted : (id : ℕ) (past : List Entry) → reserved_in (entry.Posted id ∷ past) ≡ reserved_in past
unfolding reserved_in stores_unfinished
reserved-posted id past =
    rw (sum-same (λ s. owed_by_stream (history (entry.Posted id ∷ past) s)) (λ s. owed_by_stream (history past s)) all_streams (λ s. ap owed_by_stream (history-no_effect (entry.Posted id) past s refl))) refl

clash : true ≡ false → ⊥
clash e = absurd (cc)

quiet-deferred : (h : TurnsHeld) (pass id : ℕ) (file : File) (pages : ℕ) (retrying : Bool) → h.book ≡ Some file.stream → h.journal ≡ true → (t : Turn) → holds h t ≡ false → is_quiet t (entry.Defer pass id file pages retrying ∷ []) ≡ true
quiet-deferred h pass id file pages retrying book journal t free = is_quiet-unneeded t (entry.Defer pass id file pages retrying) [] (unneeded t free) ∙ is_quiet-none t
  where
    unneeded : (x : Turn) → holds h x ≡ false → needs (entry.Defer pass id file pages retrying) x ≡ false
    unneeded (Device n) apart = refl
    unneeded (Book n) apart = eqb-swapped file.stream n (rw book at apart)
    unneeded (Log n) apart = refl
    unneeded Journal apart = absurd (clash (sym journal ∙ apart))

quiet-posted : (h : TurnsHeld) (id : ℕ) → h.journal ≡ true → (t : Turn) → holds h t ≡ false → is_quiet t (entry.Posted id ∷ []) ≡ true
quiet-posted h id journal t free = is_quiet-unneeded t (entry.Posted id) [] (unneeded t free) ∙ is_quiet-none t
  where
    unneeded : (x : Turn) → holds h x ≡ false → needs (entry.Posted id) x ≡ false
    unneeded (Device n) apart = refl
    unneeded (Book n) apart = refl
    unneeded (Log n) apart = refl
    unneeded Journal apart = absurd (clash (sym journal ∙ apart))

-- the pages of a write, as they are counted
pub whole-pages : (bytes : ℕ) → div_ceil bytes 4096 ≡ pages_for bytes
whole-pages bytes = omega arith

-- the head of the queue may go as the journal tells it
pub goes-first : (u : Setup) (past : List Entry) (waiting : List Deferral) → goes_first u past waiting ≡ head_may_go u past waiting
goes-first u past [] = refl
goes-first u past (head ∷ rest) = refl

pub may-post : (u : Setup) (past : List Entry) (id : ℕ) (waiting : List Deferral) → head_may_go u past waiting ≡ true → option_map (λ d. d.id) (slice_get waiting 0) ≡ Some id → MayPost u past id waiting
may-post u past id [] goes is = absurd (cc)
may-post u past id (head ∷ rest) goes is = (same id head.id is, goes)
  where
    same : (a b : ℕ) → Some b ≡ Some a → a ≡ b
    same a b e = cc

may-not-post : (u : Setup) (past : List Entry) (waiting : List Deferral) → goes_first u past waiting ≡ false → MayNotPost u past waiting
may-not-post u past [] goes = tt
may-not-post u past (head ∷ rest) goes = goes

-- whether an object is open is what the book tells, which stands for the past
pub open-as : (past : List Entry) (book : BookState) (file : File) (object : ℕ) (told : Bool) → file.stream ≡ book.stream → object ≡ file.object → ((opening : Option (ℕ → List ℕ)) × BookStands opening past book) → ((opening : Option (ℕ → List ℕ)) (its : List Entry) → BookStands opening its book → told ≡ is_among object (objects (history its book.stream))) → is_open (history past file.stream) file ≡ told
open-as past book file object told stream same stands tells =
    ap (λ (s : ℕ). is_open (history past s) file) stream
    ∙ (ap (λ (o : ℕ). is_among o (objects (history past book.stream))) (sym same) ∙ sym (tells stands.0 past stands.1))

-- ---- a place that is reserved in a journal, and taken

-- the entry was placed where one place was reserved, and the queue changed
pub placed-there : {Q : Type 0} (e : Entry) (j between k : JournalState Q) → between ≡ record j { reserved = j.reserved + 1 } → k ≡ record between { entries = e ∷ between.entries; reserved = between.reserved - 1; queue = k.queue } → k ≡ record j { entries = e ∷ j.entries; queue = k.queue }
placed-there {Q = Q} e j between k same placed =
    subst (λ (x : JournalState Q). k ≡ record x { entries = e ∷ x.entries; reserved = x.reserved - 1; queue = k.queue }) same placed
    ∙ ap (λ (n : ℕ). record j { entries = e ∷ j.entries; reserved = n; queue = k.queue }) (back j.reserved)
  where
    back : (n : ℕ) → (n + 1) - 1 ≡ n
    back n = omega arith

-- a place was reserved for a deferral that may stand, or there was no room, or no memory
pub place-reserved : {Q : Type 0} (file : File) (j k : JournalState Q) (result : Result (Unit {0}) CcError) → is_open (history j.entries file.stream) file ≡ true → length (queue j.entries) < 64 → (IsErrOf result (error.JournalFull (length j.entries)) ↔ (room_of j < 1)) → IfErr result (λ e. (e ≡ error.JournalFull (length j.entries)) ⊎ (e ≡ error.NoMemory)) → OnOk result (k ≡ record j { reserved = j.reserved + 1 }) → OnErr result (k ≡ j) → PlaceFor file result j k
place-reserved {Q = Q} file j k (Ok done) cached few full causes reserved kept = (cached, few, reserved)
place-reserved {Q = Q} file j k (Err e) cached few full (inl is) reserved kept =
    subst (λ (x : CcError). IsKeptBack file x j × (k ≡ j)) (sym is) ((refl, full.0 (as-err is)), kept)
  where
    as-err : e ≡ error.JournalFull (length j.entries) → IsErrOf {T = Unit {0}} {E = CcError} (Err e) (error.JournalFull (length j.entries))
    as-err same = let f : CcError → Result (Unit {0}) CcError = λ z. Err z in ap f same
place-reserved {Q = Q} file j k (Err e) cached few full (inr is) reserved kept =
    subst (λ (x : CcError). IsKeptBack file x j × (k ≡ j)) (sym is) (tt, kept)

-- a write was deferred there
pub deferred-there : {Q : Type 0} (pass id : ℕ) (file : File) (bytes pages : ℕ) (retrying : Bool) (j between k : JournalState Q) → PlaceFor file (Ok tt) j between → pages ≡ pages_for bytes → id ≡ suc (deferred between.entries) → k ≡ record between { entries = entry.Defer pass id file pages retrying ∷ between.entries; reserved = between.reserved - 1; queue = k.queue } → DeferIn pass file bytes retrying (Ok id) j k
deferred-there {Q = Q} pass id file bytes pages retrying j between k place is next placed = (
  record {
    cached = place.0;
    in_queue = place.1;
    next = next ∙ ap (λ (i : JournalState Q). suc (deferred i.entries)) place.2;
  },
  subst (λ (n : ℕ). k ≡ record j { entries = entry.Defer pass id file n retrying ∷ j.entries; queue = k.queue }) is
      (placed-there (entry.Defer pass id file pages retrying) j between k place.2 placed),
)

-- the first deferred write was posted there
pub posted-there : {Q : Type 0} (u : Setup) (id : ℕ) (may : Bool) (j between k : JournalState Q) → u.threshold ≡ j.threshold → ((its : Setup) → its.threshold ≡ j.threshold → may ≡ head_may_go its j.entries (queue j.entries)) → may ≡ true → between ≡ record j { reserved = j.reserved + 1 } → option_map (λ d. d.id) (slice_get (queue between.entries) 0) ≡ Some id → k ≡ record between { entries = entry.Posted id ∷ between.entries; reserved = between.reserved - 1; queue = drop 1 between.queue } → PostIn u (Ok (Some id)) j k
posted-there {Q = Q} u id may j between k limit tells is same first placed = (
  may-post u j.entries id (queue j.entries) (sym (tells u limit) ∙ is)
      (subst (λ (i : JournalState Q). option_map (λ d. d.id) (slice_get (queue i.entries) 0) ≡ Some id) same first),
  placed-there (entry.Posted id) j between k same
      (placed ∙ ap (λ (waiting : List (Deferral × Q)). record between { entries = entry.Posted id ∷ between.entries; reserved = between.reserved - 1; queue = waiting }) (sym (ap (λ (i : JournalState Q). i.queue) placed))),
)

-- nothing was posted, for there was nothing to post
pub not-posted-there : {Q : Type 0} (u : Setup) (may : Bool) (j : JournalState Q) → u.threshold ≡ j.threshold → ((its : Setup) → its.threshold ≡ j.threshold → may ≡ head_may_go its j.entries (queue j.entries)) → may ≡ false → PostIn u (Ok None) j j
not-posted-there u may j limit tells is = (goes-first u j.entries (queue j.entries) ∙ (sym (tells u limit) ∙ is), refl)

-- nor where no place was reserved
pub post-stopped : {Q : Type 0} (u : Setup) (may : Bool) (e : CcError) (j k : JournalState Q) → u.threshold ≡ j.threshold → ((its : Setup) → its.threshold ≡ j.threshold → may ≡ head_may_go its j.entries (queue j.entries)) → may ≡ true → (IsErrOf {T = Unit {0}} {E = CcError} (Err e) (error.JournalFull (length j.entries)) ↔ (room_of j < 1)) → (e ≡ error.JournalFull (length j.entries)) ⊎ (e ≡ error.NoMemory) → k ≡ j → PostIn u (Err e) j k
post-stopped {Q = Q} u may e j k limit tells is full causes kept =
    (goes-first u j.entries (queue j.entries) ∙ (sym (tells u limit) ∙ is), stop causes, kept)
  where
    stop : (e ≡ error.JournalFull (length j.entries)) ⊎ (e ≡ error.NoMemory) → IsStopAt 1 j e
    stop (inl same) = inl (same, full.0 (let f : CcError → Result (Unit {0}) CcError = λ z. Err z in ap f same))
    stop (inr none) = inr none

-- the book that is in hand stands for the journal as it was taken
pub book-there : {Q : Type 0} (posted : Q → Bool) (w v : Standing) (s : ℕ) (b : BookState) (j : JournalState Q) → HasBook w s b → Takes with_journal w v → JournalStands posted v j → (opening : Option (ℕ → List ℕ)) × BookStands opening j.entries b
book-there posted w v s b j has took stands = (
  v.setup.opening s,
  subst (λ (past : List Entry). BookStands (v.setup.opening s) past b) (sym stands.entries_are)
      (book_kept with_journal w v s b took refl (ap (λ h. h.book) has.held) has.stream has.stands),
)

-- ---- a visit to the journal

-- What is given is the same but for the queue, of which no routine was posted.
visited-queue : {Q : Type 0} (posted : Q → Bool) (w v : Standing) (flight : ℕ) (waiting : List (Deferral × Q)) (k : JournalState Q) → Visited posted w v flight (record k { queue = waiting }) → AllUnposted posted k.queue → Visited posted w v flight k
visited-queue posted w v flight waiting k given unposted = record {
  adds = given.adds;
  journal = record {
    entries_are = refl;
    good = given.journal.good;
    capacity_is = given.journal.capacity_is;
    threshold_is = given.journal.threshold_is;
    logs_are = given.journal.logs_are;
    reserved_is = given.journal.reserved_is;
    unposted = unposted;
  };
  good = given.good;
  went = given.went;
}

module _ {Q : Type 0} (posted : Q → Bool) (w v : Standing) (j k : JournalState Q) (away : w.held.journal ≡ false) (vis : Visiting posted w v j) (unposted : AllUnposted posted k.queue) where
  -- an entry was placed that reserves nothing
  module _ (e : Entry) (placed : k ≡ record j { entries = e ∷ j.entries; queue = k.queue }) (good : IsGood w.setup (e ∷ j.entries)) (own : may_be_of w.number e ≡ true)
      (quiet : (t : Turn) → holds (record w.held { journal = true }) t ≡ false → is_quiet t (e ∷ []) ≡ true) (same : reserved_in (e ∷ j.entries) ≡ reserved_in j.entries) where
    entries-are : k.entries ≡ e ∷ j.entries
    entries-are = ap (λ x. x.entries) placed

    visited-placed : Visited posted w v w.in_flight k
    visited-placed = visited-queue posted w v w.in_flight j.queue k (visited posted w v w.in_flight (e ∷ []) j (record k { queue = j.queue }) away vis (record {
      kept = subst (λ (x : JournalState Q). record k { queue = j.queue } ≡ record j { entries = e ∷ j.entries; reserved = x.reserved; rows = x.rows }) (sym placed) (ap (λ (x : JournalState Q). record x { queue = j.queue }) placed);
      good = subst (λ (past : List Entry). IsGood w.setup past) (sym entries-are) good;
      event = tt;
      own = (own, tt);
      held = quiet;
      reserved =
          ap (λ x. x.reserved) placed
          ∙ (vis.reserved_is ∙ ap (λ (n : ℕ). n + w.in_flight + v.others) (sym (ap (λ x. reserved_in x.entries) placed ∙ same)));
    })) unposted

  -- nothing was placed
  visited-kept : k ≡ j → Visited posted w v w.in_flight k
  visited-kept same = visited posted w v w.in_flight [] j k away vis (stepping-none posted w v w.in_flight j.reserved j k vis same vis.reserved_is)

  -- what the pass has seen is good then
  good-given : Visited posted w v w.in_flight k → IsGood w.setup k.entries
  good-given given = subst (λ (u : Setup). IsGood u k.entries) (ap (λ x. x.setup) given.went.same) given.good

  -- a journal without room is full, and one that has room has it
  full-given : (A : Type 0) (entries : ℕ) → Visited posted w v w.in_flight k → k ≡ j → entries ≡ length j.entries → room_of j < 1 → IsFull {A = A} 1 (without_journal k v) (Err (error.JournalFull entries))
  full-given A entries given same is few = (
    is ∙ ap (λ (i : JournalState Q). length i.entries) (sym same),
    omega (arith, few, ap (λ (i : JournalState Q). i.reserved) same, ap (λ (i : JournalState Q). length i.entries) same, ap (λ (i : JournalState Q). i.capacity) same, given.journal.reserved_is, given.journal.capacity_is),
  )

  roomy-given : Visited posted w v w.in_flight k → k ≡ j → 1 ≤ room_of j → length k.entries + (reserved_in k.entries + (without_journal k v).in_flight + v.others) + 1 ≤ v.setup.capacity
  roomy-given given same room =
      omega (arith, room, ap (λ (i : JournalState Q). i.reserved) same, ap (λ (i : JournalState Q). length i.entries) same, ap (λ (i : JournalState Q). i.capacity) same, given.journal.reserved_is, given.journal.capacity_is)

  -- ---- a deferral
  module _ (file : File) (bytes : ℕ) (retrying : Bool) (book : w.held.book ≡ Some file.stream) where
    deferred-visited : (answer : Result ℕ CcError) → DeferIn w.number file bytes retrying answer j k → Visited posted w v w.in_flight k
    deferred-visited (Ok id) left =
        let e : Entry = entry.Defer w.number id file (pages_for bytes) retrying in
        visited-placed e left.1 (good-deferred w.setup j.entries w.number id file (pages_for bytes) retrying vis.good left.0) (eq-eqb w.number w.number refl)
        (quiet-deferred (record w.held { journal = true }) w.number id file (pages_for bytes) retrying book refl)
        (reserved-deferred w.number id file (pages_for bytes) retrying j.entries)
    deferred-visited (Err e) left = visited-kept left.1

    kept-left : (e : CcError) → IsKeptBack file e j → DeferLeft w.number file bytes retrying (Err e) w.seen j.entries
    kept-left (error.JournalFull entries) back = idle-grows w j.entries vis.grows
    kept-left error.NotCached back = record {
      idle = idle-grows w j.entries vis.grows;
      closed = some-now (λ moment. is_open (history moment file.stream) file ≡ false) w j.entries vis.grows back.1;
    }
    kept-left error.QueueFull back = record {
      idle = idle-grows w j.entries vis.grows;
      full = some-now (λ moment. (is_open (history moment file.stream) file ≡ true) × (64 ≤ length (queue moment))) w j.entries vis.grows (back.1, back.2);
    }
    kept-left error.NoMemory back = idle-grows w j.entries vis.grows
    kept-left other back = absurd back

    kept-exact : (e : CcError) → IsKeptBack file e j → DeferredAt w.number file bytes retrying (Err e) j.entries
    kept-exact (error.JournalFull entries) back = tt
    kept-exact error.NotCached back = back.1
    kept-exact error.QueueFull back = (back.1, back.2)
    kept-exact error.NoMemory back = tt
    kept-exact other back = absurd back

    kept-full : (e : CcError) → IsKeptBack file e j → k ≡ j → IsFull {A = ℕ} 1 (without_journal k v) (Err e)
    kept-full (error.JournalFull entries) back same = full-given ℕ entries (visited-kept same) same back.0 back.1
    kept-full error.NotCached back same = tt
    kept-full error.QueueFull back same = tt
    kept-full error.NoMemory back same = tt
    kept-full other back same = absurd back

    kept-room : (e : CcError) → IsKeptBack file e j → k ≡ j → HadPlace {A = ℕ} (without_journal k v) (Err e)
    kept-room (error.JournalFull entries) back same = tt
    kept-room error.NotCached back same = roomy-given (visited-kept same) same back.0
    kept-room error.QueueFull back same = roomy-given (visited-kept same) same back.0
    kept-room error.NoMemory back same = tt
    kept-room other back same = absurd back

    deferred-ends : (answer : Result ℕ CcError) → DeferIn w.number file bytes retrying answer j k → DeferEnds w (without_journal k v) file bytes retrying answer
    deferred-ends (Ok id) left =
        let e : Entry = entry.Defer w.number id file (pages_for bytes) retrying in
        let given = deferred-visited (Ok id) left in
        record {
          left = only-placed w e k.entries (eq-eqb w.number w.number refl) (record { front = j.entries; grows = vis.grows; placed = ap (λ x. x.entries) left.1 });
          exact = record { front = j.entries; placed = ap (λ x. x.entries) left.1; may = left.0 };
          full = tt;
          room = tt;
          goes_on = given.went;
          good = good-given given;
        }
    deferred-ends (Err e) left =
        let past-is : j.entries ≡ k.entries = ap (λ x. x.entries) (sym left.1) in
        let given = visited-kept left.1 in
        record {
          left = subst (λ (past : List Entry). DeferLeft w.number file bytes retrying (Err e) w.seen past) past-is (kept-left e left.0);
          exact = subst (λ (past : List Entry). DeferredAt w.number file bytes retrying (Err e) past) past-is (kept-exact e left.0);
          full = kept-full e left.0 left.1;
          room = kept-room e left.0 left.1;
          goes_on = given.went;
          good = good-given given;
        }

  -- ---- a post
  posted-visited : (answer : Result (Option ℕ) CcError) → PostIn w.setup answer j k → Visited posted w v w.in_flight k
  posted-visited (Ok (Some id)) left =
      visited-placed (entry.Posted id) left.1 (good-posted w.setup j.entries id vis.good left.0) refl
      (quiet-posted (record w.held { journal = true }) id refl) (reserved-posted id j.entries)
  posted-visited (Ok None) left = visited-kept left.1
  posted-visited (Err e) left = visited-kept left.2

  stopped-left : (e : CcError) → IsStopAt 1 j e → PostLeft w.setup w.number (Err e) w.seen j.entries
  stopped-left e (inl full) = subst (λ (x : CcError). PostLeft w.setup w.number (Err x) w.seen j.entries) (sym full.0) (idle-grows w j.entries vis.grows)
  stopped-left e (inr none) = subst (λ (x : CcError). PostLeft w.setup w.number (Err x) w.seen j.entries) (sym none) (idle-grows w j.entries vis.grows)

  stopped-full : (e : CcError) → IsStopAt 1 j e → k ≡ j → IsFull {A = Option ℕ} 1 (without_journal k v) (Err e)
  stopped-full e (inl full) same = subst (λ (x : CcError). IsFull {A = Option ℕ} 1 (without_journal k v) (Err x)) (sym full.0) (full-given (Option ℕ) (length j.entries) (visited-kept same) same refl full.1)
  stopped-full e (inr none) same = subst (λ (x : CcError). IsFull {A = Option ℕ} 1 (without_journal k v) (Err x)) (sym none) tt

  posted-ends : (answer : Result (Option ℕ) CcError) → PostIn w.setup answer j k → PostEnds w (without_journal k v) answer
  posted-ends (Ok (Some id)) left =
      let given = posted-visited (Ok (Some id)) left in
      let grew : k.entries ≡ entry.Posted id ∷ j.entries = ap (λ x. x.entries) left.1 in
      record {
        left = record {
          idle = record { during = entry.Posted id ∷ vis.grows.later; grew = grew ∙ ap (λ past. entry.Posted id ∷ past) vis.grows.grew; others = (refl, vis.grows.others) };
          later = [];
          earlier = vis.grows.later;
          grew = grew ∙ ap (λ past. entry.Posted id ∷ past) vis.grows.grew;
        };
        exact = record { front = j.entries; placed = grew; may = left.0 };
        full = tt;
        goes_on = given.went;
        good = good-given given;
      }
  posted-ends (Ok None) left =
      let past-is : j.entries ≡ k.entries = ap (λ x. x.entries) (sym left.1) in
      let given = visited-kept left.1 in
      record {
        left = subst (λ (past : List Entry). PostLeft w.setup w.number (Ok None) w.seen past) past-is (record {
          idle = idle-grows w j.entries vis.grows;
          nothing = some-now (λ moment. MayNotPost w.setup moment (queue moment)) w j.entries vis.grows (may-not-post w.setup j.entries (queue j.entries) left.0);
        });
        exact = subst (λ (past : List Entry). PostedAt w.setup (Ok None) past) past-is left.0;
        full = tt;
        goes_on = given.went;
        good = good-given given;
      }
  posted-ends (Err e) left =
      let past-is : j.entries ≡ k.entries = ap (λ x. x.entries) (sym left.2) in
      let given = visited-kept left.2 in
      record {
        left = subst (λ (past : List Entry). PostLeft w.setup w.number (Err e) w.seen past) past-is (stopped-left e left.1);
        exact = subst (λ (past : List Entry). PostedAt w.setup (Err e) past) past-is left.0;
        full = stopped-full e left.1 left.2;
        goes_on = given.went;
        good = good-given given;
      }

-- A visit as a whole, from the taking of the journal.
module _ {Q : Type 0} (posted : Q → Bool) (w v : Standing) (j k : JournalState Q) (took : Takes with_journal w v) (stands : JournalStands posted v j) (unposted : AllUnposted posted k.queue) where
  vis : Visiting posted w v j
  vis = visiting posted w v j took stands

  module _ (file : File) (bytes : ℕ) (retrying : Bool) (pass : ℕ) (answer : Result ℕ CcError) (has : (b : BookState) × HasBook w file.stream b) (me : pass ≡ v.number) (left : DeferIn pass file bytes retrying answer j k) where
    mine : DeferIn w.number file bytes retrying answer j k
    mine = subst (λ (n : ℕ). DeferIn n file bytes retrying answer j k) (me ∙ ap (λ x. x.number) took.same) left

    away : w.held.journal ≡ false
    away = ap (λ h. h.journal) has.1.held

    book : w.held.book ≡ Some file.stream
    book = ap (λ h. h.book) has.1.held

    pub gives-deferred : Visited posted w v w.in_flight k
    gives-deferred = deferred-visited posted w v j k away vis unposted file bytes retrying book answer mine

    -- the book stands for the deferral too, which leaves its stream as it is
    stands-behind : (b : BookState) → HasBook w file.stream b → (told : Result ℕ CcError) → DeferIn w.number file bytes retrying told j k → BookStands (w.setup.opening file.stream) k.entries b
    stands-behind b held told is = by told is
      where
        setup_is : v.setup ≡ w.setup
        setup_is = ap (λ x. x.setup) took.same

        front : BookStands (w.setup.opening file.stream) j.entries b
        front =
            subst (λ (u : Setup). BookStands (u.opening file.stream) j.entries b) setup_is
            (subst (λ (past : List Entry). BookStands (v.setup.opening file.stream) past b) (sym stands.entries_are)
            (book_kept with_journal w v file.stream b took refl (ap (λ h. h.book) held.held) held.stream held.stands))

        by : (told : Result ℕ CcError) → DeferIn w.number file bytes retrying told j k → BookStands (w.setup.opening file.stream) k.entries b
        by (Ok id) is =
            let e : Entry = entry.Defer w.number id file (pages_for bytes) retrying in
            subst (λ (past : List Entry). BookStands (w.setup.opening file.stream) past b) (sym (ap (λ x. x.entries) is.1))
            (goes_on_none e j.entries b (w.setup.opening file.stream) refl front)
        by (Err e) is = subst (λ (past : List Entry). BookStands (w.setup.opening file.stream) past b) (sym (ap (λ x. x.entries) is.1)) front

    pub book-deferred : (z : Standing) → z ≡ without_journal k v → HasBook z file.stream has.0
    book-deferred z is =
        let given = gives-deferred in
        subst (λ (x : Standing). HasBook x file.stream has.0) (sym is) (record {
          held = subst (λ (h : TurnsHeld). h ≡ record nothing { device = h.device; book = Some file.stream }) (sym (ap (λ x. x.held) given.went.same)) has.1.held;
          stream = has.1.stream;
          stands = subst (λ (u : Setup). BookStands (u.opening file.stream) k.entries has.0) (sym (ap (λ x. x.setup) given.went.same)) (stands-behind has.0 has.1 answer mine);
          good = given.good;
        })

    pub whole-deferred : (z : Standing) → z ≡ without_journal k v → DeferEnds w z file bytes retrying answer
    whole-deferred z is = subst (λ (x : Standing). DeferEnds w x file bytes retrying answer) (sym is) (deferred-ends posted w v j k away vis unposted file bytes retrying book answer mine)

  module _ (answer : Result (Option ℕ) CcError) (away : w.held.journal ≡ false) (left : (u : Setup) → u.threshold ≡ j.threshold → PostIn u answer j k) where
    here : PostIn w.setup answer j k
    here = left w.setup (sym (stands.threshold_is ∙ ap (λ x. x.setup.threshold) took.same))

    pub gives-posted : Visited posted w v w.in_flight k
    gives-posted = posted-visited posted w v j k away vis unposted answer here

    pub whole-posted : (z : Standing) → z ≡ without_journal k v → PostEnds w z answer
    whole-posted z is = subst (λ (x : Standing). PostEnds w x answer) (sym is) (posted-ends posted w v j k away vis unposted answer here)

-- ---- a turn of the book around a deferral

module _ (w v x y : Standing) (file : File) (bytes : ℕ) (retrying : Bool) (answer : Result ℕ CcError) (can : CanCall w file.stream) (took : Takes (with_book file.stream) w v) (ends : DeferEnds v x file bytes retrying answer) (gave : y ≡ without_book x) where
  number : v.number ≡ w.number
  number = ap (λ z. z.number) took.same

  setup : v.setup ≡ w.setup
  setup = ap (λ z. z.setup) took.same

  flight : v.in_flight ≡ w.in_flight
  flight = ap (λ z. z.in_flight) took.same

  -- the turn was taken and given back
  same : Went w y
  same = record {
    same =
        gave
        ∙ (ap without_book ends.goes_on.same
        ∙ (ap (λ (z : Standing). record z { held = record z.held { book = None }; seen = x.seen; others = x.others }) took.same
        ∙ (ap (λ (h : TurnsHeld). record w { seen = x.seen; held = record h { book = None }; others = x.others }) can.free
        ∙ (sym (ap (λ (h : TurnsHeld). record w { seen = x.seen; held = h; others = x.others }) can.free)
        ∙ ap (λ (z : Standing). record w { seen = z.seen; others = z.others }) (sym gave)))));
  }

  pub deferred-turn : DeferEnds w y file bytes retrying answer
  deferred-turn = record {
    left = subst (λ (z : Standing). DeferLeft w.number file bytes retrying answer w.seen z.seen) (sym gave)
        (defer-before w.number file bytes retrying answer w.seen v.seen x.seen (idle-grows w v.seen took.grows)
        (subst (λ (n : ℕ). DeferLeft n file bytes retrying answer v.seen x.seen) number ends.left));
    exact = subst (λ (z : Standing). DeferredAt w.number file bytes retrying answer z.seen) (sym gave)
        (subst (λ (n : ℕ). DeferredAt n file bytes retrying answer x.seen) number ends.exact);
    full = subst (λ (z : Standing). IsFull 1 z answer) (sym gave) (full-turn answer ends.full);
    room = subst (λ (z : Standing). HadPlace z answer) (sym gave) (room-turn answer ends.room);
    goes_on = same;
    good = subst (λ (z : Standing). IsGood w.setup z.seen) (sym gave) (subst (λ (u : Setup). IsGood u x.seen) setup ends.good);
  }
    where
      full-turn : (told : Result ℕ CcError) → IsFull 1 x told → IsFull 1 (without_book x) told
      full-turn (Ok id) full = tt
      full-turn (Err (error.JournalFull entries)) full = full
      full-turn (Err other) full = tt

      room-turn : (told : Result ℕ CcError) → HadPlace x told → HadPlace (without_book x) told
      room-turn (Ok id) room = tt
      room-turn (Err error.NotCached) room = room
      room-turn (Err error.QueueFull) room = room
      room-turn (Err other) room = tt
