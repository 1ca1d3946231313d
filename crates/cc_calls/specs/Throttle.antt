-- What a deferral of a write and a post of a deferred one leave.
use Rattle.std.specs.Prelude.{◌≡◌, ℕ, ◌+◌, ◌<◌, ◌≤◌, Bool, true, false, List, ◌∷◌, length, Result, Ok, Err}
use Rattle.std.specs.declared.option.Option.{Option}
use Rattle.std.specs.declared.option.Option.TheVariants.{Some, None}
use Rattle.cc_entry.specs.Place.{File}
use Rattle.cc_entry.specs.declared.entry.Entry.{Entry}
use Rattle.cc_entry.specs.declared.entry.Entry.TheVariants as entry
use Rattle.cc_entry.specs.declared.error.CcError.{CcError}
use Rattle.cc_entry.specs.declared.error.CcError.TheVariants as error
use Rattle.cc_traits.specs.declared.post.PostedRoutine.{PostedRoutine}
use Rattle.cc_effects.specs.Events.{goes_first}
use Rattle.cc_effects.specs.Throttle.{DeferLeft, PostLeft}
use Rattle.cc_journal.specs.Journal.{JournalState, room_of}
use Rattle.cc_model.specs.Conditions.{MayDefer, MayPost}
use Rattle.cc_model.specs.Good.{IsGood}
use Rattle.cc_model.specs.History.{history}
use Rattle.cc_model.specs.Reasons.{is_open}
use Rattle.cc_model.specs.Room.{reserved_in}
use Rattle.cc_model.specs.Setup.{Setup}
use Rattle.cc_model.specs.Throttle.{pages_for, queue}
use Rattle.cc_turns.specs.Standing.{Standing}
use Rattle.cc_writes.specs.Hands.{Went}
use Rattle.cc_writes.specs.Logs.{IsStopAt}
use Rattle.cc_writes.specs.Ways.{IsFull}

-- ---- a deferral

-- what a deferral answers, without the routine that comes back where it is refused
abbrev pub deferral_told : {Q : Type 0} → Result ℕ (Q × CcError) → Result ℕ CcError
deferral_told (Ok id) = Ok id
deferral_told (Err refused) = Err refused.1

-- The entry of a deferral stands last, and it may stand there: the object is cached, fewer than 64 writes wait, and the
-- number is the next.
pub record IsDeferred (me id : ℕ) (file : File) (bytes : ℕ) (retrying : Bool) (past : List Entry) : Type 0 where
  pub front : List Entry
  pub placed : past ≡ entry.Defer me id file (pages_for bytes) retrying ∷ front
  pub may : MayDefer front id file

-- With what the pass has seen at the end a deferral is answered so: it stands last; or the object is not cached; or it is,
-- and 64 writes wait.
abbrev pub DeferredAt : ℕ → File → ℕ → Bool → Result ℕ CcError → List Entry → Type 0
DeferredAt me file bytes retrying (Ok id) past = IsDeferred me id file bytes retrying past
DeferredAt me file bytes retrying (Err error.NotCached) past = is_open (history past file.stream) file ≡ false
DeferredAt me file bytes retrying (Err error.QueueFull) past =
    (is_open (history past file.stream) file ≡ true) × (64 ≤ length (queue past))
DeferredAt me file bytes retrying (Err other) past = Unit {0}

-- Where a deferral is refused for its object or for the queue, there was room for its entry beside what is owed and under
-- way: room is asked before either.
abbrev pub HadPlaceError : Standing → CcError → Type 0
HadPlaceError w error.NotCached = length w.seen + (reserved_in w.seen + w.in_flight + w.others) + 1 ≤ w.setup.capacity
HadPlaceError w error.QueueFull = length w.seen + (reserved_in w.seen + w.in_flight + w.others) + 1 ≤ w.setup.capacity
HadPlaceError w other = Unit {0}

abbrev pub HadPlace : {A : Type 0} → Standing → Result A CcError → Type 0
HadPlace w (Ok a) = Unit {0}
HadPlace w (Err e) = HadPlaceError w e

-- A deferral was answered so: it left what explains the answer, which is exact for what the pass has seen at the end; a
-- journal that is full is full, and where the object or the queue refuses it there was room; the pass goes on as it stood,
-- and what it has seen is good.
pub record DeferEnds (old new : Standing) (file : File) (bytes : ℕ) (retrying : Bool) (answer : Result ℕ CcError) : Type 0 where
  pub left : DeferLeft old.number file bytes retrying answer old.seen new.seen
  pub exact : DeferredAt old.number file bytes retrying answer new.seen
  pub full : IsFull 1 new answer
  pub room : HadPlace new answer
  pub goes_on : Went old new
  pub good : IsGood old.setup new.seen

-- Why a write is not deferred as a journal stands: there is no room for its entry; or there is, and the object is not cached;
-- or it is, and 64 writes wait; or memory is wanting.
abbrev pub IsKeptBack : {Q : Type 0} → File → CcError → JournalState Q → Type 0
IsKeptBack file (error.JournalFull entries) j = (entries ≡ length j.entries) × (room_of j < 1)
IsKeptBack file error.NotCached j = (1 ≤ room_of j) × (is_open (history j.entries file.stream) file ≡ false)
IsKeptBack file error.QueueFull j =
    (1 ≤ room_of j) × (is_open (history j.entries file.stream) file ≡ true) × (64 ≤ length (queue j.entries))
IsKeptBack file error.NoMemory j = Unit {0}
IsKeptBack file other j = ⊥

-- A place is reserved in a journal for a deferral, which may stand there; or it is as it was.
abbrev pub PlaceFor : {Q : Type 0} → File → Result (Unit {0}) CcError → JournalState Q → JournalState Q → Type 0
PlaceFor file (Ok done) j k =
    (is_open (history j.entries file.stream) file ≡ true) × (length (queue j.entries) < 64)
    × (k ≡ record j { reserved = j.reserved + 1 })
PlaceFor file (Err e) j k = IsKeptBack file e j × (k ≡ j)

-- A write was deferred in a journal, and nothing else of it but its queue changed; or it is as it was.
abbrev pub DeferIn : {Q : Type 0} → ℕ → File → ℕ → Bool → Result ℕ CcError → JournalState Q → JournalState Q → Type 0
DeferIn me file bytes retrying (Ok id) j k =
    MayDefer j.entries id file
    × (k ≡ record j { entries = entry.Defer me id file (pages_for bytes) retrying ∷ j.entries; queue = k.queue })
DeferIn me file bytes retrying (Err e) j k = IsKeptBack file e j × (k ≡ j)

-- ---- a post

-- what a post answers, without the routine: the number of the write that was posted, or none
abbrev pub post_told : {Q : Type 0} → Result (Option (PostedRoutine Q)) CcError → Result (Option ℕ) CcError
post_told (Ok None) = Ok None
post_told (Ok (Some posted)) = Ok (Some posted.id)
post_told (Err e) = Err e

-- The entry of a post stands last, and it may stand there: it is of the head of the queue, which may go.
pub record IsPostedLast (u : Setup) (id : ℕ) (past : List Entry) : Type 0 where
  pub front : List Entry
  pub placed : past ≡ entry.Posted id ∷ front
  pub may : MayPost u front id (queue front)

-- With what the pass has seen at the end a post is answered so: the post stands last; or no write waits, or the first may not
-- go; or it is refused for want of room or of memory, and the first may go. So where there is nothing to post, none is
-- answered, also on a full journal.
abbrev pub PostedAt : Setup → Result (Option ℕ) CcError → List Entry → Type 0
PostedAt u (Ok (Some id)) past = IsPostedLast u id past
PostedAt u (Ok None) past = goes_first u past (queue past) ≡ false
PostedAt u (Err e) past = goes_first u past (queue past) ≡ true

-- A post was answered so: it left what explains the answer, which is exact for what the pass has seen at the end; a journal
-- that is full is full; the pass goes on as it stood, and what it has seen is good.
pub record PostEnds (old new : Standing) (answer : Result (Option ℕ) CcError) : Type 0 where
  pub left : PostLeft old.setup old.number answer old.seen new.seen
  pub exact : PostedAt old.setup answer new.seen
  pub full : IsFull 1 new answer
  pub goes_on : Went old new
  pub good : IsGood old.setup new.seen

-- The first deferred write was posted in a journal, and nothing else of it but its queue changed; or there was nothing to post;
-- or no room for the entry, or no memory: and it is as it was.
abbrev pub PostIn : {Q : Type 0} → Setup → Result (Option ℕ) CcError → JournalState Q → JournalState Q → Type 0
PostIn u (Ok (Some id)) j k =
    MayPost u j.entries id (queue j.entries) × (k ≡ record j { entries = entry.Posted id ∷ j.entries; queue = k.queue })
PostIn u (Ok None) j k = (goes_first u j.entries (queue j.entries) ≡ false) × (k ≡ j)
PostIn u (Err e) j k = (goes_first u j.entries (queue j.entries) ≡ true) × IsStopAt 1 j e × (k ≡ j)
