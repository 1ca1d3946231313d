-- The write of a record with the disk in hand, with the book taken and given round it.
use Rattle.std.specs.Prelude.{◌≡◌, ℕ, ◌+◌, ◌^◌, ◌<◌, ◌≤◌, true, not, min, List, [], ◌∷◌, ◌++◌, Result, Ok, Err, OnOk, refl}
use Rattle.std.specs.declared.option.Option.{Option}
use Rattle.std.specs.declared.option.Option.TheVariants.{Some, None}
use Rattle.std.proofs.Common.{ap, sym, subst, ◌∙◌, append_assoc, arith, inl, inr}
use Rattle.std.proofs.lemmas.Bool.{eq-eqb}
use Rattle.std.proofs.lemmas.List.Folds.{list_all-append}
use Rattle.cc_entry.specs.declared.entry.End.{End}
use Rattle.cc_entry.specs.declared.entry.End.TheVariants as how
use Rattle.cc_entry.specs.declared.entry.Entry.{Entry}
use Rattle.cc_entry.specs.declared.entry.Entry.TheVariants as entry
use Rattle.cc_entry.specs.declared.error.CcError.{CcError}
use Rattle.cc_entry.specs.declared.error.CcError.TheVariants as error
use Rattle.cc_book.specs.Book.{BookState, BookStands}
use Rattle.cc_effects.proofs.Stretches.{idle-then, only-before}
use Rattle.cc_effects.specs.Moments.{IsIdle, PlacedOnly}
use Rattle.cc_laws.proofs.HistorySteps.{history-no_effect, history-sync}
use Rattle.cc_laws.proofs.ImageSteps.{open_of-synced}
use Rattle.cc_laws.proofs.SoundFacts.{valid_of-good, size_of-good}
use Rattle.cc_model.specs.Good.{IsGood, IsGoodSoFar}
use Rattle.cc_model.specs.History.{history}
use Rattle.cc_model.specs.Images.{open_of}
use Rattle.cc_model.specs.Records.{MayRecord, MayTellValid, record_page}
use Rattle.cc_model.specs.Setup.{Setup}
use Rattle.cc_model.specs.Touches.{size_of, valid_of}
use Rattle.cc_model.specs.Turns.{Turn, Device, needs, is_quiet}
use Rattle.cc_records.specs.Left.{WroteRecord, RecordStopped}
use Rattle.cc_step.proofs.Placed.{so-far}
use Rattle.cc_traits.specs.Disk.{Disk, Wrote, WriteFailed}
use Rattle.cc_traits.specs.Stop.{faults_in, OnFailed, OnNoMemory}
use Rattle.cc_traits.specs.Told.{Both}
use Rattle.cc_traits.specs.declared.stop.Stop.{Stop}
use Rattle.cc_turns.proofs.DiskGrows.{disk_grows}
use Rattle.cc_turns.proofs.Taking.{disk_kept, transfer_kept}
use Rattle.cc_turns.specs.Disk.{DiskStands, opening_of}
use Rattle.cc_turns.specs.Standing.{DiskAtFirst, Standing, TurnsHeld, nothing}
use Rattle.cc_turns.specs.Takes.{Grows, Takes, with_book, without_book}
use Rattle.cc_turns.specs.Transfers.{transfer_end, synced as synced_past}
use Rattle.cc_writes.proofs.Quiet.{history-kept, is_held}
use Rattle.cc_writes.proofs.Resting.{disk-held, rest-same}
use Rattle.cc_writes.specs.Hands.{WentWith}
use Rattle.cc_writes.specs.Logs.{IsWant}
use Rattle.cc_writes.specs.Visits.{HasPlaced}
use Rattle.cc_calls.specs.Flushes.{HasDisk}
use Rattle.cc_stored.specs.declared.record.Lengths.{Lengths}
use Rattle.cc_stored.specs.Settle.{TellsAfter, RecordWriteLeft, SyncLeft, record_answer, sync_answer}
use Rattle.cc_stored.proofs.Recording.{DiskStands-recorded}
use Rattle.cc_calls.specs.Logs.{IsNotFull}

is_quiet-append : (t : Turn) (xs ys : List Entry) → is_quiet t xs ≡ true → is_quiet t ys ≡ true → is_quiet t (xs ++ ys) ≡ true
unfolding is_quiet
is_quiet-append t xs ys one other = list_all-append (λ e. not (needs e t)) xs ys ∙ rw (one, other) refl

open_of-sync : (past : List Entry) (pass s : ℕ) (end : End) → open_of (history (entry.Sync pass s end ∷ past) s) ≡ open_of (history past s)
open_of-sync past pass s end = ap open_of (history-sync pass s end past s (eq-eqb s s refl)) ∙ open_of-synced pass end (history past s)

-- others went on
pub grows-idle : (w : Standing) (past : List Entry) → Grows w past → IsIdle w.number w.seen past
grows-idle w past grows = record { during = grows.later; grew = grows.grew; others = grows.others }

-- ---- with both turns in hand

module _ {D : Type 0} (told : D → Option Disk) (faults : D → ℕ) (w x : Standing) (s size valid : ℕ) (bytes : List ℕ) (written : Result (Unit {0}) Stop) (end : End) (old new : D)
    (device : w.held.device ≡ Some s) (went : WentWith 0 w x) (spelled : bytes ≡ record_page size valid) (wrote : OnOk written (Both (told old) (told new) (Wrote (2 ^ 51) bytes)))
    (failed : OnFailed written (Both (told old) (told new) (WriteFailed (2 ^ 51) bytes))) (no_memory : OnNoMemory written (told new ≡ told old)) (counted : faults new ≡ faults old + faults_in written)
    (ended : end ≡ transfer_end written) (placed : HasPlaced w (entry.Record w.number s size valid end) x.seen) (stands : DiskStands told faults (w.disks s) w.seen s old) where
  pub written-stands : DiskStands told faults (x.disks s) x.seen s new
  written-stands =
      subst (λ (first : DiskAtFirst). DiskStands told faults first x.seen s new) (sym (ap (λ (y : Standing). y.disks s) went.same))
      (subst (λ (past : List Entry). DiskStands told faults (w.disks s) past s new) (sym placed.placed)
      (subst (λ (how : End). DiskStands told faults (w.disks s) (entry.Record w.number s size valid how ∷ placed.front) s new) (sym ended)
      (DiskStands-recorded told faults (w.disks s) placed.front w.number s size valid bytes written old new spelled wrote failed no_memory counted
      (subst (λ (past : List Entry). DiskStands told faults (w.disks s) past s old) (sym placed.grows.grew)
      (disk_grows told faults (w.disks s) placed.grows.later w.seen s old (placed.grows.quiet (Device s) (is_held s w.held.device device)) stands)))))

-- ---- the book taken and given

-- a book stands for the same history
book-same : (opening : Option (ℕ → List ℕ)) (past now : List Entry) (b : BookState) → history now b.stream ≡ history past b.stream → BookStands opening past b → BookStands opening now b
book-same opening past now b same stands = record {
  state_is = rw same stands.state_is;
  maps_are = rw same stands.maps_are;
  holds_are = rw same stands.holds_are;
  contents_are = rw same stands.contents_are;
  images_are = rw same stands.images_are;
}

module _ {D : Type 0} (told : D → Option Disk) (faults : D → ℕ) (w x : Standing) (s first size now : ℕ) (b : BookState) (old : D)
    (has : HasDisk told faults w s old) (took : Takes (with_book s) w x) (b_is : b.stream ≡ s) (b_stands : BookStands (x.setup.opening s) x.seen b) (tells : TellsAfter w s first)
    (size_is : size ≡ size_of (history x.seen b.stream)) (now_is : now ≡ valid_of (history x.seen b.stream)) where
  device : w.held.device ≡ Some s
  device = ap (λ (h : TurnsHeld). h.device) has.held

  pub both_held : x.held ≡ record nothing { device = Some s; book = Some s }
  both_held = ap (λ (y : Standing). y.held) took.same ∙ ap (λ (h : TurnsHeld). record h { book = Some s }) has.held

  setup_is : x.setup ≡ w.setup
  setup_is = ap (λ (y : Standing). y.setup) took.same

  good : IsGoodSoFar w.setup x.seen
  good = so-far w.setup x.seen (subst (λ (u : Setup). IsGood u x.seen) setup_is took.good)

  its_size : size ≡ size_of (history x.seen s)
  its_size = size_is ∙ ap (λ (n : ℕ). size_of (history x.seen n)) b_is

  its_valid : now ≡ valid_of (history x.seen s)
  its_valid = now_is ∙ ap (λ (n : ℕ). valid_of (history x.seen n)) b_is

  pub in_range : size < 2 ^ 63
  in_range = let below = size_of-good w.setup x.seen s good in subst (λ (n : ℕ). n < 2 ^ 63) (sym its_size) below

  pub within : min first now ≤ size
  within = let most = valid_of-good w.setup x.seen s good in omega (arith, most, its_size, its_valid)

  least : min first now ≤ valid_of (history x.seen s)
  least = omega (arith, its_valid)

  pub may : MayRecord (history x.seen s) size (min first now)
  may = record {
    no_transfer = transfer_kept (with_book s) w x s took device ∙ has.rest;
    its_size = its_size;
    within = least;
    told = subst (λ (past : List Entry). MayTellValid (history past s) (min first now)) (sym took.grows.grew)
        (tells took.grows.later (took.grows.quiet (Device s) (is_held s w.held.device device))
        (subst (λ (past : List Entry). IsGoodSoFar w.setup past) took.grows.grew good) (min first now) (omega arith)
        (subst (λ (past : List Entry). min first now ≤ valid_of (history past s)) took.grows.grew least));
  }

  pub stands_taken : DiskStands told faults (x.disks s) x.seen s old
  stands_taken = disk_kept told faults (with_book s) w x s old took refl device has.stands

  module _ (y z : Standing) (end : End) (new : D) (went : WentWith 0 x y) (y_good : IsGood y.setup y.seen) (stands : DiskStands told faults (y.disks s) y.seen s new)
      (placed : HasPlaced x (entry.Record x.number s size (min first now) end) y.seen) (given : z ≡ without_book y) where
    held_y : y.held ≡ record nothing { device = Some s; book = Some s }
    held_y = ap (λ (a : Standing). a.held) went.same ∙ both_held

    pub book_held : y.held ≡ record nothing { device = y.held.device; book = Some s }
    book_held = held_y ∙ ap (λ (o : Option ℕ). record nothing { device = o; book = Some s }) (sym (ap (λ (h : TurnsHeld). h.device) held_y))

    same_front : history placed.front s ≡ history x.seen s
    same_front = history-kept x s placed.front (ap (λ (h : TurnsHeld). h.book) both_held) (ap (λ (h : TurnsHeld). h.device) both_held) placed.grows

    same_now : history y.seen s ≡ history x.seen s
    same_now =
        ap (λ (past : List Entry). history past s) placed.placed
        ∙ (history-no_effect (entry.Record x.number s size (min first now) end) placed.front s refl ∙ same_front)

    pub book_stands : BookStands (y.setup.opening s) y.seen b
    book_stands =
        subst (λ (u : Setup). BookStands (u.opening s) y.seen b) (sym (ap (λ (a : Standing). a.setup) went.same))
        (book-same (x.setup.opening s) x.seen y.seen b (subst (λ (n : ℕ). history y.seen n ≡ history x.seen n) (sym b_is) same_now) b_stands)

    seen_z : z.seen ≡ y.seen
    seen_z = ap (λ (a : Standing). a.seen) given

    number_x : x.number ≡ w.number
    number_x = ap (λ (a : Standing). a.number) took.same

    pub disk_z : HasDisk told faults z s new
    disk_z = subst (λ (a : Standing). HasDisk told faults a s new) (sym given) (record {
      known = subst (λ (n : ℕ). s < n) (sym (ap (λ (a : Standing). a.streams) went.same ∙ ap (λ (a : Standing). a.streams) took.same)) has.known;
      held = ap (λ (h : TurnsHeld). record h { book = None }) held_y;
      rest = ap open_of same_now ∙ may.no_transfer;
      stands = stands;
      opening =
          ap (λ (a : Standing). a.setup.opening s) went.same
          ∙ (ap (λ (a : Standing). a.setup.opening s) took.same
          ∙ (has.opening
          ∙ (ap (λ (a : Standing). opening_of (a.disks s).told) (sym took.same)
          ∙ ap (λ (a : Standing). opening_of (a.disks s).told) (sym went.same))));
    })

    pub good_z : IsGood z.setup z.seen
    good_z = subst (λ (a : Standing). IsGood a.setup a.seen) (sym given) y_good

    pub went_z : WentWith 0 w z
    went_z = record { same = is ∙ again }
      where
        is : z ≡ record w { held = record w.held { book = None }; seen = y.seen; others = y.others; in_flight = 0 }
        is =
            given
            ∙ (ap without_book went.same
            ∙ ap (λ (a : Standing). without_book (record a { seen = y.seen; others = y.others; in_flight = 0 })) took.same)

        unheld : record w.held { book = None } ≡ w.held
        unheld = ap (λ (h : TurnsHeld). record h { book = None }) has.held ∙ sym has.held

        again : record w { held = record w.held { book = None }; seen = y.seen; others = y.others; in_flight = 0 } ≡ record w { seen = z.seen; others = z.others; in_flight = 0 }
        again =
            ap (λ (h : TurnsHeld). record w { held = h; seen = y.seen; others = y.others; in_flight = 0 }) unheld
            ∙ (ap (λ (l : List Entry). record w { seen = l; others = y.others; in_flight = 0 }) (sym seen_z)
            ∙ ap (λ (n : ℕ). record w { seen = z.seen; others = n; in_flight = 0 }) (sym (ap (λ (a : Standing). a.others) given)))

    wrote_z : WroteRecord w.number s first size (min first now) end w.seen z.seen
    wrote_z = record {
      front = placed.front;
      before = idle-then w.number w.seen x.seen placed.front (grows-idle w x.seen took.grows)
          (subst (λ (n : ℕ). IsIdle n x.seen placed.front) number_x (grows-idle x placed.front placed.grows));
      its_size = its_size ∙ ap size_of (sym same_front);
      its_valid = ap (λ (n : ℕ). min first n) (its_valid ∙ ap valid_of (sym same_front));
      after = record {
        during = [];
        grew = seen_z ∙ (placed.placed ∙ ap (λ (n : ℕ). entry.Record n s size (min first now) end ∷ placed.front) number_x);
        others = tt;
      };
    }

    pub left_z : RecordWriteLeft w.number s first (record_answer end (record { size = size; valid = min first now })) w.seen z.seen
    left_z = go end wrote_z
      where
        go : (how : End) → WroteRecord w.number s first size (min first now) how w.seen z.seen → RecordWriteLeft w.number s first (record_answer how (record { size = size; valid = min first now })) w.seen z.seen
        go how.Good wrote = wrote
        go how.Failed wrote = (refl, record { size = size; valid = min first now; wrote = wrote })
        go how.NoMemory wrote = inr (record { size = size; valid = min first now; wrote = wrote })

pub recorded-room : (end : End) (lengths : Lengths) → IsNotFull (record_answer end lengths)
recorded-room how.Good lengths = tt
recorded-room how.Failed lengths = tt
recorded-room how.NoMemory lengths = tt

pub synced-room : (end : End) → IsNotFull (sync_answer end)
synced-room how.Good = tt
synced-room how.Failed = tt
synced-room how.NoMemory = tt

-- ---- a disk in hand while others go on, and with a sync

pub disk-on : {D : Type 0} (told : D → Option Disk) (faults : D → ℕ) (n s : ℕ) (w x : Standing) (disk : D) → HasDisk told faults w s disk → WentWith n w x → Grows w x.seen → HasDisk told faults x s disk
disk-on told faults n s w x disk has went grows = record {
  known = subst (λ (m : ℕ). s < m) (sym (ap (λ (a : Standing). a.streams) went.same)) has.known;
  held = ap (λ (a : Standing). a.held) went.same ∙ has.held;
  rest = rest-same w.seen x.seen s (disk-held w s x.seen device grows) has.rest;
  stands =
      subst (λ (first : DiskAtFirst). DiskStands told faults first x.seen s disk) (sym (ap (λ (a : Standing). a.disks s) went.same))
      (subst (λ (past : List Entry). DiskStands told faults (w.disks s) past s disk) (sym grows.grew)
      (disk_grows told faults (w.disks s) grows.later w.seen s disk (grows.quiet (Device s) (is_held s w.held.device device)) has.stands));
  opening =
      ap (λ (a : Standing). a.setup.opening s) went.same
      ∙ (has.opening ∙ ap (λ (a : Standing). opening_of (a.disks s).told) (sym went.same));
}
  where
    device : w.held.device ≡ Some s
    device = ap (λ (h : TurnsHeld). h.device) has.held

pub tells-on : (n s first : ℕ) (w x : Standing) → w.held.device ≡ Some s → WentWith n w x → Grows w x.seen → TellsAfter w s first → TellsAfter x s first
tells-on n s first w x device went grows tells later quiet good valid below within =
    subst (λ (past : List Entry). MayTellValid (history past s) valid) (sym longer)
    (tells (later ++ grows.later) (both later quiet (grows.quiet (Device s) (is_held s w.held.device device)))
    (subst (λ (past : List Entry). IsGoodSoFar w.setup past) longer (subst (λ (u : Setup). IsGoodSoFar u (later ++ x.seen)) (ap (λ (a : Standing). a.setup) went.same) good))
    valid below (subst (λ (past : List Entry). valid ≤ valid_of (history past s)) longer within))
  where
    longer : later ++ x.seen ≡ (later ++ grows.later) ++ w.seen
    longer = ap (λ (past : List Entry). later ++ past) grows.grew ∙ sym (append_assoc later grows.later w.seen)

    both : (l : List Entry) → is_quiet (Device s) l ≡ true → is_quiet (Device s) grows.later ≡ true → is_quiet (Device s) (l ++ grows.later) ≡ true
    both l one other = is_quiet-append (Device s) l grows.later one other

module _ {D : Type 0} (told : D → Option Disk) (faults : D → ℕ) (w x : Standing) (s : ℕ) (end : End) (old new : D)
    (has : HasDisk told faults w s old) (went : WentWith 0 w x) (placed : HasPlaced w (entry.Sync w.number s end) x.seen)
    (synced_so : (first : DiskAtFirst) (past later : List Entry) (s pass : ℕ) → DiskStands told faults first past s old → open_of (history past s) ≡ None → is_quiet (Device s) later ≡ true → DiskStands told faults first (synced_past pass s end later past) s new) where
  sync_device : w.held.device ≡ Some s
  sync_device = ap (λ (h : TurnsHeld). h.device) has.held

  quiet : is_quiet (Device s) placed.grows.later ≡ true
  quiet = placed.grows.quiet (Device s) (is_held s w.held.device sync_device)

  sync_rest : open_of (history placed.front s) ≡ None
  sync_rest = rest-same w.seen placed.front s (disk-held w s placed.front sync_device placed.grows) has.rest

  pub disk_synced : HasDisk told faults x s new
  disk_synced = record {
    known = subst (λ (m : ℕ). s < m) (sym (ap (λ (a : Standing). a.streams) went.same)) has.known;
    held = ap (λ (a : Standing). a.held) went.same ∙ has.held;
    rest = ap (λ (past : List Entry). open_of (history past s)) placed.placed ∙ (open_of-sync placed.front w.number s end ∙ sync_rest);
    stands =
        subst (λ (first : DiskAtFirst). DiskStands told faults first x.seen s new) (sym (ap (λ (a : Standing). a.disks s) went.same))
        (subst (λ (past : List Entry). DiskStands told faults (w.disks s) past s new)
        (ap (λ (past : List Entry). entry.Sync w.number s end ∷ past) (sym placed.grows.grew) ∙ sym placed.placed)
        (synced_so (w.disks s) w.seen placed.grows.later s w.number has.stands has.rest quiet));
    opening =
        ap (λ (a : Standing). a.setup.opening s) went.same
        ∙ (has.opening ∙ ap (λ (a : Standing). opening_of (a.disks s).told) (sym went.same));
  }

  sync_only : PlacedOnly w.number (entry.Sync w.number s end) w.seen x.seen
  sync_only = record {
    later = [];
    earlier = placed.grows.later;
    grew = placed.placed ∙ ap (λ (past : List Entry). entry.Sync w.number s end ∷ past) placed.grows.grew;
    is_own = eq-eqb w.number w.number refl;
    quiet_after = tt;
    quiet_before = placed.grows.others;
  }

  pub left_synced : SyncLeft w.number s (sync_answer end) w.seen x.seen
  left_synced = go end sync_only
    where
      go : (how : End) → PlacedOnly w.number (entry.Sync w.number s how) w.seen x.seen → SyncLeft w.number s (sync_answer how) w.seen x.seen
      go how.Good only = only
      go how.Failed only = (refl, only)
      go how.NoMemory only = inr only

-- ---- one after the other

wrote-before : (me s first size valid : ℕ) (end : End) (older old new : List Entry) → IsIdle me older old → WroteRecord me s first size valid end old new → WroteRecord me s first size valid end older new
wrote-before me s first size valid end older old new idle wrote = record {
  front = wrote.front;
  before = idle-then me older old wrote.front idle wrote.before;
  its_size = wrote.its_size;
  its_valid = wrote.its_valid;
  after = wrote.after;
}

wrote-after : (me s first size valid : ℕ) (end : End) (old new newer : List Entry) → WroteRecord me s first size valid end old new → IsIdle me new newer → WroteRecord me s first size valid end old newer
wrote-after me s first size valid end old new newer wrote idle = record {
  front = wrote.front;
  before = wrote.before;
  its_size = wrote.its_size;
  its_valid = wrote.its_valid;
  after = idle-then me (entry.Record me s size valid end ∷ wrote.front) new newer wrote.after idle;
}

pub write-before : (me s first : ℕ) (answer : Result Lengths CcError) (older old new : List Entry) → IsIdle me older old → RecordWriteLeft me s first answer old new → RecordWriteLeft me s first answer older new
write-before me s first (Ok lengths) older old new idle left = wrote-before me s first lengths.size lengths.valid how.Good older old new idle left
write-before me s first (Err (error.JournalFull entries)) older old new idle left = idle-then me older old new idle left
write-before me s first (Err error.NoMemory) older old new idle (inl none) = inl (idle-then me older old new idle none)
write-before me s first (Err error.NoMemory) older old new idle (inr some) = inr (record { size = some.size; valid = some.valid; wrote = wrote-before me s first some.size some.valid how.NoMemory older old new idle some.wrote })
write-before me s first (Err (error.WriteFault page)) older old new idle left = (left.0, record { size = left.1.size; valid = left.1.valid; wrote = wrote-before me s first left.1.size left.1.valid how.Failed older old new idle left.1.wrote })
write-before me s first (Err other) older old new idle left = absurd left

pub sync-before : (me s : ℕ) (answer : Result (Unit {0}) CcError) (older old new : List Entry) → IsIdle me older old → SyncLeft me s answer old new → SyncLeft me s answer older new
sync-before me s (Ok done) older old new idle left = only-before me (entry.Sync me s how.Good) older old new idle left
sync-before me s (Err (error.JournalFull entries)) older old new idle left = idle-then me older old new idle left
sync-before me s (Err error.NoMemory) older old new idle (inl none) = inl (idle-then me older old new idle none)
sync-before me s (Err error.NoMemory) older old new idle (inr only) = inr (only-before me (entry.Sync me s how.NoMemory) older old new idle only)
sync-before me s (Err (error.WriteFault page)) older old new idle left = (left.0, only-before me (entry.Sync me s how.Failed) older old new idle left.1)
sync-before me s (Err other) older old new idle left = absurd left

-- an error of the sync behind a record that was written
pub unsynced : (me s first : ℕ) (lengths : Lengths) (e : CcError) (old mid new : List Entry) → RecordWriteLeft me s first (Ok lengths) old mid → SyncLeft me s (Err e) mid new → RecordStopped me s first e old new
unsynced me s first lengths (error.JournalFull entries) old mid new wrote left =
    inr (record { size = lengths.size; valid = lengths.valid; wrote = wrote-after me s first lengths.size lengths.valid how.Good old mid new wrote left })
unsynced me s first lengths error.NoMemory old mid new wrote (inl none) =
    inr (inl (record { size = lengths.size; valid = lengths.valid; wrote = wrote-after me s first lengths.size lengths.valid how.Good old mid new wrote none }))
unsynced me s first lengths error.NoMemory old mid new wrote (inr only) =
    inr (inr (record { size = lengths.size; valid = lengths.valid; synced = record { written = mid; wrote = wrote; synced = only } }))
unsynced me s first lengths (error.WriteFault page) old mid new wrote left =
    (left.0, inr (record { size = lengths.size; valid = lengths.valid; synced = record { written = mid; wrote = wrote; synced = left.1 } }))
unsynced me s first lengths other old mid new wrote left = absurd left

-- an error of the write
pub unwritten : (me s first : ℕ) (e : CcError) (old new : List Entry) → RecordWriteLeft me s first (Err e) old new → RecordStopped me s first e old new
unwritten me s first (error.JournalFull entries) old new left = inl left
unwritten me s first error.NoMemory old new (inl none) = inl (inl none)
unwritten me s first error.NoMemory old new (inr some) = inl (inr some)
unwritten me s first (error.WriteFault page) old new left = (left.0, inl left.1)
unwritten me s first other old new left = absurd left

-- nothing was placed, as room or memory was wanting
pub want-written : (me s first : ℕ) (e : CcError) (old new : List Entry) → IsWant e → IsIdle me old new → RecordWriteLeft me s first (Err e) old new
want-written me s first (error.JournalFull entries) old new want idle = idle
want-written me s first error.NoMemory old new want idle = inl idle
want-written me s first other old new want idle = absurd want

pub want-synced : (me s : ℕ) (e : CcError) (old new : List Entry) → IsWant e → IsIdle me old new → SyncLeft me s (Err e) old new
want-synced me s (error.JournalFull entries) old new want idle = idle
want-synced me s error.NoMemory old new want idle = inl idle
want-synced me s other old new want idle = absurd want
