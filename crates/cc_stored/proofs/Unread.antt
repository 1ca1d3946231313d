-- What a disk stands for after a read of its record page, and what was read.
use Rattle.std.specs.Prelude.{◌≡◌, ℕ, ◌+◌, ◌^◌, List, [], ◌∷◌, Result, Ok, Err, IfOk, refl}
use Rattle.std.specs.declared.option.Option.{Option}
use Rattle.std.specs.declared.option.Option.TheVariants.{Some, None}
use Rattle.std.proofs.Common.{ap, sym, subst, ◌∙◌, arith}
use Rattle.std.proofs.lemmas.Bool.{eq-eqb}
use Rattle.cc_entry.specs.declared.entry.Entry.{Entry}
use Rattle.cc_entry.specs.declared.entry.Entry.TheVariants as entry
use Rattle.cc_entry.specs.declared.error.CcError.{CcError}
use Rattle.cc_entry.specs.declared.error.CcError.TheVariants as error
use Rattle.cc_format.specs.Spelling.{IsReadAs}
use Rattle.cc_format.specs.declared.record.StreamRecord.{StreamRecord}
use Rattle.cc_effects.specs.Failures.{failures}
use Rattle.cc_effects.specs.Moments.{IsIdle, PlacedOnly}
use Rattle.cc_effects.proofs.Stretches.{idle-then, only-before}
use Rattle.cc_laws.proofs.HistorySteps.{history-no_effect}
use Rattle.cc_model.specs.Good.{IsGood}
use Rattle.cc_model.specs.History.{history}
use Rattle.cc_model.specs.Images.{open_of}
use Rattle.cc_model.specs.Turns.{Device}
use Rattle.cc_traits.specs.Disk.{Disk, Found}
use Rattle.cc_traits.specs.Told.{Both, IfTold}
use Rattle.cc_turns.specs.Disk.{DiskStands, HasGone}
use Rattle.cc_turns.specs.RecordPage.{RecordHasGone}
use Rattle.cc_turns.specs.Standing.{DiskAtFirst, Standing, TurnsHeld, nothing}
use Rattle.cc_turns.specs.Takes.{Grows, Takes, with_device, without_device}
use Rattle.cc_turns.proofs.DiskGrows.{both_same, disk_grows}
use Rattle.cc_turns.proofs.PageRead.{DiskStands-told}
use Rattle.cc_turns.proofs.RecordPage.{record_gone-same, record-left}
use Rattle.cc_writes.specs.Fetch.{CanCall}
use Rattle.cc_writes.specs.Hands.{Went, WentWith}
use Rattle.cc_writes.specs.Visits.{HasPlaced}
use Rattle.cc_writes.specs.Ways.{IsFull}
use Rattle.cc_writes.proofs.Quiet.{is_held}
use Rattle.cc_writes.proofs.Resting.{disk-held, rest-same}
use Rattle.cc_records.specs.Left.{LoadLeft}
use Rattle.cc_stored.specs.Stored.{IsKnownRecord, LoadEnds}
use Rattle.cc_calls.specs.Logs.{IsNotFull}

-- ---- the disk

-- one that failed to read the record stands for its failure too
unread-once : {D : Type 0} (told : D → Option Disk) (faults : D → ℕ) (first : DiskAtFirst) (past : List Entry) (s pass : ℕ) (old new : D) → told new ≡ told old → faults new ≡ faults old + 1 → DiskStands told faults first past s old → DiskStands told faults first (entry.RecordFailed pass s ∷ past) s new
unfolding failures
unread-once told faults first past s pass old new same counted stands = record {
  has_gone = rw (history-no_effect (entry.RecordFailed pass s) past s refl)
      (subst (λ now. Both first.told now (HasGone (history past s))) (sym same) stands.has_gone);
  record_has_gone = subst (λ now. Both first.told now (RecordHasGone (entry.RecordFailed pass s ∷ past) s)) (sym same)
      (both_same (RecordHasGone past s) (RecordHasGone (entry.RecordFailed pass s ∷ past) s) first.told (told old)
      (λ opening now. record_gone-same past (entry.RecordFailed pass s ∷ past) s opening now (record-left (entry.RecordFailed pass s) past s refl))
      stands.record_has_gone);
  counted = let before = stands.counted in rw (eq-eqb s s refl, counted) (omega (arith, before));
}

-- what was read of the record page is what is known of it
known-read : (first now : Option Disk) (past : List Entry) (s : ℕ) (page : List ℕ) (read : Option StreamRecord) → Both first now (RecordHasGone past s) → IfTold now (Found (2 ^ 51) page) → IsReadAs page read → IsKnownRecord first s past read
known-read None now past s page read gone found is = tt
known-read (Some opening) None past s page read gone found is = absurd gone
known-read (Some opening) (Some disk) past s page read gone found is =
    λ bytes image. subst (λ l. IsReadAs l read) (found ∙ gone.holds bytes image) is

-- ---- with the disk in hand

module _ {D : Type 0} (told : D → Option Disk) (faults : D → ℕ) (w x : Standing) (s n : ℕ) (disk now : D)
    (held : w.held ≡ record nothing { device = Some s }) (rest : open_of (history w.seen s) ≡ None)
    (stands : DiskStands told faults (w.disks s) w.seen s disk) (went : WentWith n w x) where
  device : w.held.device ≡ Some s
  device = ap (λ (h : TurnsHeld). h.device) held

  disks : x.disks s ≡ w.disks s
  disks = ap (λ (y : Standing). y.disks s) went.same

  grown-stands : (past : List Entry) → Grows w past → DiskStands told faults (w.disks s) past s disk
  grown-stands past grows =
      subst (λ (l : List Entry). DiskStands told faults (w.disks s) l s disk) (sym grows.grew)
      (disk_grows told faults (w.disks s) grows.later w.seen s disk (grows.quiet (Device s) (is_held s w.held.device device)) stands)

  -- nothing was placed, and the disk tells what it told
  pub idle-stands : (more : ℕ) → Grows w x.seen → told now ≡ told disk → faults now ≡ faults disk + more → DiskStands told faults (x.disks s) x.seen s now
  idle-stands more grows same counted =
      subst (λ (first : DiskAtFirst). DiskStands told faults first x.seen s now) (sym disks)
      (DiskStands-told told faults (w.disks s) x.seen s more disk now same counted (grown-stands x.seen grows))

  pub idle-rest : Grows w x.seen → open_of (history x.seen s) ≡ None
  idle-rest grows = rest-same w.seen x.seen s (disk-held w s x.seen device grows) rest

  pub idle-left : Grows w x.seen → IsIdle w.number w.seen x.seen
  idle-left grows = record { during = grows.later; grew = grows.grew; others = grows.others }

  -- its failure was placed
  pub failed-stands : told now ≡ told disk → faults now ≡ faults disk + 1 → HasPlaced w (entry.RecordFailed w.number s) x.seen → DiskStands told faults (x.disks s) x.seen s now
  failed-stands same counted placed =
      subst (λ (first : DiskAtFirst). DiskStands told faults first x.seen s now) (sym disks)
      (subst (λ (l : List Entry). DiskStands told faults (w.disks s) l s now) (sym placed.placed)
      (unread-once told faults (w.disks s) placed.front s w.number disk now same counted (grown-stands placed.front placed.grows)))

  pub failed-rest : HasPlaced w (entry.RecordFailed w.number s) x.seen → open_of (history x.seen s) ≡ None
  failed-rest placed =
      ap (λ past. open_of (history past s)) placed.placed
      ∙ (ap open_of (history-no_effect (entry.RecordFailed w.number s) placed.front s refl)
      ∙ rest-same w.seen placed.front s (disk-held w s placed.front device placed.grows) rest)

  pub failed-left : HasPlaced w (entry.RecordFailed w.number s) x.seen → PlacedOnly w.number (entry.RecordFailed w.number s) w.seen x.seen
  failed-left placed = record {
    later = [];
    earlier = placed.grows.later;
    grew = placed.placed ∙ ap (λ past. entry.RecordFailed w.number s ∷ past) placed.grows.grew;
    is_own = eq-eqb w.number w.number refl;
    quiet_after = tt;
    quiet_before = placed.grows.others;
  }

  -- what was read
  pub read-known : (page : List ℕ) (read : Option StreamRecord) → Grows w x.seen → IfTold (told disk) (Found (2 ^ 51) page) → IsReadAs page read → IsKnownRecord (w.disks s).told s x.seen read
  read-known page read grows found is =
      known-read (w.disks s).told (told disk) x.seen s page read (grown-stands x.seen grows).record_has_gone found is

-- ---- a place was asked for, and the rest went on from there

load-then : (A : Type 0) (me s : ℕ) (answer : Result A CcError) (old between new : List Entry) → IsIdle me old between → LoadLeft me s answer between new → LoadLeft me s answer old new
load-then A me s (Ok told) old between new idle left = idle-then me old between new idle left
load-then A me s (Err (error.ReadFault page)) old between new idle left = (left.0, only-before me (entry.RecordFailed me s) old between new idle left.1)
load-then A me s (Err (error.JournalFull entries)) old between new idle left = idle-then me old between new idle left
load-then A me s (Err error.NoMemory) old between new idle left = idle-then me old between new idle left
load-then A me s (Err other) old between new idle left = absurd left

pub not-full : {A : Type 0} (w : Standing) (answer : Result A CcError) → IsNotFull answer → IsFull 1 w answer
not-full w (Ok a) room = tt
not-full w (Err (error.JournalFull entries)) room = absurd room
not-full w (Err other) room = tt

-- the pass goes on with a place reserved, which is used or given back
pub reserved-went : (w x y : Standing) → WentWith (w.in_flight + 1) w x → WentWith 0 x y → w.in_flight ≡ 0 → Went w y
reserved-went w x y first second none = record {
  same = second.same
      ∙ (ap (λ (z : Standing). record z { seen = y.seen; others = y.others; in_flight = 0 }) first.same
      ∙ ap (λ (m : ℕ). record w { seen = y.seen; others = y.others; in_flight = m }) (sym none));
}

pub reserved-left : (A : Type 0) (w x y : Standing) (s n : ℕ) (answer : Result A CcError) → WentWith n w x → Grows w x.seen → LoadLeft x.number s answer x.seen y.seen → LoadLeft w.number s answer w.seen y.seen
reserved-left A w x y s n answer went grows left =
    load-then A w.number s answer w.seen x.seen y.seen (record { during = grows.later; grew = grows.grew; others = grows.others })
    (subst (λ (m : ℕ). LoadLeft m s answer x.seen y.seen) (ap (λ (z : Standing). z.number) went.same) left)

-- ---- the turn of the disk taken and given

pub loaded : (w v y z : Standing) (s : ℕ) (answer : Result (Option StreamRecord) CcError) → CanCall w s → Takes (with_device s) w v → Went v y → z ≡ without_device y →
    IsGood y.setup y.seen → LoadLeft v.number s answer v.seen y.seen → IsFull 1 y answer → IfOk answer (λ read. IsKnownRecord (v.disks s).told s y.seen read) →
    LoadEnds w z s answer
loaded w v y z s answer can took went given good left full read =
    subst (λ (a : Standing). LoadEnds w a s answer) (sym given) (record {
      left = load-then (Option StreamRecord) w.number s answer w.seen v.seen y.seen (record { during = took.grows.later; grew = took.grows.grew; others = took.grows.others })
          (subst (λ (m : ℕ). LoadLeft m s answer v.seen y.seen) (ap (λ (a : Standing). a.number) took.same) left);
      read = subst (λ (first : DiskAtFirst). IfOk answer (λ told. IsKnownRecord first.told s y.seen told)) (ap (λ (a : Standing). a.disks s) took.same) read;
      full = full-given answer full;
      goes_on = record {
        same = ap without_device went.same
            ∙ (ap (λ (a : Standing). without_device (record a { seen = y.seen; others = y.others; in_flight = a.in_flight })) took.same
            ∙ again);
      };
      good = subst (λ u. IsGood u y.seen) (ap (λ (a : Standing). a.setup) went.same ∙ ap (λ (a : Standing). a.setup) took.same) good;
    })
  where
    full-given : (r : Result (Option StreamRecord) CcError) → IsFull 1 y r → IsFull 1 (without_device y) r
    full-given (Ok a) full = tt
    full-given (Err (error.JournalFull entries)) full = full
    full-given (Err other) full = full

    turns : y.device_turns ≡ (with_device s w).device_turns
    turns = ap (λ (a : Standing). a.device_turns) went.same ∙ ap (λ (a : Standing). a.device_turns) took.same

    again : without_device (record (with_device s w) { seen = y.seen; others = y.others }) ≡ record w { seen = y.seen; others = y.others; device_turns = y.device_turns }
    again =
        ap (λ (h : TurnsHeld). record w { seen = y.seen; others = y.others; held = h; device_turns = (with_device s w).device_turns }) (free can.free)
        ∙ ap (λ (m : ℕ). record w { seen = y.seen; others = y.others; device_turns = m }) (sym turns)
      where
        free : w.held ≡ nothing → record w.held { device = None } ≡ w.held
        free is = subst (λ (h : TurnsHeld). record h { device = None } ≡ h) (sym is) refl

-- a count that did not rise
pub none-more : (n : ℕ) → n ≡ n + 0
none-more n = omega arith
