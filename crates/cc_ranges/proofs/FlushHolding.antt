-- A flush with the disk and the book of its stream in hand: its rounds, its sync, and its end.
use Rattle.std.specs.Prelude.{◌≡◌, ℕ, suc, ◌+◌, ◌<◌, ◌≤◌, ◌^◌, true, false, ◌==◌, Result, Ok, Err, IfOk, List, [], ◌∷◌, ◌++◌, length, None, Some, refl}
use Rattle.std.specs.declared.option.Option.{Option}
use Rattle.std.proofs.Common.{ap, sym, ◌∙◌, subst, arith, inr}
use Rattle.std.proofs.lemmas.Bool.{and_from, eq-eqb}
use Rattle.cc_entry.specs.Place.{File, Range}
use Rattle.cc_entry.specs.declared.call.Call.{Call}
use Rattle.cc_entry.specs.declared.call.Call.TheVariants as call
use Rattle.cc_entry.specs.declared.entry.End.{End}
use Rattle.cc_entry.specs.declared.entry.End.TheVariants as how
use Rattle.cc_entry.specs.declared.entry.Entry.{Entry}
use Rattle.cc_entry.specs.declared.entry.Entry.TheVariants as entry
use Rattle.cc_entry.specs.declared.error.CcError.{CcError}
use Rattle.cc_entry.specs.declared.error.CcError.TheVariants as error
use Rattle.cc_entry.specs.declared.reply.Outcome.{Outcome}
use Rattle.cc_entry.specs.declared.reply.Outcome.TheVariants as outcome
use Rattle.cc_traits.specs.Disk.{Disk}
use Rattle.cc_book.specs.Book.{BookState, BookStands}
use Rattle.cc_effects.specs.Asked.{Calls, is_admitted, may_write}
use Rattle.cc_effects.specs.Calls.{CallLeft, IsUnderWay}
use Rattle.cc_effects.specs.Moments.{IsIdle, Others}
use Rattle.cc_effects.proofs.Starts.{begins}
use Rattle.cc_effects.proofs.Stretches.{idle-none}
use Rattle.cc_laws.proofs.HistorySteps.{history-sync}
use Rattle.cc_laws.proofs.ImageSteps.{open_of-synced}
use Rattle.cc_model.specs.History.{history}
use Rattle.cc_model.specs.Images.{open_of}
use Rattle.cc_model.specs.Ranges.{span_has}
use Rattle.cc_model.specs.Refusals.{refusal}
use Rattle.cc_model.specs.Setup.{Setup}
use Rattle.cc_model.specs.Turns.{Device, is_quiet}
use Rattle.cc_turns.specs.Transfers.{synced}
use Rattle.cc_turns.specs.Disk.{DiskStands, opening_of}
use Rattle.cc_turns.specs.Standing.{Standing, TurnsHeld, DiskAtFirst, nothing}
use Rattle.cc_turns.specs.Takes.{Takes, with_book, without_book}
use Rattle.cc_turns.proofs.DiskGrows.{open_of-quiet}
use Rattle.cc_turns.proofs.Taking.{disk_kept, transfer_kept}
use Rattle.cc_effects.specs.Begins.{BeginsAscending, BeginsNone}
use Rattle.cc_writes.specs.Hands.{WentWith}
use Rattle.cc_writes.specs.Visits.{HasPlaced}
use Rattle.cc_writes.specs.Ways.{WasAdmitted}
use Rattle.cc_effects.proofs.Begun.{ascend-none, ascend-then, none-behind, none-idle, none-then}
use Rattle.cc_writes.proofs.Others.{under_way-on, some-on}
use Rattle.cc_writes.proofs.Resting.{is-held}
use Rattle.cc_writes.specs.Calls.{IsFullWriting, MayFaultInWriting, PageStepLeft}
use Rattle.cc_writes.specs.Writes.{HasBoth, HasTransferred, WorkWantedMemory}
use Rattle.cc_writes.proofs.Halting.{given-up}
use Rattle.cc_writes.proofs.OneVisit.{went-then}
use Rattle.cc_ranges.specs.Flush.{IsFlushing, FlushIsAtPage, IsAtSync, IsAtEnd, IsSyncTold, IsFullFlushRound, RoundBegins, FlushRoundLeft, flush_round_of}
use Rattle.cc_ranges.specs.declared.flush.Round.{Round}
use Rattle.cc_ranges.specs.declared.flush.Round.TheVariants as round
use Rattle.cc_ranges.specs.Settled.{IsSettledAll}
use Rattle.cc_ranges.proofs.Going.{effects-grown, page-written}
use Rattle.cc_ranges.proofs.Settling.{settled_all-later}
use Rattle.cc_ranges.proofs.Synced.{at_end-on, at_end-placed}

-- a flush may answer each fault of the writing of a page
pub may-fault : (file : File) (span : Option Range) → MayFaultInWriting (call.Flush file span)
may-fault file span = record { disk = λ page. refl; log = λ handle. refl }

-- a page of its span may be written for it, where nothing refuses it
pub asks-page : (file : File) (span : Option Range) (s page : ℕ) (past : List Entry) → is_admitted (call.Flush file span) s past ≡ true → s ≡ file.stream → span_has span page ≡ true → may_write (Calls (call.Flush file span)) (record { stream = s; page = page }) past ≡ true
asks-page file span s page past admitted here has =
    and_from (is_admitted (call.Flush file span) s past) _ admitted (and_from (file.stream == s) (span_has span page) (eq-eqb file.stream s (sym here)) has)

-- a page was written for it, or it failed
pub round-left : (u : Setup) (w : Standing) (file : File) (span : Option Range) (page : ℕ) (written : Result Call CcError) (begun new : List Entry) → FlushIsAtPage u w.number file span page begun w.seen → PageStepLeft u w.number (call.Flush file span) written begun new → IfOk written (λ again. HasTransferred w (record { stream = file.stream; page = page }) how.Good false new) → FlushRoundLeft u w.number file span (flush_round_of written page) begun new
round-left u w file span page (Ok again) begun new at left shown =
    subst (λ (n : ℕ). IsFlushing w.number file span n begun new) (one page) (page-written u w file span page begun new at left.1 shown)
  where
    one : (n : ℕ) → suc n ≡ n + 1
    one n = omega arith
round-left u w file span page (Err e) begun new at left shown = left

-- a round that wrote a page found no room as that did
pub full-round : (it : Call) (w : Standing) (page : ℕ) (written : Result Call CcError) → IsFullWriting it w written → IsFullFlushRound it w (flush_round_of written page)
full-round it w page (Ok again) full = tt
full-round it w page (Err e) full = full

-- the same where the pass is said to stand as it did before the step
pub round-wrote : (w v : Standing) (flight n : ℕ) (file : File) (span : Option Range) (page : ℕ) (written : Result Call CcError) (new : List Entry) → WentWith flight w v → n ≡ file.stream → ((begun : List Entry) → IsUnderWay v.number (call.Flush file span) begun v.seen → PageStepLeft v.setup v.number (call.Flush file span) written begun new) → IfOk written (λ again. HasTransferred v (record { stream = n; page = page }) how.Good false new) → (begun : List Entry) → FlushIsAtPage w.setup w.number file span page begun v.seen → FlushRoundLeft w.setup w.number file span (flush_round_of written page) begun new
round-wrote w v flight n file span page written new went here left shown begun at =
    subst (λ (m : ℕ). FlushRoundLeft w.setup m file span (flush_round_of written page) begun new) number
    (round-left w.setup v file span page written begun new at_v
    (subst (λ (u : Setup). PageStepLeft u v.number (call.Flush file span) written begun new) (ap (λ (x : Standing). x.setup) went.same) (left begun at_v.flushing.way))
    (subst (λ (m : ℕ). IfOk written (λ again. HasTransferred v (record { stream = m; page = page }) how.Good false new)) here shown))
  where
    number : v.number ≡ w.number
    number = ap (λ (x : Standing). x.number) went.same

    at_v : FlushIsAtPage w.setup v.number file span page begun v.seen
    at_v = subst (λ (m : ℕ). FlushIsAtPage w.setup m file span page begun v.seen) (sym number) at

-- The sync: the book is given, the entry of the sync is placed, and the book is taken again.
module _ {D : Type 0} (told : D → Option Disk) (faults : D → ℕ) (w x v : Standing) (s : ℕ) (b : BookState) (disk now : D) (end : End)
    (both : HasBoth told faults w s b disk) (went : WentWith 0 (without_book w) x) (placed : HasPlaced (without_book w) (entry.Sync w.number s end) x.seen)
    (took : Takes (with_book s) x v) where
  number_same : x.number ≡ w.number
  number_same = ap (λ (y : Standing). y.number) went.same

  device : w.held.device ≡ Some s
  device = both.rest.device

  book_again : record w.held { book = Some s } ≡ w.held
  book_again = subst (λ (h : TurnsHeld). record h { book = Some s } ≡ h) (sym both.book.held) refl

  pub went-synced : WentWith 0 w v
  went-synced = record {
    same = took.same
        ∙ (ap (λ (y : Standing). record y { held = record y.held { book = Some s }; seen = v.seen; others = v.others }) went.same
        ∙ ap (λ (h : TurnsHeld). record w { held = h; seen = v.seen; others = v.others; in_flight = 0 }) book_again);
  }

  before : IsIdle w.number w.seen placed.front
  before = record { during = placed.grows.later; grew = placed.grows.grew; others = placed.grows.others }

  quiet : is_quiet (Device s) placed.grows.later ≡ true
  quiet = placed.grows.quiet (Device s) (is-held s w.held.device device)

  pub sync-told : IsSyncTold w s end v.seen
  sync-told = record {
    front = placed.front;
    before = before;
    after = record {
      during = took.grows.later;
      grew = took.grows.grew ∙ ap (λ (past : List Entry). took.grows.later ++ past) placed.placed;
      others = subst (λ (n : ℕ). Others n took.grows.later) number_same took.grows.others;
    };
  }

  -- the disk stands for its sync
  module _ (ended : (first : DiskAtFirst) (past later : List Entry) (t pass : ℕ) → DiskStands told faults first past t disk → open_of (history past t) ≡ None → is_quiet (Device t) later ≡ true → DiskStands told faults first (synced pass t end later past) t now) where
    x_device : x.held.device ≡ Some s
    x_device = ap (λ (y : Standing). y.held.device) went.same ∙ device

    disk_synced : DiskStands told faults (x.disks s) x.seen s now
    disk_synced =
        subst (λ (first : DiskAtFirst). DiskStands told faults first x.seen s now) (sym (ap (λ (y : Standing). y.disks s) went.same))
        (subst (λ (past : List Entry). DiskStands told faults (w.disks s) past s now) (sym placed.placed)
        (subst (λ (past : List Entry). DiskStands told faults (w.disks s) (entry.Sync w.number s end ∷ past) s now) (sym placed.grows.grew)
        (ended (w.disks s) w.seen placed.grows.later s w.number both.disk both.rest.no_transfer quiet)))

    v_held : v.held ≡ w.held
    v_held = ap (λ (y : Standing). y.held) went-synced.same

    rest_front : open_of (history x.seen s) ≡ None
    rest_front =
        ap (λ (past : List Entry). open_of (history past s)) placed.placed
        ∙ (ap open_of (history-sync w.number s end placed.front s (eq-eqb s s refl))
        ∙ (open_of-synced w.number end (history placed.front s)
        ∙ (ap (λ (past : List Entry). open_of (history past s)) placed.grows.grew
        ∙ (open_of-quiet placed.grows.later w.seen s quiet ∙ both.rest.no_transfer))))

    pub both-synced : (c : BookState) → c.stream ≡ s → BookStands (v.setup.opening s) v.seen c → HasBoth told faults v s c now
    both-synced c is stands = record {
      book = record {
        held = subst (λ (h : TurnsHeld). h ≡ record nothing { device = h.device; book = Some s }) (sym v_held) both.book.held;
        stream = is;
        stands = stands;
        good = took.good;
      };
      rest = record {
        device = ap (λ (h : TurnsHeld). h.device) v_held ∙ device;
        no_transfer = transfer_kept (with_book s) x v s took x_device ∙ rest_front;
      };
      disk = disk_kept told faults (with_book s) x v s now took refl x_device disk_synced;
      opening = ap (λ (y : Standing). y.setup.opening s) went-synced.same ∙ (both.opening ∙ ap (λ (y : Standing). opening_of (y.disks s).told) (sym went-synced.same));
    }

-- what is there to end behind it
pub at-end : (u : Setup) (w : Standing) (file : File) (span : Option Range) (end : End) (begun seen : List Entry) → IsSyncTold w file.stream end seen → IsAtSync u w.number file span begun w.seen → IsAtEnd u w.number file span end begun seen
at-end u w file span end begun seen told at =
    at_end-on u w.number file span begun end (entry.Sync w.number s end ∷ told.front) seen
    (at_end-placed u w.number file span begun told.front way admitted end settled) told.after
  where
    s : ℕ
    s = file.stream

    way : IsUnderWay w.number (call.Flush file span) begun told.front
    way = under_way-on w.number (call.Flush file span) begun w.seen told.front at.way told.before

    settled : IsSettledAll (length (history begun s)) (history told.front s) span
    settled = subst (λ (past : List Entry). IsSettledAll (length (history begun s)) (history past s) span) (sym told.before.grew)
        (settled_all-later (length (history begun s)) told.before.during w.seen s span (effects-grown begun w.seen at.way.during s at.way.grew) at.settled)

    admitted : WasAdmitted u (call.Flush file span) s begun told.front
    admitted = some-on (λ moment. refusal u moment (history moment s) (call.Flush file span) ≡ None) w.number begun w.seen told.front
        (record { moment = w.seen; later = []; since = at.way.during; ends = refl; begins = at.way.grew; holds = at.admitted }) told.before

-- the same where the pass is said to stand as it did before the sync
pub at-end-of : (w v : Standing) (file : File) (span : Option Range) (end : End) → WentWith 0 w v → IsSyncTold w file.stream end v.seen → (begun : List Entry) → IsAtSync w.setup w.number file span begun w.seen → IsAtEnd v.setup v.number file span end begun v.seen
at-end-of w v file span end went told begun at =
    subst (λ (n : ℕ). IsAtEnd v.setup n file span end begun v.seen) (sym (ap (λ (x : Standing). x.number) went.same))
    (subst (λ (u : Setup). IsAtEnd u w.number file span end begun v.seen) (sym (ap (λ (x : Standing). x.setup) went.same)) (at-end w.setup w file span end begun v.seen told at))

pub ended-of : (w v : Standing) (file : File) (span : Option Range) (ended : Outcome) (begun new : List Entry) → WentWith 0 w v → CallLeft v.setup v.number (call.Flush file span) ended begun new → CallLeft w.setup w.number (call.Flush file span) ended begun new
ended-of w v file span ended begun new went left =
    subst (λ (n : ℕ). CallLeft w.setup n (call.Flush file span) ended begun new) (ap (λ (x : Standing). x.number) went.same)
    (subst (λ (u : Setup). CallLeft u v.number (call.Flush file span) ended begun new) (ap (λ (x : Standing). x.setup) went.same) left)

-- its sync found no memory
pub memoryless-left : (u : Setup) (me : ℕ) (file : File) (span : Option Range) (begun new : List Entry) → WorkWantedMemory me (Calls (call.Flush file span)) begun new → CallLeft u me (call.Flush file span) (outcome.Failed error.NoMemory) begun new
memoryless-left u me file span begun new wanted = given-up u me (call.Flush file span) (record { stream = 0; page = 0 }) error.NoMemory begun new refl refl (inr wanted)

-- a step, which begins no transfer, and then the writing of a page begin that page's alone
pub begun-round : (flight from page : ℕ) (w v : Standing) (written : Result Call CcError) (new : List Entry) → WentWith flight w v → from ≤ page → page < 2 ^ 51 → BeginsNone w.number w.seen v.seen → BeginsAscending v.number page (page + 1) v.seen new → RoundBegins w.number (flush_round_of written page) from w.seen new
begun-round flight from page w v written new went first below none begun = by written
  where
    to : (high : ℕ) → BeginsAscending w.number page high v.seen new → BeginsAscending w.number from high w.seen new
    to high more = ascend-then w.number from page high w.seen v.seen new (ascend-none w.number from page w.seen v.seen first none) more

    here : BeginsAscending w.number page (page + 1) v.seen new
    here = subst (λ (n : ℕ). BeginsAscending n page (page + 1) v.seen new) (ap (λ (x : Standing). x.number) went.same) begun

    by : (r : Result Call CcError) → RoundBegins w.number (flush_round_of r page) from w.seen new
    by (Ok again) = to (page + 1) here
    by (Err e) =
        to (2 ^ 51) (ascend-then w.number page (page + 1) (2 ^ 51) v.seen new new here (ascend-none w.number (page + 1) (2 ^ 51) new new (omega (arith, below)) (none-idle w.number new new (idle-none w.number new))))

-- the entry of its sync begins none
pub begun-synced : (w : Standing) (s : ℕ) (end : End) (seen : List Entry) → IsSyncTold w s end seen → BeginsNone w.number w.seen seen
begun-synced w s end seen told =
    none-then w.number w.seen (entry.Sync w.number s end ∷ told.front) seen
    (none-behind w.number (entry.Sync w.number s end) w.seen told.front refl (none-idle w.number w.seen told.front told.before))
    (none-idle w.number (entry.Sync w.number s end ∷ told.front) seen told.after)

-- so its sync and its end begin none
pub begun-end : (w v : Standing) (s : ℕ) (end : End) (new : List Entry) → WentWith 0 w v → IsSyncTold w s end v.seen → BeginsNone v.number v.seen new → BeginsNone w.number w.seen new
begun-end w v s end new went told last =
    none-then w.number w.seen v.seen new (begun-synced w s end v.seen told) (subst (λ (n : ℕ). BeginsNone n v.seen new) (ap (λ (x : Standing). x.number) went.same) last)

-- and none has begun where nothing was placed
pub begun-nothing : (me : ℕ) (past : List Entry) → BeginsNone me past past
begun-nothing me past = none-idle me past past (idle-none me past)

-- How the rounds go on: what is in hand stands, and a flush that was under way as they began has come to this page.
pub record ComesOn {D : Type 0} (told : D → Option Disk) (faults : D → ℕ) (w v : Standing) (file : File) (span : Option Range)
    (from : ℕ) (b : BookState) (disk : D) : Type 0 where
  pub stream : b.stream ≡ file.stream
  pub known : b.stream < v.streams
  pub both : HasBoth told faults v b.stream b disk
  pub none : v.in_flight ≡ 0
  pub went : WentWith w.in_flight w v
  pub left : (begun : List Entry) → IsUnderWay w.number (call.Flush file span) begun w.seen → IsFlushing w.number file span from begun v.seen
  pub within : from ≤ 2 ^ 51
  pub begun : BeginsAscending w.number 0 from w.seen v.seen

-- they begin
pub comes-first : {D : Type 0} (told : D → Option Disk) (faults : D → ℕ) (w : Standing) (file : File) (span : Option Range) (b : BookState) (disk : D) → b.stream ≡ file.stream → b.stream < w.streams → HasBoth told faults w b.stream b disk → w.in_flight ≡ 0 → ComesOn told faults w w file span 0 b disk
comes-first told faults w file span b disk stream known both none = record {
  stream = stream;
  known = known;
  both = both;
  none = none;
  went = record { same = refl };
  left = λ begun way. record { way = way; settled = λ p less has. absurd (omega (arith, less)) };
  within = omega arith;
  begun = ascend-none w.number 0 0 w.seen w.seen (omega arith) (begun-nothing w.number w.seen);
}

module _ {D : Type 0} (told : D → Option Disk) (faults : D → ℕ) (w v x : Standing) (file : File) (span : Option Range) (from : ℕ)
    (b c : BookState) (disk now : D) (on : ComesOn told faults w v file span from b disk) where
  number_on : v.number ≡ w.number
  number_on = ap (λ (y : Standing). y.number) on.went.same

  setup_on : v.setup ≡ w.setup
  setup_on = ap (λ (y : Standing). y.setup) on.went.same

  -- wherever it began it has come so far
  flushing_on : (begun : List Entry) → IsUnderWay w.number (call.Flush file span) begun w.seen → IsFlushing v.number file span from begun v.seen
  flushing_on begun way = subst (λ (n : ℕ). IsFlushing n file span from begun v.seen) (sym number_on) (on.left begun way)

  pub some-flushing : (begun : List Entry) × IsFlushing v.number file span from begun v.seen
  some-flushing = (w.seen, flushing_on w.seen (begins w.number (call.Flush file span) w.seen))

  -- what a round left of it
  pub round-on : (came : Round) → ((begun : List Entry) → IsFlushing v.number file span from begun v.seen → FlushRoundLeft v.setup v.number file span came begun x.seen) → (begun : List Entry) → IsUnderWay w.number (call.Flush file span) begun w.seen → FlushRoundLeft w.setup w.number file span came begun x.seen
  round-on came left begun way =
      subst (λ (n : ℕ). FlushRoundLeft w.setup n file span came begun x.seen) number_on
      (subst (λ (u : Setup). FlushRoundLeft u v.number file span came begun x.seen) setup_on (left begun (flushing_on begun way)))

  -- what it began to write since the rounds began ascends
  pub begun-on : (to : ℕ) → BeginsAscending v.number from to v.seen x.seen → BeginsAscending w.number 0 to w.seen x.seen
  begun-on to more = ascend-then w.number 0 from to w.seen v.seen x.seen on.begun (subst (λ (n : ℕ). BeginsAscending n from to v.seen x.seen) number_on more)

  -- it has come to another page
  pub comes-on : (to : ℕ) → HasBoth told faults x b.stream c now → WentWith v.in_flight v x → to ≤ 2 ^ 51 → RoundBegins v.number (round.CameTo to) from v.seen x.seen → ((begun : List Entry) → IsFlushing v.number file span from begun v.seen → FlushRoundLeft v.setup v.number file span (round.CameTo to) begun x.seen) → ComesOn told faults w x file span to c now
  comes-on to both went within more left = record {
    stream = both.book.stream ∙ on.stream;
    known = subst (λ (n : ℕ). n < x.streams) (sym both.book.stream) (subst (λ (n : ℕ). b.stream < n) (sym (ap (λ (y : Standing). y.streams) went.same)) on.known);
    both = subst (λ (n : ℕ). HasBoth told faults x n c now) (sym both.book.stream) both;
    none = ap (λ (y : Standing). y.in_flight) went.same ∙ on.none;
    went = subst (λ (n : ℕ). WentWith n w x) flight (went-then w.in_flight v.in_flight w v x on.went went);
    left = round-on (round.CameTo to) left;
    within = within;
    begun = begun-on to more;
  }
    where
      flight : v.in_flight ≡ w.in_flight
      flight = ap (λ (y : Standing). y.in_flight) on.went.same

  -- it is to sync, and what its end leaves then is left since the rounds began
  module _ (flight : ℕ) (went : WentWith flight v x) where
    number_after : x.number ≡ v.number
    number_after = ap (λ (y : Standing). y.number) went.same

    setup_after : x.setup ≡ v.setup
    setup_after = ap (λ (y : Standing). y.setup) went.same

    pub at-sync-on : ((begun : List Entry) → IsFlushing v.number file span from begun v.seen → FlushRoundLeft v.setup v.number file span round.Syncs begun x.seen) → (begun : List Entry) → IsUnderWay w.number (call.Flush file span) begun w.seen → IsAtSync x.setup x.number file span begun x.seen
    at-sync-on left begun way =
        subst (λ (n : ℕ). IsAtSync x.setup n file span begun x.seen) (sym number_after)
        (subst (λ (u : Setup). IsAtSync u v.number file span begun x.seen) (sym setup_after) (left begun (flushing_on begun way)))

    pub ended-on : (ended : Outcome) (begun new : List Entry) → CallLeft x.setup x.number (call.Flush file span) ended begun new → CallLeft w.setup w.number (call.Flush file span) ended begun new
    ended-on ended begun new left =
        subst (λ (n : ℕ). CallLeft w.setup n (call.Flush file span) ended begun new) (number_after ∙ number_on)
        (subst (λ (u : Setup). CallLeft u x.number (call.Flush file span) ended begun new) (setup_after ∙ setup_on) left)

    -- it begins no transfer as it syncs and ends
    pub begun-ended : BeginsNone v.number v.seen x.seen → (new : List Entry) → BeginsNone x.number x.seen new → BeginsAscending w.number 0 (2 ^ 51) w.seen new
    begun-ended none new last =
        ascend-then w.number 0 from (2 ^ 51) w.seen v.seen new on.begun
        (subst (λ (n : ℕ). BeginsAscending n from (2 ^ 51) v.seen new) number_on
        (ascend-none v.number from (2 ^ 51) v.seen new on.within
        (none-then v.number v.seen x.seen new none (subst (λ (n : ℕ). BeginsNone n x.seen new) number_after last))))
