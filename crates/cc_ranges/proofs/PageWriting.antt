-- The writing of one page of a noncached write: its store with the begin of its transfer, and what follows.
use Rattle.std.specs.Prelude.{◌≡◌, ℕ, suc, ◌+◌, ◌-◌, ◌*◌, ◌^◌, ◌<◌, Bool, true, false, ◌==◌, ◌||◌, nat_lt, List, [], ◌∷◌, ◌++◌, length, slice_index, Some, refl, if◌then◌else◌}
use Rattle.std.specs.declared.option.Option.{Option}
use Rattle.std.specs.List.{list_any}
use Rattle.std.proofs.Common.{ap, sym, ◌∙◌, subst, arith}
use Rattle.std.proofs.lemmas.Bool.{eq-eqb, ltb-true, ltb-false}
use Rattle.cc_entry.specs.Place.{File, Page}
use Rattle.cc_entry.specs.declared.call.Call.TheVariants as call
use Rattle.cc_entry.specs.declared.entry.End.{End}
use Rattle.cc_entry.specs.declared.entry.End.TheVariants as how
use Rattle.cc_entry.specs.declared.entry.Entry.{Entry}
use Rattle.cc_entry.specs.declared.entry.Entry.TheVariants as entry
use Rattle.cc_entry.specs.declared.error.CcError.TheVariants as error
use Rattle.cc_entry.specs.declared.reply.Outcome.TheVariants as outcome
use Rattle.cc_entry.specs.declared.reply.Reply.TheVariants as reply
use Rattle.cc_traits.specs.Disk.{Disk}
use Rattle.cc_book.specs.Book.{BookState}
use Rattle.cc_book.specs.Stored.{store_done}
use Rattle.cc_content.specs.Contents.{IsByteOfContents}
use Rattle.cc_content.specs.Filling.{IsClearedFrom}
use Rattle.cc_effects.specs.Moments.{Others}
use Rattle.cc_laws.proofs.FaultSteps.{faults_since-write_failed, is_written_since-write_end, store_of-store}
use Rattle.cc_laws.proofs.PassSteps.{up_to_call-other}
use Rattle.cc_laws.proofs.SoundFacts.{size_of-good}
use Rattle.cc_model.specs.Conditions.{MayFinish, MayStore}
use Rattle.cc_model.specs.Covered.{IsLogged}
use Rattle.cc_model.specs.Faults.{faults_since, is_failed_write}
use Rattle.cc_model.specs.History.{history}
use Rattle.cc_model.specs.Images.{open_of}
use Rattle.cc_model.specs.Passes.{is_same_page, is_the_page, store_of, stored_by, calls_of}
use Rattle.cc_model.specs.Touches.{size_of}
use Rattle.cc_step.proofs.Placed.{so-far}
use Rattle.cc_turns.specs.Disk.{DiskStands, opening_of}
use Rattle.cc_turns.specs.Standing.{Standing, DiskAtFirst}
use Rattle.cc_turns.specs.Takes.{Grows}
use Rattle.cc_writes.specs.Hands.{HasBook, IsAtRest, SameDisk, WentWith}
use Rattle.cc_writes.proofs.VisitDisks.{disk-call, disk-page_out, disk-same, disk_still}
use Rattle.cc_writes.specs.Transfers.{OwnTransferIsUnderWay, IsFinished}
use Rattle.cc_writes.specs.Writes.{HasBoth}
use Rattle.cc_writes.proofs.Flushing.{disk-grown}
use Rattle.cc_writes.proofs.Quiet.{history-kept, flushed_to-grows, logged-kept}
use Rattle.cc_writes.proofs.OneVisit.{went-number, went-held}
use Rattle.cc_writes.proofs.Writing.{opening-kept, disks-kept}
use Rattle.cc_ranges.specs.Ends.{PageOutAtMost, HasTidied, HasFinished, HasFailedSince, HasFailedWrite, write_done, write_failed}
use Rattle.cc_ranges.specs.Stores.{IsReadyToStore, HasStored, stored_byte}
use Rattle.cc_ranges.proofs.WriteFinishing.{store-others}
use Rattle.cc_ranges.proofs.Goods.{below-size, open-stored, bytes-with_store}
use Rattle.cc_ranges.proofs.Storing.{refusal-history}

page-same : (page : Page) → is_same_page page page ≡ true
page-same page = rw (eq-eqb page.stream page.stream refl, eq-eqb page.page page.page refl) refl

-- what the pass stored is what its last call stored, as the transfer ended
module _ (me : ℕ) (page : Page) (how : End) (later seen : List Entry) (others : Others me later) (stored : is_the_page page (store_of seen me) ≡ true) where
  abbrev now : List Entry
  now = entry.WriteEnd me page how ∷ (later ++ seen)

  pub stored-ended : is_the_page page (store_of now me) ≡ true
  stored-ended =
      ap (λ calls. is_the_page page (stored_by calls)) (up_to_call-other (entry.WriteEnd me page how) (later ++ seen) me refl)
      ∙ (ap (is_the_page page) (store-others me later seen others) ∙ stored)

pub finishes : (me : ℕ) (page : Page) (later seen : List Entry) → Others me later → is_the_page page (store_of seen me) ≡ true → MayFinish (entry.WriteEnd me page how.Good ∷ (later ++ seen)) me page.stream page.page
finishes me page later seen others stored = record {
  stored = stored-ended me page how.Good later seen others stored;
  written = is_written_since-write_end me page page how.Good (later ++ seen) me (eq-eqb me me refl) (page-same page) refl;
}

pub fails : (me : ℕ) (page : Page) (later seen : List Entry) → Others me later → is_the_page page (store_of seen me) ≡ true → HasFailedSince (entry.WriteEnd me page how.Failed ∷ (later ++ seen)) me page
fails me page later seen others stored = record {
  stored = stored-ended me page how.Failed later seen others stored;
  failed = ap (list_any (is_failed_write page.page)) (faults_since-write_failed me page how.Failed (later ++ seen) me (eq-eqb me me refl) refl) ∙ first (page.page == page.page) (list_any (is_failed_write page.page) (faults_since (later ++ seen) me)) (eq-eqb page.page page.page refl);
}
  where
    first : (a b : Bool) → a ≡ true → (a || b) ≡ true
    first true b is = refl
    first false b is = absurd (cc)

-- a page that goes out leaves the disk
pub out-disk : (pass : ℕ) (page : Page) (tidied past : List Entry) (s : ℕ) → PageOutAtMost pass page tidied → SameDisk past (tidied ++ past) s
out-disk pass page [] past s only = disk-same past s
out-disk pass page (e ∷ []) past s only = subst (λ (x : Entry). SameDisk past (x ∷ past) s) (sym only) (disk-page_out pass page past s)
out-disk pass page (e ∷ (other ∷ more)) past s only = absurd only

-- Both are in hand again, as the write has ended.
module _ {D : Type 0} (told : D → Option Disk) (faults : D → ℕ) (n : ℕ) (w x : Standing) (file : File) (page : Page) (b c : BookState) (disk : D)
    (both : HasBoth told faults w page.stream b disk) (went : WentWith n w x) (has : HasBook x page.stream c) (rest : IsAtRest x page.stream) where
  grown : (seen : List Entry) → Grows w seen → DiskStands told faults (w.disks page.stream) seen page.stream disk
  grown seen grows = disk-grown told faults (w.disks page.stream) w page.stream disk both.rest.device both.disk seen grows

  hands : DiskStands told faults (w.disks page.stream) x.seen page.stream disk → HasBoth told faults x page.stream c disk
  hands stands = record {
    book = has;
    rest = rest;
    disk = subst (λ (first : DiskAtFirst). DiskStands told faults first x.seen page.stream disk) (sym (disks-kept n w x page.stream went)) stands;
    opening = opening-kept n w x page.stream went both.opening;
  }

  -- as its page went out where it could
  tidied : (seen : List Entry) → HasTidied w page seen → DiskStands told faults (w.disks page.stream) seen page.stream disk
  tidied seen is =
      subst (λ (past : List Entry). DiskStands told faults (w.disks page.stream) past page.stream disk) (sym is.placed)
      (disk_still told faults (w.disks page.stream) is.front (is.tidied ++ is.front) page.stream disk (out-disk w.number page is.tidied is.front page.stream is.only) (grown is.front is.grows))

  pub both-done : HasFinished w file page x.seen → HasBoth told faults x page.stream c disk
  both-done is =
      let y = is.then_was in
      let front = is.ended.front in
      hands (subst (λ (past : List Entry). DiskStands told faults (w.disks page.stream) past page.stream disk) (sym is.ended.placed)
      (disk_still told faults (w.disks page.stream) front (write_done y.number file page front ∷ front) page.stream disk
      (disk-call y.number (suc (calls_of front y.number)) (Some page.stream) (call.NcWrite file page.page) (outcome.Done reply.Unit) front page.stream)
      (disk-grown told faults (w.disks page.stream) y page.stream disk (ap (λ h. h.device) (went-held 0 w y is.went) ∙ both.rest.device)
      (tidied y.seen is.tidied) front is.ended.grows)))

  pub both-told : HasFailedWrite w file page x.seen → HasBoth told faults x page.stream c disk
  both-told is =
      hands (subst (λ (past : List Entry). DiskStands told faults (w.disks page.stream) past page.stream disk) (sym is.placed)
      (disk_still told faults (w.disks page.stream) is.front (write_failed w.number file page is.front ∷ is.front) page.stream disk
      (disk-call w.number (suc (calls_of is.front w.number)) (Some page.stream) (call.NcWrite file page.page) (outcome.Failed (error.WriteFault page.page)) is.front page.stream)
      (grown is.front is.grows)))

-- The store, with both in hand, and the begin.
module _ {D : Type 0} (told : D → Option Disk) (faults : D → ℕ) (n : ℕ) (w x : Standing) (file : File) (page : Page) (bytes : List ℕ) (b c : BookState) (disk : D)
    (both : HasBoth told faults w page.stream b disk) (went : WentWith n w x) (has : HasBook x page.stream c)
    (ready : IsReadyToStore w.setup w.seen file page) (logged : IsLogged w.seen page.stream page.page) (whole : length bytes ≡ 4096)
    (is : HasStored w file page bytes x.seen) where
  same : history is.front page.stream ≡ history w.seen page.stream
  same = history-kept w page.stream is.front (ap (λ h. h.book) both.book.held) both.rest.device is.grows

  ready-there : IsReadyToStore w.setup is.front file page
  ready-there = record {
    here = ready.here;
    admitted = refusal-history w.setup w.seen is.front file page.page page.stream same ready.admitted;
    in_quota = rw same ready.in_quota;
  }

  may-there : MayStore is.front page.stream page.page bytes
  may-there = record {
    whole_page = whole;
    no_transfer = ap open_of same ∙ both.rest.no_transfer;
    in_quota = rw same ready.in_quota;
    logged = logged-kept w.seen is.front page.stream page.page same (λ handle. flushed_to-grows w is.front handle is.grows) logged;
  }

  -- the size is still what it was
  pub size-there : size_of (history w.seen page.stream) ≡ size_of (history is.front page.stream)
  size-there = ap size_of (sym same)

  abbrev store : Entry
  store = store_done w.number is.front file page bytes

  pub stored-there : is_the_page page (store_of x.seen x.number) ≡ true
  stored-there =
      ap (λ (m : ℕ). is_the_page page (store_of x.seen m)) (went-number n w x went)
      ∙ (ap (λ past. is_the_page page (store_of past w.number)) is.placed
      ∙ (ap (λ calls. is_the_page page (stored_by calls)) (up_to_call-other (entry.WriteBegin w.number page) (store ∷ is.front) w.number refl)
      ∙ (ap (is_the_page page) (store_of-store w.number (suc (calls_of is.front w.number)) page.stream file page.page bytes reply.Unit is.front w.number (eq-eqb w.number w.number refl))
      ∙ page-same page)))

  pub begun-there : (cut : List ℕ) → length cut ≡ 4096 → ((i : ℕ) → slice_index cut i ≡ stored_byte (size_of (history w.seen page.stream)) page.page bytes i) → OwnTransferIsUnderWay told faults x page cut c disk
  begun-there cut long as_cut = record {
    book = has;
    device = ap (λ h. h.device) (went-held n w x went) ∙ both.rest.device;
    opening = opening-kept n w x page.stream went both.opening;
    before = store ∷ is.front;
    placed = is.placed ∙ ap (λ (m : ℕ). entry.WriteBegin m page ∷ (store ∷ is.front)) (sym (went-number n w x went));
    can = record {
      stands = subst (λ (first : DiskAtFirst). DiskStands told faults first (store ∷ is.front) page.stream disk) (sym (disks-kept n w x page.stream went))
          (disk_still told faults (w.disks page.stream) is.front (store ∷ is.front) page.stream disk
          (disk-call w.number (suc (calls_of is.front w.number)) (Some page.stream) (call.NcStore file page.page bytes) (outcome.Done reply.Unit) is.front page.stream)
          (disk-grown told faults (w.disks page.stream) w page.stream disk both.rest.device both.disk is.front is.grows));
      numbered = number (size_of (history is.front page.stream))
          (below-size w.setup is.front (history is.front page.stream) file page.page ready-there.admitted)
          (size_of-good w.setup is.front page.stream (so-far w.setup is.front is.good));
      at_rest = open-stored w.setup is.front w.number file page bytes is.good ready-there may-there;
      whole = long;
      bytes_are = λ i within.
          subst (λ (opening : Option (ℕ → List ℕ)). IsByteOfContents opening (history (store ∷ is.front) page.stream) (4096 * page.page + i) (slice_index cut i))
          (both.opening ∙ ap (λ (first : DiskAtFirst). opening_of first.told) (sym (disks-kept n w x page.stream went)))
          (subst (λ (byte : ℕ). IsByteOfContents (w.setup.opening page.stream) (history (store ∷ is.front) page.stream) (4096 * page.page + i) byte)
          (ap (λ h. stored_byte (size_of h) page.page bytes i) same ∙ sym (as_cut i))
          (bytes-with_store w.setup is.front w.number file page bytes is.good ready-there may-there i within));
    };
  }
    where
      number : (size : ℕ) → 4096 * page.page < size → size < 2 ^ 63 → page.page < 2 ^ 51
      number size inside most = omega arith

-- the bytes of a page that are cleared from the size on are those that are stored
pub as-cut : (size page place : ℕ) (bytes cut : List ℕ) → place ≡ size - 4096 * page → IsClearedFrom place bytes cut → (i : ℕ) → slice_index cut i ≡ stored_byte size page bytes i
as-cut size page place bytes cut is clear i = go (nat_lt i (size - 4096 * page)) refl
  where
    go : (b : Bool) → nat_lt i (size - 4096 * page) ≡ b → slice_index cut i ≡ (if b then slice_index bytes i else 0)
    go true inside = let below = ltb-true i (size - 4096 * page) inside in clear.below i (omega (arith, below, is))
    go false outside = let above = ltb-false i (size - 4096 * page) outside in clear.above i (omega (arith, above, is))

-- what the end of the write asks, as its transfer has ended
pub finishes-after : (n : ℕ) (w x : Standing) (page : Page) → WentWith n w x → is_the_page page (store_of w.seen w.number) ≡ true → IsFinished w page how.Good false x.seen → MayFinish x.seen x.number page.stream page.page
finishes-after n w x page went stored is =
    subst (λ (m : ℕ). MayFinish x.seen m page.stream page.page) (sym (went-number n w x went))
    (subst (λ (past : List Entry). MayFinish past w.number page.stream page.page) (sym is.placed) (finishes w.number page is.later w.seen is.others stored))

pub fails-after : (n : ℕ) (w x : Standing) (page : Page) → WentWith n w x → is_the_page page (store_of w.seen w.number) ≡ true → IsFinished w page how.Failed false x.seen → HasFailedSince x.seen x.number page
fails-after n w x page went stored is =
    subst (λ (m : ℕ). HasFailedSince x.seen m page) (sym (went-number n w x went))
    (subst (λ (past : List Entry). HasFailedSince past w.number page) (sym is.placed) (fails w.number page is.later w.seen is.others stored))
