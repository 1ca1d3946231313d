-- The writing of a page whose log is flushed: its begin, what others placed meanwhile, and its end.
use Rattle.std.specs.Prelude.{◌≡◌, ℕ, ◌+◌, ◌*◌, Bool, List, ◌∷◌, ◌++◌, slice_index, Result, Ok, Err, refl}
use Rattle.std.specs.declared.option.Option.{Option}
use Rattle.std.specs.declared.option.Option.TheVariants.{Some}
use Rattle.std.proofs.Common.{ap, sym, ◌∙◌, subst, append_assoc, inr}
use Rattle.std.proofs.lemmas.Bool.{eq-eqb}
use Rattle.cc_entry.specs.Place.{Page}
use Rattle.cc_entry.specs.declared.entry.End.{End}
use Rattle.cc_entry.specs.declared.entry.End.TheVariants as how
use Rattle.cc_entry.specs.declared.entry.Entry.{Entry}
use Rattle.cc_entry.specs.declared.entry.Entry.TheVariants as entry
use Rattle.cc_entry.specs.declared.error.CcError.{CcError}
use Rattle.cc_entry.specs.declared.error.CcError.TheVariants as error
use Rattle.cc_traits.specs.Disk.{Disk}
use Rattle.cc_book.specs.Book.{BookState}
use Rattle.cc_content.specs.Contents.{IsByteOfContents}
use Rattle.cc_effects.specs.Moments.{Others}
use Rattle.cc_effects.proofs.Stretches.{others-append}
use Rattle.cc_laws.proofs.HistorySteps.{history-write_begin, history-write_end}
use Rattle.cc_laws.proofs.ImageSteps.{open_of-began, open_of-ended}
use Rattle.cc_laws.proofs.TurnSteps.{is_quiet-append}
use Rattle.cc_model.specs.History.{history}
use Rattle.cc_model.specs.Images.{open_of}
use Rattle.cc_model.specs.Turns.{Device, Book}
use Rattle.cc_turns.specs.Transfers.{transferred}
use Rattle.cc_turns.specs.Disk.{DiskStands, opening_of}
use Rattle.cc_turns.specs.Standing.{Standing, DiskAtFirst}
use Rattle.cc_turns.specs.Takes.{Grows}
use Rattle.cc_turns.proofs.DiskGrows.{open_of-quiet}
use Rattle.cc_writes.specs.Hands.{HasBook, WentWith}
use Rattle.cc_writes.specs.Visits.{HasPlaced}
use Rattle.cc_writes.specs.Writes.{HasBoth}
use Rattle.cc_writes.specs.Transfers.{TransferHasBegun, GrowsBeside, IsCarried, OwnTransferIsUnderWay, IsFinished, TransferFinishLeft, IsTransferred, PutLeft, transfer_answer}
use Rattle.cc_writes.specs.declared.writes.PageTransfer.{PageTransfer}
use Rattle.cc_writes.specs.declared.writes.PageTransfer.TheVariants as write
use Rattle.cc_writes.proofs.OneVisit.{went-number, went-held}
use Rattle.cc_writes.proofs.Quiet.{is_held, holds_the_book, history-kept, rest-kept}
use Rattle.cc_writes.proofs.Flushing.{disk-grown}

-- what a pass knows of the run stays where it goes on
pub opening-kept : (n : ℕ) (w x : Standing) (s : ℕ) → WentWith n w x → w.setup.opening s ≡ opening_of (w.disks s).told → x.setup.opening s ≡ opening_of (x.disks s).told
opening-kept n w x s went opening = ap (λ y. y.setup.opening s) went.same ∙ (opening ∙ ap (λ (y : Standing). opening_of (y.disks s).told) (sym went.same))

pub disks-kept : (n : ℕ) (w x : Standing) (s : ℕ) → WentWith n w x → x.disks s ≡ w.disks s
disks-kept n w x s went = ap (λ y. y.disks s) went.same

-- the transfer that the pass began is still under way
pub still_begun : (n : ℕ) (w x : Standing) (page : Page) (keeps : Bool) (before : List Entry) → WentWith n w x → w.seen ≡ entry.WriteBegin w.number page ∷ before → GrowsBeside w page.stream keeps x.seen → open_of (history x.seen page.stream) ≡ Some (record { pass = x.number; page = page.page })
still_begun n w x page keeps before went placed grows =
    ap (λ past. open_of (history past page.stream)) grows.grew
    ∙ (open_of-quiet grows.later w.seen page.stream grows.quiet
    ∙ (ap (λ past. open_of (history past page.stream)) placed
    ∙ (ap open_of (history-write_begin w.number page before page.stream (eq-eqb page.stream page.stream refl))
    ∙ (open_of-began w.number page.page (history before page.stream)
    ∙ ap (λ (m : ℕ). Some (record { pass = m; page = page.page })) (sym (went-number n w x went))))))

-- it ended, behind what others placed meanwhile
pub finished : (n : ℕ) (w x : Standing) (page : Page) (how : End) (keeps : Bool) (seen : List Entry) → WentWith n w x → x.held.device ≡ Some page.stream → x.held.book ≡ Some page.stream → GrowsBeside w page.stream keeps x.seen → HasPlaced x (entry.WriteEnd x.number page how) seen → IsFinished w page how keeps seen
finished n w x page how keeps seen went device book first last = record {
  later = last.grows.later ++ first.later;
  quiet = is_quiet-append (Device page.stream) last.grows.later first.later (last.grows.quiet (Device page.stream) (is_held page.stream x.held.device device)) first.quiet;
  others = others-append w.number last.grows.later first.later (subst (λ (m : ℕ). Others m last.grows.later) same last.grows.others) first.others;
  kept = λ is. is_quiet-append (Book page.stream) last.grows.later first.later (last.grows.quiet (Book page.stream) (is_held page.stream x.held.book book)) (first.kept is);
  placed = last.placed
      ∙ (ap (λ (m : ℕ). entry.WriteEnd m page how ∷ last.front) same
      ∙ ap (λ (past : List Entry). entry.WriteEnd w.number page how ∷ past)
      (last.grows.grew ∙ (ap (λ past. last.grows.later ++ past) first.grew ∙ sym (append_assoc last.grows.later first.later w.seen))));
}
  where
    same : x.number ≡ w.number
    same = went-number n w x went

pub finish-left : (w : Standing) (page : Page) (how : End) (keeps : Bool) (seen : List Entry) → IsFinished w page how keeps seen → TransferFinishLeft w page keeps (transfer_answer how) seen
finish-left w page how.Good keeps seen is = is
finish-left w page how.Failed keeps seen is = is
finish-left w page how.NoMemory keeps seen is = is

-- both are in hand again, at rest
module _ {D : Type 0} (told : D → Option Disk) (faults : D → ℕ) (n : ℕ) (w y : Standing) (page : Page) (bytes : List ℕ) (how : End) (keeps : Bool) (b c : BookState) (old new : D)
    (begun : OwnTransferIsUnderWay told faults w page bytes b old) (carried : IsCarried told faults page bytes how old new) (went : WentWith n w y) (is : IsFinished w page how keeps y.seen) where
  seen : y.seen ≡ transferred w.number page.stream page.page how is.later begun.before
  seen = is.placed ∙ ap (λ (past : List Entry). entry.WriteEnd w.number page how ∷ (is.later ++ past)) begun.placed

  pub both-finished : HasBook y page.stream c → HasBoth told faults y page.stream c new
  both-finished has = record {
    book = has;
    rest = record {
      device = ap (λ h. h.device) (went-held n w y went) ∙ begun.device;
      no_transfer = ap (λ past. open_of (history past page.stream)) is.placed
          ∙ (ap open_of (history-write_end w.number page how (is.later ++ w.seen) page.stream (eq-eqb page.stream page.stream refl))
          ∙ open_of-ended w.number page.page how (history (is.later ++ w.seen) page.stream));
    };
    disk = subst (λ (first : DiskAtFirst). DiskStands told faults first y.seen page.stream new) (sym (disks-kept n w y page.stream went))
        (subst (λ (past : List Entry). DiskStands told faults (w.disks page.stream) past page.stream new) (sym seen)
        (carried (w.disks page.stream) begun.before is.later w.number begun.can is.quiet));
    opening = opening-kept n w y page.stream went begun.opening;
  }

-- The transfer begins, with both in hand.
module _ {D : Type 0} (told : D → Option Disk) (faults : D → ℕ) (n : ℕ) (w x : Standing) (page : Page) (b c : BookState) (disk : D)
    (both : HasBoth told faults w page.stream b disk) (went : WentWith n w x) (has : HasBook x page.stream c) where
  pub under_way : (bytes : List ℕ) → TransferHasBegun w page bytes x.seen → OwnTransferIsUnderWay told faults x page bytes c disk
  under_way bytes begun = record {
    book = has;
    device = ap (λ h. h.device) (went-held n w x went) ∙ both.rest.device;
    opening = opening-kept n w x page.stream went both.opening;
    before = begun.placed.front;
    placed = begun.placed.placed ∙ ap (λ (m : ℕ). entry.WriteBegin m page ∷ begun.placed.front) (sym (went-number n w x went));
    can = record {
      stands = subst (λ (first : DiskAtFirst). DiskStands told faults first begun.placed.front page.stream disk) (sym (disks-kept n w x page.stream went))
          (disk-grown told faults (w.disks page.stream) w page.stream disk both.rest.device both.disk begun.placed.front begun.placed.grows);
      numbered = begun.numbered;
      at_rest = ap open_of (history-kept w page.stream begun.placed.front (holds_the_book w page.stream b both.book) both.rest.device begun.placed.grows) ∙ both.rest.no_transfer;
      whole = begun.whole;
      bytes_are = λ i within. subst (λ (opening : Option (ℕ → List ℕ)). IsByteOfContents opening (history begun.placed.front page.stream) (4096 * page.page + i) (slice_index bytes i))
          (both.opening ∙ ap (λ (first : DiskAtFirst). opening_of first.told) (sym (disks-kept n w x page.stream went))) (begun.bytes_are i within);
    };
  }

  -- or others went on alone
  pub both-grown : Grows w x.seen → HasBoth told faults x page.stream c disk
  both-grown grows = record {
    book = has;
    rest = rest-kept n w x page.stream both.rest went (history-kept w page.stream x.seen (holds_the_book w page.stream b both.book) both.rest.device grows);
    disk = subst (λ (first : DiskAtFirst). DiskStands told faults first x.seen page.stream disk) (sym (disks-kept n w x page.stream went))
        (disk-grown told faults (w.disks page.stream) w page.stream disk both.rest.device both.disk x.seen grows);
    opening = opening-kept n w x page.stream went both.opening;
  }

-- what the begin and the rest leave together
transferred-so : (n : ℕ) (w x : Standing) (page : Page) (how : End) (keeps : Bool) (seen : List Entry) → WentWith n w x → HasPlaced w (entry.WriteBegin w.number page) x.seen → IsFinished x page how keeps seen → IsTransferred w page how keeps seen
transferred-so n w x page how keeps seen went begun is = record {
  before = begun.front;
  grows = begun.grows;
  later = is.later;
  quiet = is.quiet;
  others = subst (λ (m : ℕ). Others m is.later) (went-number n w x went) is.others;
  kept = is.kept;
  placed = is.placed
      ∙ (ap (λ (m : ℕ). entry.WriteEnd m page how ∷ (is.later ++ x.seen)) (went-number n w x went)
      ∙ ap (λ (past : List Entry). entry.WriteEnd w.number page how ∷ (is.later ++ past)) begun.placed);
}

pub put-left : (n : ℕ) (w x : Standing) (page : Page) (keeps : Bool) (result : Result PageTransfer CcError) (seen : List Entry) → WentWith n w x → HasPlaced w (entry.WriteBegin w.number page) x.seen → TransferFinishLeft x page keeps result seen → PutLeft w page keeps result seen
put-left n w x page keeps (Ok write.Written) seen went begun is = transferred-so n w x page how.Good keeps seen went begun is
put-left n w x page keeps (Ok write.NotWritten) seen went begun is = transferred-so n w x page how.Failed keeps seen went begun is
put-left n w x page keeps (Ok (write.NotLogged handle)) seen went begun is = absurd is
put-left n w x page keeps (Err error.NoMemory) seen went begun is = inr (transferred-so n w x page how.NoMemory keeps seen went begun is)
put-left n w x page keeps (Err other) seen went begun is = absurd is
