-- A transfer that is under way: it is from its begin on, and stays so while entries come that leave it and its disk is
-- read.
use Rattle.std.specs.Prelude.{◌≡◌, ℕ, Bool, true, false, ◌==◌, List, [], ◌∷◌, ◌++◌, Contains, refl}
use Rattle.std.specs.declared.option.Option.{Option}
use Rattle.std.specs.declared.option.Option.TheVariants.{Some, None}
use Rattle.std.proofs.Common.{sym, ap, ◌∙◌}
use Rattle.std.proofs.lemmas.Bool.{eq-eqb}
use Rattle.std.proofs.lemmas.List.Elements.{Contains-append_left}
use Rattle.cc_entry.specs.declared.call.Call.{Call}
use Rattle.cc_entry.specs.declared.reply.Outcome.{Outcome}
use Rattle.cc_entry.specs.declared.entry.Entry.{Entry}
use Rattle.cc_entry.specs.declared.entry.Entry.TheVariants as entry
use Rattle.cc_traits.specs.Disk.{Disk, page_of}
use Rattle.cc_effects.specs.Failures.{failures}
use Rattle.cc_laws.proofs.HistorySteps.{history-write_begin}
use Rattle.cc_laws.proofs.ImageSteps.{open_of-began, image-began, crash_pages-began_page, crash_pages-began_other}
use Rattle.cc_laws.proofs.QuietSteps.{eqb-swapped, is_quiet-first, is_quiet-rest}
use Rattle.cc_model.specs.Bytes.{page_bytes}
use Rattle.cc_model.specs.History.{Effect, Began, history}
use Rattle.cc_model.specs.Images.{Transfer, open_of, crash_pages}
use Rattle.cc_model.specs.Turns.{Device, needs, is_quiet}
use Rattle.cc_turns.specs.Standing.{DiskAtFirst}
use Rattle.cc_turns.specs.Disk.{DiskStands, HasGone, all_ended_well, is_transferred}
use Rattle.cc_turns.specs.RecordPage.{RecordHasGone}
use Rattle.cc_turns.proofs.RecordPage.{record-left, record_gone-same}
use Rattle.cc_turns.specs.Transfers.{CanTransfer, TransferIsUnderWay, fill_failed, leaves_transfer}
use Rattle.cc_turns.proofs.Keeping.{DiskStands-kept, both_so, kept_by_entries, leaves_disk, leaves_disk-transfer, open_of-left}

-- nothing is under way at the begin
pub is_transferred-none : (o : Option Transfer) (p : ℕ) → o ≡ None → is_transferred o p ≡ false
is_transferred-none None p none = refl
is_transferred-none (Some t) p none = absurd (cc)

-- a begin ends no transfer
pub all_ended_well-began : (pass page : ℕ) (h : List Effect) (p : ℕ) → all_ended_well (Began pass page ∷ h) p ≡ all_ended_well h p
unfolding all_ended_well
all_ended_well-began pass page h p = refl

-- A begin leaves what the disk holds; a crash may leave what it could before.
gone_begun : (h : List Effect) (pass page : ℕ) (opening now : Disk) → open_of h ≡ None → HasGone h opening now → HasGone (Began pass page ∷ h) opening now
gone_begun h pass page opening now at_rest gone = record {
  images = λ p bytes apart is. gone.images p bytes apart (sym (image-began (page_of opening) pass page h p) ∙ is);
  among = gone.among;
  crash = λ p content apart alone among. crash p content (gone.crash p content apart alone among) (page == p) refl;
  exact = λ p apart alone free well.
      gone.exact p apart alone (is_transferred-none (open_of h) p at_rest) (sym (all_ended_well-began pass page h p) ∙ well)
      ∙ sym (crash_pages-began_other (page_of opening) pass page h p (ap (λ t. is_transferred t p) (sym (open_of-began pass page h)) ∙ free));
}
  where
    crash : (p : ℕ) (content : List ℕ) → Contains (crash_pages (page_of opening) h p) content → (b : Bool) → (page == p) ≡ b → Contains (crash_pages (page_of opening) (Began pass page ∷ h) p) content
    crash p content among true same =
        rw (crash_pages-began_page (page_of opening) pass page h p same)
        (Contains-append_left (crash_pages (page_of opening) h p) (page_bytes (page_of opening) h p ∷ []) content among)
    crash p content among false other = rw (crash_pages-began_other (page_of opening) pass page h p other) among

-- a disk at rest stands for the begin of a transfer
DiskStands-begun : {D : Type 0} (told : D → Option Disk) (faults : D → ℕ) (first : DiskAtFirst) (before : List Entry) (pass s page : ℕ) (disk : D) → open_of (history before s) ≡ None → DiskStands told faults first before s disk → DiskStands told faults first (entry.WriteBegin pass (record { stream = s; page = page }) ∷ before) s disk
unfolding failures
DiskStands-begun told faults first before pass s page disk at_rest stands = record {
  has_gone = rw (history-write_begin pass (record { stream = s; page = page }) before s (eq-eqb s s refl))
      (both_so (HasGone (history before s)) (HasGone (Began pass page ∷ history before s)) first.told (told disk)
      (λ opening now is. gone_begun (history before s) pass page opening now at_rest) stands.has_gone);
  record_has_gone =
      let begin : Entry = entry.WriteBegin pass (record { stream = s; page = page }) in
      both_so (RecordHasGone before s) (RecordHasGone (begin ∷ before) s) first.told (told disk)
      (λ opening now is. record_gone-same before (begin ∷ before) s opening now (record-left begin before s refl)) stands.record_has_gone;
  counted = stands.counted;
}

-- A transfer is under way from its begin on.
pub IsUnderWay-begun : {D : Type 0} (told : D → Option Disk) (faults : D → ℕ) (first : DiskAtFirst) (before : List Entry) (pass s page : ℕ) (bytes : List ℕ) (disk : D) → CanTransfer told faults first before s page bytes disk → TransferIsUnderWay told faults first (entry.WriteBegin pass (record { stream = s; page = page }) ∷ before) pass s page bytes disk
IsUnderWay-begun told faults first before pass s page bytes disk can = record {
  stands = DiskStands-begun told faults first before pass s page disk can.at_rest can.stands;
  before = before;
  later = [];
  began = refl;
  left = refl;
  can = can;
}

-- It is the open one of the stream.
pub IsUnderWay-open : {D : Type 0} (told : D → Option Disk) (faults : D → ℕ) (first : DiskAtFirst) (past : List Entry) (pass s page : ℕ) (bytes : List ℕ) (disk : D) → TransferIsUnderWay told faults first past pass s page bytes disk → open_of (history past s) ≡ Some (record { pass = pass; page = page })
IsUnderWay-open told faults first past pass s page bytes disk way =
    let begin : Entry = entry.WriteBegin pass (record { stream = s; page = page }) in
    ap (λ (entries : List Entry). open_of (history entries s)) way.began
    ∙ (kept_by_entries open_of open_of-left way.later (begin ∷ way.before) s way.left
    ∙ (ap open_of (history-write_begin pass (record { stream = s; page = page }) way.before s (eq-eqb s s refl))
    ∙ open_of-began pass page (history way.before s)))

-- an entry more that leaves it, for which the disk stands
more : {D : Type 0} (told : D → Option Disk) (faults : D → ℕ) (first : DiskAtFirst) (e : Entry) (past : List Entry) (pass s page : ℕ) (bytes : List ℕ) (disk : D) → leaves_transfer s e ≡ true → DiskStands told faults first (e ∷ past) s disk → TransferIsUnderWay told faults first past pass s page bytes disk → TransferIsUnderWay told faults first (e ∷ past) pass s page bytes disk
more told faults first e past pass s page bytes disk left stands way = record {
  stands = stands;
  before = way.before;
  later = e ∷ way.later;
  began = ap (λ (entries : List Entry). e ∷ entries) way.began;
  left = rw left way.left;
  can = way.can;
}

-- It stays under way with an entry that touches neither the disk's images nor its failures, such as that of any call,
pub IsUnderWay-kept : {D : Type 0} (told : D → Option Disk) (faults : D → ℕ) (first : DiskAtFirst) (e : Entry) (past : List Entry) (pass s page : ℕ) (bytes : List ℕ) (disk : D) → leaves_disk s e ≡ true → TransferIsUnderWay told faults first past pass s page bytes disk → TransferIsUnderWay told faults first (e ∷ past) pass s page bytes disk
IsUnderWay-kept told faults first e past pass s page bytes disk left way =
    more told faults first e past pass s page bytes disk (leaves_disk-transfer e s left) (DiskStands-kept told faults first e past s disk left way.stands) way

pub IsUnderWay-called : {D : Type 0} (told : D → Option Disk) (faults : D → ℕ) (first : DiskAtFirst) (me nth : ℕ) (stream : Option ℕ) (call : Call) (ended : Outcome) (past : List Entry) (pass s page : ℕ) (bytes : List ℕ) (disk : D) → TransferIsUnderWay told faults first past pass s page bytes disk → TransferIsUnderWay told faults first (entry.Call me nth stream call ended ∷ past) pass s page bytes disk
IsUnderWay-called told faults first me nth stream call ended past pass s page bytes disk way =
    IsUnderWay-kept told faults first (entry.Call me nth stream call ended) past pass s page bytes disk refl way

-- and with entries that do not need the disk's turn.
leaves_disk-unneeded : (e : Entry) (s : ℕ) → needs e (Device s) ≡ false → leaves_disk s e ≡ true
leaves_disk-unneeded (entry.FillFailed pass page) s unneeded = rw (eqb-swapped s page.stream unneeded) refl
leaves_disk-unneeded (entry.WriteBegin pass page) s unneeded = rw (eqb-swapped s page.stream unneeded) refl
leaves_disk-unneeded (entry.WriteEnd pass page how) s unneeded = rw (eqb-swapped s page.stream unneeded) refl
leaves_disk-unneeded (entry.Sync pass stream how) s unneeded = rw (eqb-swapped s stream unneeded) refl
leaves_disk-unneeded (entry.Record pass stream size valid how) s unneeded = rw (eqb-swapped s stream unneeded) refl
leaves_disk-unneeded (entry.RecordFailed pass stream) s unneeded = rw (eqb-swapped s stream unneeded) refl
leaves_disk-unneeded other s unneeded = refl

pub IsUnderWay-grown : {D : Type 0} (told : D → Option Disk) (faults : D → ℕ) (first : DiskAtFirst) (added past : List Entry) (pass s page : ℕ) (bytes : List ℕ) (disk : D) → is_quiet (Device s) added ≡ true → TransferIsUnderWay told faults first past pass s page bytes disk → TransferIsUnderWay told faults first (added ++ past) pass s page bytes disk
IsUnderWay-grown told faults first [] past pass s page bytes disk quiet way = way
IsUnderWay-grown told faults first (e ∷ added) past pass s page bytes disk quiet way =
    IsUnderWay-kept told faults first e (added ++ past) pass s page bytes disk
    (leaves_disk-unneeded e s (is_quiet-first (Device s) e added quiet))
    (IsUnderWay-grown told faults first added past pass s page bytes disk (is_quiet-rest (Device s) e added quiet) way)

-- A read of the disk, which stands for what it stood for (`kept` of `read`), leaves it under way; with the entry of its
-- failure too, if it failed (`failed` of `read`).
module _ {D : Type 0} (told : D → Option Disk) (faults : D → ℕ) (first : DiskAtFirst) (past : List Entry) (pass s page : ℕ)
    (bytes : List ℕ) (old new : D)
    (kept : (first : DiskAtFirst) (past : List Entry) (s : ℕ) → DiskStands told faults first past s old → DiskStands told faults first past s new)
    (way : TransferIsUnderWay told faults first past pass s page bytes old) where
  pub IsUnderWay-read : TransferIsUnderWay told faults first past pass s page bytes new
  IsUnderWay-read = record {
    stands = kept first past s way.stands;
    before = way.before;
    later = way.later;
    began = way.began;
    left = way.left;
    can = record {
      stands = kept first way.before s way.can.stands;
      numbered = way.can.numbered;
      at_rest = way.can.at_rest;
      whole = way.can.whole;
      bytes_are = way.can.bytes_are;
    };
  }

  pub IsUnderWay-unread : (me p : ℕ) → ((first : DiskAtFirst) (past : List Entry) (s pass : ℕ) → DiskStands told faults first past s old → DiskStands told faults first (fill_failed pass s p ∷ past) s new) → TransferIsUnderWay told faults first (fill_failed me s p ∷ past) pass s page bytes new
  IsUnderWay-unread me p failed =
      more told faults first (fill_failed me s p) past pass s page bytes new refl (failed first past s me way.stands) IsUnderWay-read
