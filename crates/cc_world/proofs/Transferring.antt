-- A page's transfer begins, and ends: what the row and the journal are then.
use Rattle.std.specs.Prelude.{◌≡◌, ℕ, suc, ◌+◌, ◌-◌, ◌*◌, ◌^◌, ◌<◌, List, [], ◌∷◌, length, slice_index, refl}
use Rattle.std.specs.declared.option.Option.{Option}
use Rattle.std.specs.declared.option.Option.TheVariants.{Some, None}
use Rattle.std.proofs.Common.{ap, sym, ◌∙◌, subst, arith}
use Rattle.std.proofs.lemmas.Bool.{eq-eqb}
use Rattle.cc_entry.specs.Place.{Page}
use Rattle.cc_entry.specs.declared.entry.End.{End}
use Rattle.cc_entry.specs.declared.entry.End.TheVariants as how
use Rattle.cc_entry.specs.declared.entry.Entry.{Entry}
use Rattle.cc_entry.specs.declared.entry.Entry.TheVariants as entry
use Rattle.cc_traits.specs.Disk.{Disk}
use Rattle.cc_book.specs.Book.{BookState, BookStands, Gains, GoesOn}
use Rattle.cc_content.specs.Contents.{IsByteOfContents}
use Rattle.cc_journal.specs.Journal.{JournalState}
use Rattle.cc_laws.proofs.HistorySteps.{history-write_end}
use Rattle.cc_laws.proofs.ImageSteps.{open_of-ended}
use Rattle.cc_model.specs.Allowed.{MayStand}
use Rattle.cc_model.specs.History.{history}
use Rattle.cc_model.specs.Images.{Transfer, open_of}
use Rattle.cc_model.specs.Room.{reserved_in}
use Rattle.cc_model.specs.Setup.{Setup}
use Rattle.cc_turns.proofs.OpenTransfers.{IsUnderWay-begun}
use Rattle.cc_turns.proofs.Rooms.{reserved-ended}
use Rattle.cc_turns.specs.Transfers.{TransferIsUnderWay, transfer_faults}
use Rattle.cc_turns.specs.Disk.{DiskStands, opening_of}
use Rattle.cc_turns.specs.Standing.{DiskAtFirst}
use Rattle.cc_world.specs.Rows.{DiskIsUsed, DiskIsAtRest, IsCarrying, RowEnded, RowLeft, RowWent, StandsUnder, reply_to}
use Rattle.cc_effects.specs.Events.{MayHappen, beginner, write_end}
use Rattle.cc_effects.specs.declared.events.Event.TheVariants as event
use Rattle.cc_world.specs.declared.rows.BegunTransfer.{BegunTransfer}
use Rattle.cc_world.specs.declared.rows.StreamRow.{StreamRow}
use Rattle.cc_world.proofs.Standing.{carried-open, gained-so, went-by}

-- A disk at rest is carrying from the begin of a transfer on, whose bytes are the page's.
pub begun-carries : {D : Type 0} (told : D → Option Disk) (faults : D → ℕ) (first : DiskAtFirst) (past : List Entry) (s : ℕ) (disk : D) (pass : ℕ) (page : Page) (bytes : List ℕ) → page.stream ≡ s → page.page < 2 ^ 51 → DiskIsAtRest told faults first past s disk → length bytes ≡ 4096 → ((i : ℕ) → i < 4096 → IsByteOfContents (opening_of first.told) (history past s) (4096 * page.page + i) (slice_index bytes i)) → IsCarrying told faults first (entry.WriteBegin pass page ∷ past) s disk (record { pass = pass; page = page; bytes = bytes })
begun-carries told faults first past s disk pass page bytes stream numbered rest whole bytes_are = record {
  stream = stream;
  way = subst (λ (n : ℕ). TransferIsUnderWay told faults first (entry.WriteBegin pass (record { stream = n; page = page.page }) ∷ past) pass s page.page bytes disk) (sym stream)
      (IsUnderWay-begun told faults first past pass s page.page bytes disk
      (record { stands = rest.stands; numbered = numbered; at_rest = rest.no_transfer; whole = whole; bytes_are = bytes_are }));
}

-- what is replied to the end of a transfer, by how it ended
pub end-replied : {D Q : Type 0} (told : D → Option Disk) (faults : D → ℕ) (u : Setup) (first : DiskAtFirst) (page : Page) (how : End) (row now : StreamRow D) (j k : JournalState Q) → RowWent told faults u first (transfer_faults how) (write_end j.entries page how ∷ []) row now j k → RowEnded told faults u first (event.WriteEnd page) (reply_to how) row now j k
end-replied told faults u first page how.Good row now j k went = (write_end j.entries page how.Good ∷ [], refl, went)
end-replied told faults u first page how.Failed row now j k went = (tt, went)
end-replied told faults u first page how.NoMemory row now j k went = (write_end j.entries page how.NoMemory ∷ [], refl, went)

-- an end asks no room
pub end-left : {D Q : Type 0} (told : D → Option Disk) (faults : D → ℕ) (u : Setup) (first : DiskAtFirst) (page : Page) (how : End) (row now : StreamRow D) (j k : JournalState Q) → MayHappen {Q = Q} u j.entries (event.WriteEnd page) → RowEnded told faults u first (event.WriteEnd page) (reply_to how) row now j k → RowLeft told faults u first (event.WriteEnd page) (reply_to how) row now j k
end-left told faults u first page how.Good row now j k may ended = (may, omega arith, ended)
end-left told faults u first page how.Failed row now j k may ended = (may, omega arith, ended)
end-left told faults u first page how.NoMemory row now j k may ended = ended

-- The open transfer of a stream is that of the bytes that are kept, and its end is the pass's that began it.
pub may-end : (o : Option Transfer) (pass p q : ℕ) → o ≡ Some (record { pass = pass; page = p }) → p ≡ q → o ≡ Some (record { pass = beginner o; page = q })
may-end o pass p q is same = rw is (ap (λ (n : ℕ). let t : Transfer = record { pass = pass; page = n } in Some t) same)

pub began-it : (o : Option Transfer) (pass p : ℕ) → o ≡ Some (record { pass = pass; page = p }) → pass ≡ beginner o
began-it o pass p is = rw is refl

-- it is of no other page
pub other-page : (o : Option Transfer) (pass p q : ℕ) → o ≡ Some (record { pass = pass; page = p }) → (p ≡ q → ⊥) → o ≡ Some (record { pass = beginner o; page = q }) → ⊥
other-page o pass p q is apart may = apart (one _ _ (sym is ∙ may))
  where
    one : (a b : Transfer) → Some a ≡ Some b → a.page ≡ b.page
    one a b e = cc

-- The disk is at rest after the end of the transfer whose bytes were kept.
pub end-rests : {D : Type 0} (told : D → Option Disk) (faults : D → ℕ) (first : DiskAtFirst) (past : List Entry) (s p : ℕ) (bytes : List ℕ) (how : End) (disk now : D) (kept : BegunTransfer) → IsCarrying told faults first past s disk kept → kept.page.page ≡ p → bytes ≡ kept.bytes → ((first : DiskAtFirst) (past : List Entry) (pass s : ℕ) → TransferIsUnderWay told faults first past pass s p bytes disk → DiskStands told faults first (entry.WriteEnd pass (record { stream = s; page = p }) how ∷ past) s now) → DiskIsAtRest told faults first (entry.WriteEnd kept.pass kept.page how ∷ past) s now
end-rests told faults first past s p bytes how disk now kept carrying same whole ended =
    let this : record { stream = s; page = p } ≡ kept.page =
    ap (λ (n : ℕ). let q : Page = record { stream = n; page = p } in q) (sym carrying.stream)
    ∙ ap (λ (n : ℕ). let q : Page = record { stream = kept.page.stream; page = n } in q) (sym same) in
    record {
      stands = subst (λ (q : Page). DiskStands told faults first (entry.WriteEnd kept.pass q how ∷ past) s now) this
          (ended first past kept.pass s
          (subst (λ (n : ℕ). TransferIsUnderWay told faults first past kept.pass s n bytes disk) same
          (subst (λ (bs : List ℕ). TransferIsUnderWay told faults first past kept.pass s kept.page.page bs disk) (sym whole) carrying.way)));
      no_transfer = ap open_of (history-write_end kept.pass kept.page how past s (eq-eqb kept.page.stream s carrying.stream)) ∙ open_of-ended kept.pass kept.page.page how (history past s);
    }

-- A row that keeps the bytes of a page whose transfer is open, and the page whose transfer is to end.
module _ {D Q : Type 0} (told : D → Option Disk) (faults : D → ℕ) (u : Setup) (first : DiskAtFirst) (row : StreamRow D) (j : JournalState Q) (stand : StandsUnder told faults u first 0 row j) (kept : BegunTransfer) (is : row.kept ≡ Some kept) (page : Page) (stream : page.stream ≡ row.book.stream) where
  carrying : IsCarrying told faults first j.entries row.book.stream row.disk kept
  carrying = subst (λ (o : Option BegunTransfer). DiskIsUsed told faults first j.entries row.book.stream row.disk o) is stand.row_is.disk

  under-way : open_of (history j.entries page.stream) ≡ Some (record { pass = kept.pass; page = kept.page.page })
  under-way = ap (λ (s : ℕ). open_of (history j.entries s)) stream ∙ carried-open told faults first j.entries row.book.stream row.disk kept carrying

  pub not-it : (kept.page.page ≡ page.page → ⊥) → MayHappen {Q = Q} u j.entries (event.WriteEnd page) → ⊥
  not-it apart may = other-page (open_of (history j.entries page.stream)) kept.pass kept.page.page page.page under-way apart may

  module _ (same : kept.page.page ≡ page.page) where
    may-happen : MayHappen {Q = Q} u j.entries (event.WriteEnd page)
    may-happen = may-end (open_of (history j.entries page.stream)) kept.pass kept.page.page page.page under-way same

    pub may-stand : (how : End) → MayStand u j.entries (entry.WriteEnd kept.pass page how)
    may-stand how = under-way ∙ ap (λ (n : ℕ). let t : Transfer = record { pass = kept.pass; page = n } in Some t) same

    owes : (how : End) → j.reserved ≡ suc (reserved_in (entry.WriteEnd kept.pass page how ∷ j.entries))
    owes how = as-owed _ _ stand.reserved ∙ reserved-ended kept.pass page how j.entries _ (subst (λ (s : ℕ). s < 16) (sym stream) stand.known) under-way
      where
        as-owed : (a b : ℕ) → a ≡ b + 0 → a ≡ b
        as-owed a b same = omega arith

    pub has-place : (how : End) → 0 < j.reserved
    has-place how = some _ _ (owes how)
      where
        some : (a b : ℕ) → a ≡ suc b → 0 < a
        some a b one = omega arith

    this : kept.page ≡ page
    this =
        ap (λ (n : ℕ). let q : Page = record { stream = n; page = kept.page.page } in q) (carrying.stream ∙ sym stream)
        ∙ ap (λ (n : ℕ). let q : Page = record { stream = page.stream; page = n } in q) same

    pub ended-so : (how : End) (p : ℕ) (bytes : List ℕ) (disk : D) (book : BookState) (left : Option BegunTransfer) (k : JournalState Q) → p ≡ page.page → bytes ≡ kept.bytes → left ≡ None → ((first : DiskAtFirst) (past : List Entry) (pass s : ℕ) → TransferIsUnderWay told faults first past pass s p bytes row.disk → DiskStands told faults first (entry.WriteEnd pass (record { stream = s; page = p }) how ∷ past) s disk) → faults disk ≡ faults row.disk + transfer_faults how → Gains (entry.WriteEnd kept.pass page how) j k → GoesOn j.entries k.entries row.book book → book.stream ≡ row.book.stream → RowLeft told faults u first (event.WriteEnd page) (reply_to how) row (record { disk = disk; book = book; kept = left }) j k
    ended-so how p bytes disk book left k at whole none ended counted gains goes stream_same =
        let e : Entry = entry.WriteEnd kept.pass page how in
        let now : StreamRow D = record { disk = disk; book = book; kept = left } in
        let grown : k.entries ≡ e ∷ j.entries = ap (λ x. x.entries) gains in
        let rest : DiskIsAtRest told faults first (e ∷ j.entries) row.book.stream disk =
        subst (λ (q : Page). DiskIsAtRest told faults first (entry.WriteEnd kept.pass q how ∷ j.entries) row.book.stream disk) this
        (end-rests told faults first j.entries row.book.stream p bytes how row.disk disk kept carrying (same ∙ sym at) whole ended) in
        end-left told faults u first page how row now j k may-happen (end-replied told faults u first page how row now j k
        (subst (λ (pass : ℕ). RowWent told faults u first (transfer_faults how) (entry.WriteEnd pass page how ∷ []) row now j k)
        (began-it (open_of (history j.entries page.stream)) kept.pass kept.page.page under-way)
        (went-by told faults u first 0 row j stand (transfer_faults how) e now k refl (may-stand how) (gained-so j.reserved e j j k refl gains)
        (less _ _ _ (ap (λ x. x.reserved) gains) (owes how)) stream_same
        (subst (λ (past : List Entry). BookStands (opening_of first.told) past book) grown (goes (opening_of first.told) stand.row_is.book))
        (subst (λ (o : Option BegunTransfer). DiskIsUsed told faults first (e ∷ j.entries) row.book.stream disk o) (sym none) rest) counted)))
      where
        less : (a b owed : ℕ) → a ≡ b - 1 → b ≡ suc owed → a ≡ owed
        less a b owed given was = omega arith
