-- A noncached read or store of a page: what it asks of the row of its stream, and what its page's bytes are.
use Rattle.std.specs.Prelude.{◌≡◌, ℕ, ◌-◌, ◌*◌, ◌<◌, ◌≤◌, Bool, false, nat_lt, List, length, slice_index, Result, Ok, Err, if◌then◌else◌}
use Rattle.std.specs.declared.option.Option.{Option}
use Rattle.std.specs.declared.option.Option.TheVariants.{Some, None}
use Rattle.cc_entry.specs.Place.{File, Page}
use Rattle.cc_entry.specs.declared.call.Call.{Call}
use Rattle.cc_entry.specs.declared.call.Call.TheVariants as call
use Rattle.cc_entry.specs.declared.entry.Entry.{Entry}
use Rattle.cc_entry.specs.declared.error.NoMemory.{NoMemory}
use Rattle.cc_entry.specs.declared.reply.Reply.TheVariants as reply
use Rattle.cc_traits.specs.Disk.{Disk}
use Rattle.cc_book.specs.Book.{BookState, BookStands, Stays}
use Rattle.cc_book.specs.Noncached.{WasRead}
use Rattle.cc_journal.specs.Journal.{JournalState}
use Rattle.cc_model.specs.Conditions.{IsReady, MayStore}
use Rattle.cc_model.specs.History.{Effect, history}
use Rattle.cc_model.specs.Images.{open_of}
use Rattle.cc_model.specs.Residency.{is_resident}
use Rattle.cc_model.specs.Setup.{Setup}
use Rattle.cc_model.specs.Touches.{size_of}
use Rattle.cc_turns.specs.Standing.{DiskAtFirst}
use Rattle.cc_world.specs.Calls.{CallIsUnrefused}
use Rattle.cc_world.specs.Pages.{Says}
use Rattle.cc_world.specs.Rows.{RowWent, StandsUnder}
use Rattle.cc_effects.specs.Events.{entries_done, filed_under, reason_of}
use Rattle.cc_world.specs.declared.rows.StreamRow.{StreamRow}

-- A call is made that is filed under the row's stream, and nothing refuses it. So many places are reserved beyond what the
-- journal's entries owe.
pub record IsAdmittedOn {D Q : Type 0} (told : D → Option Disk) (faults : D → ℕ) (u : Setup) (first : DiskAtFirst)
    (more : ℕ) (it : Call) (row : StreamRow D) (j : JournalState Q) : Type 0 where
  pub stands : StandsUnder told faults u first more row j
  pub here : filed_under j.entries it ≡ Some row.book.stream
  pub admitted : reason_of u j.entries it ≡ None

-- and a pass may do it now
pub record IsReadyOn {D Q : Type 0} (told : D → Option Disk) (faults : D → ℕ) (u : Setup) (first : DiskAtFirst)
    (more pass : ℕ) (it : Call) (row : StreamRow D) (j : JournalState Q) : Type 0 where
  pub made : IsAdmittedOn told faults u first more it row j
  pub ready : IsReady j.entries pass row.book.stream it

-- a noncached read of a page may end now, for whose entry a place is reserved, and of which this was read
pub record MayEndRead {Q : Type 0} (u : Setup) (pass : ℕ) (file : File) (page : ℕ) (raw : List ℕ) (b : BookState)
    (j : JournalState Q) : Type 0 where
  pub unrefused : CallIsUnrefused u 1 pass (call.NcRead file page) b j
  pub ready : IsReady j.entries pass b.stream (call.NcRead file page)
  pub read : WasRead (u.opening b.stream) (history j.entries b.stream) page raw

-- The answer says of each past for which the book stands, and in which no transfer of the stream is open, whether these
-- bytes may be stored as the page.
abbrev pub CanStore : BookState → List Entry → Page → List ℕ → Bool → Type 0
CanStore b past page bytes answer =
    (opening : Option (ℕ → List ℕ)) → BookStands opening past b → open_of (history past b.stream) ≡ None →
    Says answer (MayStore past b.stream page.page bytes)

-- A byte of a page as it goes to the disk that is stored so: 0 from the size on.
abbrev pub stored_byte : ℕ → ℕ → List ℕ → ℕ → ℕ
stored_byte size page bytes i = if nat_lt i (size - 4096 * page) then slice_index bytes i else 0

-- the whole page
pub record IsImage (size page : ℕ) (bytes image : List ℕ) : Type 0 where
  pub whole : length image ≡ 4096
  pub bytes_are : (i : ℕ) → i < 4096 → slice_index image i ≡ stored_byte size page bytes i

-- What a store that may be done leaves, for which places are reserved: its entries, or where there is no memory all as it
-- was.
abbrev pub StoreEventLeft : {D Q : Type 0} → (D → Option Disk) → (D → ℕ) → Setup → DiskAtFirst → ℕ → Call
    → Result (Unit {0}) NoMemory → StreamRow D → StreamRow D → JournalState Q → JournalState Q → Type 0
StoreEventLeft told faults u first pass it (Ok done) old new j k =
    RowWent told faults u first 0 (entries_done j.entries pass it reply.Unit) old new j k
StoreEventLeft told faults u first pass it (Err none) old new j k =
    (new ≡ record old { book = new.book }) × Stays j k old.book new.book
