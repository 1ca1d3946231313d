-- What the store of a page asks of a book and a journal, and what it leaves with the begin of its transfer.
use Rattle.std.specs.Prelude.{◌≡◌, ℕ, ◌+◌, ◌≤◌, ◌<◌, ◌⊎◌, nat_lt, Bool, true, false, List, ◌∷◌, length, slice_index, if◌then◌else◌, Result, Ok, Err, ◌-◌, ◌*◌}
use Rattle.std.specs.declared.option.Option.TheVariants.{None}
use Rattle.cc_entry.specs.Place.{File, Page}
use Rattle.cc_entry.specs.declared.call.Call.TheVariants as call
use Rattle.cc_entry.specs.declared.entry.Entry.{Entry}
use Rattle.cc_entry.specs.declared.entry.Entry.TheVariants as entry
use Rattle.cc_entry.specs.declared.error.CcError.{CcError}
use Rattle.cc_book.specs.Book.{BookState}
use Rattle.cc_book.specs.Stored.{store_done}
use Rattle.cc_journal.specs.Calls.{owed_end}
use Rattle.cc_journal.specs.Journal.{JournalState, room_of}
use Rattle.cc_model.specs.Conditions.{MayStore}
use Rattle.cc_model.specs.Covered.{IsLogged}
use Rattle.cc_model.specs.Good.{IsGood}
use Rattle.cc_model.specs.History.{history}
use Rattle.cc_model.specs.Refusals.{refusal}
use Rattle.cc_model.specs.Residency.{mapped_blocks_with}
use Rattle.cc_model.specs.Room.{reserved_in}
use Rattle.cc_model.specs.Settings.{quota_of}
use Rattle.cc_model.specs.Setup.{Setup}
use Rattle.cc_step.specs.Step.{StandUnder}
use Rattle.cc_turns.specs.Standing.{Standing}
use Rattle.cc_turns.specs.Takes.{Grows}
use Rattle.cc_writes.specs.Calls.{IsFullWriting}
use Rattle.cc_writes.specs.Logs.{IsStopAt, IsWant}
use Rattle.cc_writes.specs.Ways.{IsFull}

-- A page is ready to be stored by a noncached write through a file object: nothing refuses the write, and there is room
-- for the page's block.
pub record IsReadyToStore (u : Setup) (past : List Entry) (file : File) (page : Page) : Type 0 where
  pub here : file.stream ≡ page.stream
  pub admitted : refusal u past (history past page.stream) (call.NcWrite file page.page) ≡ None
  pub in_quota : mapped_blocks_with (history past page.stream) page.page ≤ quota_of (history past page.stream)

-- The store of a page is under way: the page is ready to be stored, and its log is flushed to the newest LSN that is stamped
-- on it.
pub record HasToStore (u : Setup) (file : File) (page : Page) (past : List Entry) : Type 0 where
  pub ready : IsReadyToStore u past file page
  pub logged : IsLogged past page.stream page.page

-- Where the write of a page finds the journal full, there is no room for one entry; or a page is to be written for it as it
-- finds that, to make room, and there is none for the begin of that transfer with its end; or its own page is to be stored
-- then, and there is none for the store, the begin of its transfer, and the ends of both.
abbrev pub IsFullStoring : {A : Type 0} → File → Page → Standing → Result A CcError → Type 0
IsFullStoring file page w answer =
    IsFullWriting (call.NcWrite file page.page) w answer ⊎ (HasToStore w.setup file page w.seen × IsFull 4 w answer)

-- how many places are kept with a store for its page to go out again: one, or none
abbrev pub places_kept : Bool → ℕ
places_kept true = 1
places_kept false = 0

abbrev pub kept_in : Result Bool CcError → ℕ
kept_in (Ok kept) = places_kept kept
kept_in (Err e) = 0

-- What a pass asks of a book and a journal in hand for the store of these bytes: the two stand under the setup, the page
-- is ready and may be stored.
pub record MayStoreHere {Q : Type 0} (u : Setup) (pass : ℕ) (file : File) (page : Page) (bytes : List ℕ) (b : BookState)
    (j : JournalState Q) : Type 0 where
  pub stand : StandUnder u b j
  pub ready : IsReadyToStore u j.entries file page
  pub may : MayStore j.entries page.stream page.page bytes
  pub owed : reserved_in j.entries ≤ j.reserved

-- the store and the begin of its transfer, after a past
abbrev pub with_store : ℕ → File → Page → List ℕ → List Entry → List Entry
with_store pass file page bytes past = entry.WriteBegin pass page ∷ store_done pass past file page bytes ∷ past

-- The store is done and the transfer begun, and two places are reserved for their ends, and one more for the page to go
-- out, unless there was no room for that; that of the end of another write which the pass owed is given back.
pub record IsStored {Q : Type 0} (u : Setup) (pass : ℕ) (file : File) (page : Page) (bytes : List ℕ) (kept : Bool)
    (c : BookState) (j k : JournalState Q) : Type 0 where
  pub placed : k ≡ record j {
    entries = with_store pass file page bytes j.entries;
    reserved = (j.reserved + (2 + places_kept kept)) - owed_end j.entries pass;
    rows = k.rows;
  }
  pub stand : StandUnder u c k
  pub tight : kept ≡ false → room_of j < 5

-- or there was no room for the four entries, or no memory
pub record IsUnstored {Q : Type 0} (u : Setup) (e : CcError) (c : BookState) (j k : JournalState Q) : Type 0 where
  pub cause : IsStopAt 4 j e
  pub same : k ≡ j
  pub stand : StandUnder u c k

abbrev pub StoredLeft : {Q : Type 0} → Setup → ℕ → File → Page → List ℕ → Result Bool CcError → BookState
    → JournalState Q → JournalState Q → Type 0
StoredLeft u pass file page bytes (Ok kept) c j k = IsStored u pass file page bytes kept c j k
StoredLeft u pass file page bytes (Err e) c j k = IsUnstored u e c j k

-- A byte of a page that is stored, as it goes to the disk: 0 from the size on.
abbrev pub stored_byte : ℕ → ℕ → List ℕ → ℕ → ℕ
stored_byte size page bytes i = if nat_lt i (size - 4096 * page) then slice_index bytes i else 0

-- Others went on, and then the pass stored these bytes, and began the transfer of the page.
pub record HasStored (w : Standing) (file : File) (page : Page) (bytes : List ℕ) (seen : List Entry) : Type 0 where
  pub front : List Entry
  pub grows : Grows w front
  pub good : IsGood w.setup front
  pub placed : seen ≡ with_store w.number file page bytes front

-- What the visit leaves in which a page is stored, by cases over how it ended.
abbrev pub StoreLeft : Standing → File → Page → List ℕ → Result Bool CcError → List Entry → Type 0
StoreLeft w file page bytes (Ok kept) seen = HasStored w file page bytes seen
StoreLeft w file page bytes (Err e) seen = Grows w seen × IsWant e

-- As a page was stored, the last that this past tells, there was room for less than the four entries that this asks and one
-- more, beside the most that others have under way.
pub record IsTightStore (u : Setup) (most me : ℕ) (file : File) (page : Page) (past : List Entry) : Type 0 where
  pub bytes : List ℕ
  pub front : List Entry
  pub placed : past ≡ with_store me file page bytes front
  pub tight : u.capacity < length front + (reserved_in front + most) + 5

-- So where no place is kept for a page to go out.
abbrev pub IsTightUnkept : Standing → ℕ → File → Page → Result Bool CcError → List Entry → Type 0
IsTightUnkept w most file page (Ok false) seen = IsTightStore w.setup most w.number file page seen
IsTightUnkept w most file page other seen = Unit {0}
