-- A call that may bring pages in: what it does next on its book, and how a page that was looked for lands there.
use Rattle.std.specs.Prelude.{◌≡◌, ℕ, ◌+◌, ◌-◌, ◌*◌, ◌≤◌, ◌⊎◌, nat_lt, Bool, true, false, List, Result, Ok, Err}
use Rattle.std.specs.declared.option.Option.{Option}
use Rattle.std.specs.declared.option.Option.TheVariants.{Some, None}
use Rattle.cc_entry.specs.Place.{Page}
use Rattle.cc_entry.specs.declared.call.Call.{Call}
use Rattle.cc_entry.specs.declared.entry.Entry.{Entry}
use Rattle.cc_entry.specs.declared.entry.Entry.TheVariants as entry
use Rattle.cc_entry.specs.declared.error.CcError.{CcError}
use Rattle.cc_entry.specs.declared.error.NoMemory.{NoMemory}
use Rattle.cc_book.specs.Book.{BookState, Gains, book_page_in}
use Rattle.cc_content.specs.Filling.{IsReadFrom}
use Rattle.cc_effects.specs.Asked.{is_admitted, reaches, is_in_the_way, makes_way}
use Rattle.cc_effects.specs.Places.{is_on_disk_alone}
use Rattle.cc_journal.specs.Journal.{JournalState}
use Rattle.cc_model.specs.History.{history}
use Rattle.cc_model.specs.Images.{open_of}
use Rattle.cc_model.specs.Refusals.{refusal}
use Rattle.cc_model.specs.Residency.{is_resident, mapped_blocks_with}
use Rattle.cc_model.specs.Settings.{quota_of}
use Rattle.cc_model.specs.Setup.{Setup}
use Rattle.cc_model.specs.Stamps.{is_unstamped}
use Rattle.cc_model.specs.Touches.{valid_of, is_dirty}
use Rattle.cc_step.specs.Step.{StandUnder, MayStep, least_absent, needed_range, IsNeeding, is_awaited, most_asked, Adds, AttemptEnded, AttemptStopped}
use Rattle.cc_step.specs.Room.{has_room}
use Rattle.cc_step.specs.declared.ways.Attempt.{Attempt}
use Rattle.cc_step.specs.declared.ways.Way.{Way}
use Rattle.cc_step.specs.declared.ways.Way.TheVariants as way

-- What a pass asks of a book for such a call: it may step there, and no transfer of the stream is under way.
pub record MayFill {Q : Type 0} (u : Setup) (pass : ℕ) (it : Call) (b : BookState) (j : JournalState Q) : Type 0 where
  pub may : MayStep u pass it b j
  pub no_transfer : open_of (history j.entries b.stream) ≡ None

-- a page of a book's stream
abbrev pub book_page : BookState → ℕ → Page
book_page b page = record { stream = b.stream; page = page }

-- A page went out to make room for the call, the next of the block to give up.
pub record MadeWay {Q : Type 0} (u : Setup) (pass : ℕ) (it again : Call)
    (b c : BookState) (j k : JournalState Q) : Type 0 where
  pub call_is : again ≡ it
  pub page : ℕ
  pub resident : is_resident (history j.entries b.stream) page ≡ true
  pub next : makes_way it (book_page b page) j.entries ≡ true
  pub placed : Adds (entry.PageOut pass (book_page b page)) j k
  pub stand : StandUnder u c k
  pub stream : c.stream ≡ b.stream

-- A page of the block to give up is dirty, and no pin owes it a stamp; nothing refuses the call, which needs pages, and
-- nothing changed.
pub record HasToWrite {Q : Type 0} (u : Setup) (page : ℕ) (it again : Call)
    (b c : BookState) (j k : JournalState Q) : Type 0 where
  pub call_is : again ≡ it
  pub admitted : refusal u j.entries (history j.entries b.stream) it ≡ None
  pub needing : IsNeeding (history j.entries b.stream) it
  pub in_the_way : is_in_the_way it (book_page b page) j.entries ≡ true
  pub dirty : is_dirty (history j.entries b.stream) page ≡ true
  pub stamped : is_unstamped (history j.entries b.stream) page ≡ false
  pub same_book : c ≡ b
  pub same_journal : k ≡ j

-- The call, which nothing refuses, waits for a page, for which the quota has room; one place more is reserved.
pub record HasToRead {Q : Type 0} (u : Setup) (page : ℕ) (it again : Call)
    (b c : BookState) (j k : JournalState Q) : Type 0 where
  pub call_is : again ≡ it
  pub admitted : refusal u j.entries (history j.entries b.stream) it ≡ None
  pub least : least_absent (history j.entries b.stream) (needed_range (history j.entries b.stream) it) ≡ Some page
  pub room : has_room (history j.entries b.stream) page ≡ true
  pub in_quota : mapped_blocks_with (history j.entries b.stream) page ≤ quota_of (history j.entries b.stream)
  pub same_book : c ≡ b
  pub reserved : k ≡ record j { reserved = j.reserved + 1 }

-- How a call that waits for a page goes on, by cases.
abbrev pub WayLeft : {Q : Type 0} → Setup → ℕ → Call → Way → BookState → BookState → JournalState Q → JournalState Q → Type 0
WayLeft u pass it (way.WentOut again) b c j k = MadeWay u pass it again b c j k
WayLeft u pass it (way.Writes page again) b c j k = HasToWrite u page it again b c j k
WayLeft u pass it (way.Reads page again) b c j k = HasToRead u page it again b c j k

-- What such a call did next: it was done or refused, or stopped, or goes on.
abbrev pub NextLeft : {Q : Type 0} → Setup → ℕ → Call → Attempt Way
    → BookState → BookState → JournalState Q → JournalState Q → Type 0
NextLeft u pass it ended b c j k =
    AttemptEnded (λ (taken : Way). WayLeft u pass it taken b c j k) u pass (most_asked it) it ended b c j k

-- What the making of room for such a call leaves: it goes on, or it stopped.
abbrev pub MakeRoomLeft : {Q : Type 0} → Setup → ℕ → Call → Result Way CcError
    → BookState → BookState → JournalState Q → JournalState Q → Type 0
MakeRoomLeft u pass it (Ok taken) b c j k = WayLeft u pass it taken b c j k
MakeRoomLeft u pass it (Err e) b c j k = AttemptStopped u (most_asked it) it e b c j k

-- Room is made: a page went out, or one is to be written before, or the journal's room or memory was wanting.
abbrev pub MakesWay : Result Way CcError → Type 0
MakesWay (Ok (way.WentOut again)) = Unit {0}
MakesWay (Ok (way.Writes page again)) = Unit {0}
MakesWay (Ok (way.Reads page again)) = ⊥
MakesWay (Err e) = Unit {0}

-- What was read of a page, where it was read, is what its stream's disk has of it, if the page is not resident.
abbrev pub PageIsRead : Setup → List Entry → ℕ → ℕ → Option (List ℕ) → Type 0
PageIsRead u past s page None = Unit {0}
PageIsRead u past s page (Some bytes) =
    is_resident (history past s) page ≡ false → IsReadFrom (u.opening s) (history past s) page bytes

-- What a pass asks of a book on which a page that was looked for is to land.
pub record MayLand {Q : Type 0} (u : Setup) (pass : ℕ) (it : Call) (page : ℕ) (raw : Option (List ℕ)) (b : BookState)
    (j : JournalState Q) : Type 0 where
  pub may : MayFill u pass it b j
  pub read : PageIsRead u j.entries b.stream page raw

-- one place that was reserved is given back
abbrev pub GivesBack : {Q : Type 0} → JournalState Q → JournalState Q → Type 0
GivesBack j k = k ≡ record j { reserved = j.reserved - 1 }

-- the page came in, one of the range of the call, which nothing refuses, and the one that it waits for
pub record Landed {Q : Type 0} (u : Setup) (pass : ℕ) (it : Call) (page : ℕ)
    (b c : BookState) (j k : JournalState Q) : Type 0 where
  pub admitted : is_admitted it b.stream j.entries ≡ true
  pub awaited : is_awaited u j.entries b.stream it page ≡ true
  pub reached : reaches it (book_page b page) j.entries ≡ true
  pub placed : Gains (book_page_in pass (book_page b page) b) j k
  pub stand : StandUnder u c k
  pub stream : c.stream ≡ b.stream

-- Why a page that was looked for does not come in for a call: the call does not wait for it, there is no room for its
-- block, or it has a byte below the valid data length and was not read.
abbrev pub IsNotToLand : Setup → List Entry → ℕ → Call → ℕ → Option (List ℕ) → Type 0
IsNotToLand u past s it page raw =
    (is_awaited u past s it page ≡ false)
    ⊎ (has_room (history past s) page ≡ false)
    ⊎ ((nat_lt (4096 * page) (valid_of (history past s)) ≡ true) × (raw ≡ None))

-- nothing came in, for one of these reasons
pub record NotLanded {Q : Type 0} (u : Setup) (it : Call) (page : ℕ) (raw : Option (List ℕ))
    (b c : BookState) (j k : JournalState Q) : Type 0 where
  pub reason : IsNotToLand u j.entries b.stream it page raw
  pub given_back : GivesBack j k
  pub same : c ≡ b

-- there was no memory
pub record FoundNoRoom {Q : Type 0} (u : Setup) (b c : BookState) (j k : JournalState Q) : Type 0 where
  pub given_back : GivesBack j k
  pub stand : StandUnder u c k
  pub stream : c.stream ≡ b.stream

-- What a page that a call waits for leaves as it comes in.
abbrev pub BringLeft : {Q : Type 0} → Setup → ℕ → Call → ℕ → Result (Unit {0}) NoMemory
    → BookState → BookState → JournalState Q → JournalState Q → Type 0
BringLeft u pass it page (Ok done) b c j k = Landed u pass it page b c j k
BringLeft u pass it page (Err e) b c j k = FoundNoRoom u b c j k

-- What a page that was looked for leaves as it lands, of which this was read.
abbrev pub LandLeft : {Q : Type 0} → Setup → ℕ → Call → ℕ → Option (List ℕ) → Result (Unit {0}) NoMemory
    → BookState → BookState → JournalState Q → JournalState Q → Type 0
LandLeft u pass it page raw (Ok done) b c j k = Landed u pass it page b c j k ⊎ NotLanded u it page raw b c j k
LandLeft u pass it page raw (Err e) b c j k = FoundNoRoom u b c j k

-- the entry says that the disk failed to read the page, which is on the disk alone
pub record ToldUnread {Q : Type 0} (u : Setup) (pass page : ℕ) (b : BookState) (j k : JournalState Q) : Type 0 where
  pub on_disk : is_on_disk_alone (book_page b page) j.entries ≡ true
  pub placed : Gains (entry.FillFailed pass (book_page b page)) j k
  pub stand : StandUnder u b k

-- the page is not on the disk alone any more, and nothing was placed
pub record NotUnread {Q : Type 0} (page : ℕ) (b : BookState) (j k : JournalState Q) : Type 0 where
  pub not_on_disk : is_on_disk_alone (book_page b page) j.entries ≡ false
  pub given_back : GivesBack j k

-- What a page that the disk failed to read leaves, by whether its entry was placed.
abbrev pub UnreadLeft : {Q : Type 0} → Setup → ℕ → ℕ → Bool → BookState → JournalState Q → JournalState Q → Type 0
UnreadLeft u pass page true b j k = ToldUnread u pass page b j k
UnreadLeft u pass page false b j k = NotUnread page b j k
