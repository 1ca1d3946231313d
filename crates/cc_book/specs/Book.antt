-- The book of a stream as contracts see it, and what it stands for.
use Rattle.std.specs.Prelude.{◌≡◌, ℕ, suc, ◌+◌, ◌-◌, ◌*◌, ◌<◌, ◌≤◌, nat_lt, Bool, true, false, List, ◌∷◌, length, slice_index, Option, None, Some}
use Rattle.cc_entry.specs.Place.{Page}
use Rattle.cc_entry.specs.declared.call.Call.{Call}
use Rattle.cc_entry.specs.declared.call.Call.TheVariants as call
use Rattle.cc_entry.specs.declared.reply.Reply.{Reply}
use Rattle.cc_entry.specs.declared.error.CcError.{CcError}
use Rattle.cc_entry.specs.declared.entry.Entry.TheVariants as entry
use Rattle.cc_entry.specs.declared.reply.Outcome.TheVariants as outcome
use Rattle.cc_model.specs.Passes.{calls_of}
use Rattle.cc_entry.specs.declared.entry.Entry.{Entry}
use Rattle.cc_book.specs.declared.book.BookParts.{BookParts}
use Rattle.cc_ahead.specs.Kept.{ObjectReads, PrivateStands}
use Rattle.cc_holds.specs.declared.holds.KeptHold.{KeptHold}
use Rattle.cc_content.specs.Contents.{Contents, ContentsStand, IsByteOfContents}
use Rattle.cc_content.specs.Following.{truncated_by}
use Rattle.cc_content.specs.Owned.{OwnsChanged}
use Rattle.cc_holds.specs.Stands.{HoldsStand}
use Rattle.cc_images.specs.Following.{makes_map}
use Rattle.cc_images.specs.Images.{Images, ImagesStand}
use Rattle.cc_journal.specs.Journal.{JournalState}
use Rattle.cc_model.specs.Good.{IsGoodSoFar}
use Rattle.cc_model.specs.History.{Effect, Did, history}
use Rattle.cc_model.specs.Setup.{Setup}
use Rattle.cc_model.specs.Touches.{is_mapped, valid_of}
use Rattle.cc_stream.specs.Stream.{Stream, StreamStands}

-- the stream; what is kept of it beside its pages and holds; the private maps of its objects; its open holds;
-- what its resident pages hold; and the images of its pages
pub record BookState : Type 0 where
  pub stream : ℕ
  pub state : Stream
  pub maps : List ObjectReads
  pub holds : List KeptHold
  pub contents : Contents
  pub images : Images

-- a book of this stream and these parts
abbrev pub book_of : ℕ → BookParts → BookState
book_of stream parts = record {
  stream = stream;
  state = parts.state;
  maps = parts.maps;
  holds = parts.holds;
  contents = parts.contents;
  images = parts.images;
}

-- a book stands for a past, over what the stream's disk told of its opening pages
pub record BookStands (opening : Option (ℕ → List ℕ)) (past : List Entry) (b : BookState) : Type 0 where
  pub state_is : StreamStands (history past b.stream) b.state
  pub maps_are : PrivateStands (history past b.stream) b.maps
  pub holds_are : HoldsStand (history past b.stream) b.holds
  pub contents_are : ContentsStand opening (history past b.stream) b.contents
  pub images_are : ImagesStand (history past b.stream) b.images

-- An entry may be placed on the past for which the book stands: over some setup the journal is good with it.
abbrev pub MayPlaceOnBook : List Entry → Entry → BookState → Type 0
MayPlaceOnBook past e b = (u : Setup) × IsGoodSoFar u (e ∷ past) × BookStands (u.opening b.stream) past b

-- the journal gained one entry, for which a place was reserved
abbrev pub Gains : {Q : Type 0} → Entry → JournalState Q → JournalState Q → Type 0
Gains e old new = new ≡ record old { entries = e ∷ old.entries; reserved = old.reserved - 1; rows = new.rows }

-- the book stands for the journal after as it did before, and is of the same stream
abbrev pub GoesOn : List Entry → List Entry → BookState → BookState → Type 0
GoesOn past now old new = (opening : Option (ℕ → List ℕ)) → BookStands opening past old → BookStands opening now new

-- The book is of the same stream, and stands for whatever it stood for: only which pages are owned may have
-- changed.
pub record StandsAsBefore (old new : BookState) : Type 0 where
  pub stream : new.stream ≡ old.stream
  pub stands : (past : List Entry) → GoesOn past past old new

-- a step that found no memory: the journal is as it was, and the book stands as before
abbrev pub Stays : {Q : Type 0} → JournalState Q → JournalState Q → BookState → BookState → Type 0
Stays journal now old new = (now ≡ journal) × StandsAsBefore old new

-- A snapshot of a page has its 4096 bytes, as the book stands for them: those of the plain file, where the disk
-- tells its opening pages.
pub record IsSnapshot (b : BookState) (page : ℕ) (bytes : List ℕ) : Type 0 where
  pub whole : length bytes ≡ 4096
  pub bytes_are : (opening : Option (ℕ → List ℕ)) (past : List Entry) → BookStands opening past b → (i : ℕ) → i < 4096
      → IsByteOfContents opening (history past b.stream) (4096 * page + i) (slice_index bytes i)

-- the entry of a page that comes in: from the disk where it has a byte below the valid data length
abbrev pub book_page_in : ℕ → Page → BookState → Entry
book_page_in pass page b = entry.PageIn pass page (nat_lt (4096 * page.page) b.contents.valid)

-- the entry of a pass's next call, on this stream, that failed
abbrev pub failed : ℕ → List Entry → ℕ → Call → CcError → Entry
failed pass past stream call error = entry.Call pass (suc (calls_of past pass)) (Some stream) call (outcome.Failed error)

-- the entry of a pass's next call, on this stream, that was done
abbrev pub done : ℕ → List Entry → ℕ → Call → Reply → Entry
done pass past stream call reply = entry.Call pass (suc (calls_of past pass)) (Some stream) call (outcome.Done reply)

-- A call may be done: over this setup the journal is good with it, and the book stands for the past.
pub record MayDoOnBook (u : Setup) (past : List Entry) (pass : ℕ) (call : Call) (reply : Reply) (b : BookState) : Type 0 where
  pub good : IsGoodSoFar u (done pass past b.stream call reply ∷ past)
  pub stands : BookStands (u.opening b.stream) past b

-- there is a journal at whose end the call may be done; the flag says whether there is a map after it
pub record IsDoing (call : Call) (reply : Reply) (mapped : Bool) (b : BookState) : Type 0 where
  pub u : Setup
  pub past : List Entry
  pub pass : ℕ
  pub may : MayDoOnBook u past pass call reply b
  pub mapped_is : mapped ≡ is_mapped (Did pass call reply ∷ history past b.stream)

-- what is kept of a stream beside its images stands for this history
pub record StandsFor (opening : Option (ℕ → List ℕ)) (h : List Effect) (b : BookState) : Type 0 where
  pub state_is : StreamStands h b.state
  pub maps_are : PrivateStands h b.maps
  pub holds_are : HoldsStand h b.holds
  pub contents_are : ContentsStand opening h b.contents

-- after a done call of a pass what is kept beside the images stands for the history with it, wherever the call may be
-- done and the flag says whether there is a map after it
abbrev pub GoesOnBy : ℕ → Call → Reply → Bool → BookState → BookState → Type 0
GoesOnBy pass call reply mapped old new =
    (u : Setup) (past : List Entry) → MayDoOnBook u past pass call reply old →
    mapped ≡ is_mapped (Did pass call reply ∷ history past old.stream) →
    StandsFor (u.opening old.stream) (Did pass call reply ∷ history past old.stream) new

-- the pages that a done call changes in place are owned
abbrev pub OwnsFor : BookState → Call → Type 0
OwnsFor b call = (h : List Effect) → StreamStands h b.state → OwnsChanged b.contents call (truncated_by h call)

-- whether memory may be wanting for a done call: for a map or a size, for bytes, for a hold, or for a copy of a
-- page that it changes and that is shared
abbrev pub takes_memory : Call → Bool
takes_memory (call.Initialise file sizes quota temporary) = true
takes_memory (call.SetSizes file allocation size) = true
takes_memory (call.CopyWrite file at bytes) = true
takes_memory (call.PinnedWrite hold at bytes) = true
takes_memory (call.MdlStore hold at bytes) = true
takes_memory (call.NcStore file page bytes) = true
takes_memory (call.Zero file span) = true
takes_memory (call.Uninitialise file (Some size)) = true
takes_memory (call.Map file at len) = true
takes_memory (call.PinRead file at len exclusive) = true
takes_memory (call.PreparePin file at len zero exclusive) = true
takes_memory (call.Repin hold) = true
takes_memory (call.MdlRead file at len) = true
takes_memory (call.MdlWrite file at len) = true
takes_memory other = false

-- the room is for the pages of the map that a call makes, and there is none where it makes none
abbrev pub IsMapRoomFor : List Effect → Call → Option ℕ → Type 0
IsMapRoomFor h call None = makes_map h call ≡ false
IsMapRoomFor h (call.Initialise file sizes quota temporary) (Some pages) = (is_mapped h ≡ false) × (64 * quota ≤ pages)
IsMapRoomFor h other (Some pages) = ⊥

-- The images of a book may follow a done call, as the last of it: the journal with it is good, they stand for the
-- past, the room is for the map that the call makes, and these are the valid data lengths before and after it.
pub record ImagesMayFollow (u : Setup) (past : List Entry) (pass : ℕ) (call : Call) (reply : Reply) (room : Option ℕ)
    (was : ℕ) (b : BookState) : Type 0 where
  pub good : IsGoodSoFar u (done pass past b.stream call reply ∷ past)
  pub stands : ImagesStand (history past b.stream) b.images
  pub room_is : IsMapRoomFor (history past b.stream) call room
  pub was_is : was ≡ valid_of (history past b.stream)
  pub now_is : b.contents.valid ≡ valid_of (Did pass call reply ∷ history past b.stream)

-- there is a journal at whose end they may follow one
pub record ImagesFollow (room : Option ℕ) (was : ℕ) (b : BookState) : Type 0 where
  pub u : Setup
  pub past : List Entry
  pub pass : ℕ
  pub call : Call
  pub reply : Reply
  pub may : ImagesMayFollow u past pass call reply room was b
