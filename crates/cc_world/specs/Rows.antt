-- What there is of one stream, what it stands for, and what an event leaves of it.
use Rattle.std.specs.Prelude.{◌≡◌, ℕ, ◌+◌, ◌*◌, ◌<◌, ◌≤◌, nat_lt, false, List, [], ◌∷◌, ◌++◌, length}
use Rattle.std.specs.declared.option.Option.{Option}
use Rattle.std.specs.declared.option.Option.TheVariants.{Some, None}
use Rattle.cc_entry.specs.Place.{Page}
use Rattle.cc_entry.specs.declared.entry.End.{End}
use Rattle.cc_entry.specs.declared.entry.End.TheVariants as how
use Rattle.cc_entry.specs.declared.entry.Entry.{Entry}
use Rattle.cc_entry.specs.declared.entry.Entry.TheVariants as entry
use Rattle.cc_entry.specs.declared.error.CcError.TheVariants as error
use Rattle.cc_entry.specs.declared.reply.Reply.TheVariants as reply
use Rattle.cc_traits.specs.Disk.{Disk}
use Rattle.cc_book.specs.Book.{BookState, BookStands}
use Rattle.cc_journal.specs.Journal.{JournalState, room_of}
use Rattle.cc_model.specs.Conditions.{MayBegin, MayComeIn}
use Rattle.cc_model.specs.Good.{IsGood}
use Rattle.cc_model.specs.History.{history}
use Rattle.cc_model.specs.Images.{open_of}
use Rattle.cc_model.specs.Room.{reserved_in}
use Rattle.cc_model.specs.Setup.{Setup}
use Rattle.cc_model.specs.Touches.{valid_of}
use Rattle.cc_turns.specs.Transfers.{TransferIsUnderWay}
use Rattle.cc_turns.specs.Disk.{DiskStands, opening_of}
use Rattle.cc_turns.specs.Standing.{DiskAtFirst}
use Rattle.cc_effects.specs.Events.{Answers, IsWanting, MayFault, MayHappen, asked_by_event, faulted_by}
use Rattle.cc_effects.specs.declared.events.Event.{Event}
use Rattle.cc_effects.specs.declared.events.StepReply.{StepReply}
use Rattle.cc_effects.specs.declared.events.StepReply.TheVariants as step
use Rattle.cc_world.specs.declared.rows.BegunTransfer.{BegunTransfer}
use Rattle.cc_world.specs.declared.rows.StreamRow.{StreamRow}

-- No transfer is open on a disk, and it stands for the past.
pub record DiskIsAtRest {D : Type 0} (told : D → Option Disk) (faults : D → ℕ) (first : DiskAtFirst) (past : List Entry)
    (s : ℕ) (disk : D) : Type 0 where
  pub stands : DiskStands told faults first past s disk
  pub no_transfer : open_of (history past s) ≡ None

-- A transfer of a page of the stream is open on a disk, whose bytes are kept: it is under way.
pub record IsCarrying {D : Type 0} (told : D → Option Disk) (faults : D → ℕ) (first : DiskAtFirst) (past : List Entry)
    (s : ℕ) (disk : D) (kept : BegunTransfer) : Type 0 where
  pub stream : kept.page.stream ≡ s
  pub way : TransferIsUnderWay told faults first past kept.pass s kept.page.page kept.bytes disk

abbrev pub DiskIsUsed : {D : Type 0} → (D → Option Disk) → (D → ℕ) → DiskAtFirst → List Entry → ℕ → D → Option BegunTransfer → Type 0
DiskIsUsed told faults first past s disk None = DiskIsAtRest told faults first past s disk
DiskIsUsed told faults first past s disk (Some kept) = IsCarrying told faults first past s disk kept

-- A row stands for a past: so does its book, and its disk, at rest or with a transfer open.
pub record RowStands {D : Type 0} (told : D → Option Disk) (faults : D → ℕ) (opening : Option (ℕ → List ℕ))
    (first : DiskAtFirst) (past : List Entry) (row : StreamRow D) : Type 0 where
  pub book : BookStands opening past row.book
  pub disk : DiskIsUsed told faults first past row.book.stream row.disk row.kept

-- A row and a journal stand under a setup: the journal is good and has the setup's limits, and the row stands for it. So
-- many places are reserved in the journal beyond what its entries owe.
pub record StandsUnder {D Q : Type 0} (told : D → Option Disk) (faults : D → ℕ) (u : Setup) (first : DiskAtFirst)
    (more : ℕ) (row : StreamRow D) (j : JournalState Q) : Type 0 where
  pub good : IsGood u j.entries
  pub opening : u.opening row.book.stream ≡ opening_of first.told
  pub known : row.book.stream < 16
  pub limits : (u.logs ≡ j.logs) × (u.threshold ≡ j.threshold)
  pub row_is : RowStands told faults (opening_of first.told) first j.entries row
  pub reserved : j.reserved ≡ reserved_in j.entries + more

-- there are such a setup and such a disk at first
abbrev pub IsStanding : {D Q : Type 0} → (D → Option Disk) → (D → ℕ) → ℕ → StreamRow D → JournalState Q → Type 0
IsStanding told faults more row j =
    (u : Setup) × (first : DiskAtFirst) × StandsUnder told faults u first more row j

-- These entries were placed, the disk failed so many times, and the row stands for the journal after.
pub record RowWent {D Q : Type 0} (told : D → Option Disk) (faults : D → ℕ) (u : Setup) (first : DiskAtFirst)
    (n : ℕ) (added : List Entry) (old new : StreamRow D) (j k : JournalState Q) : Type 0 where
  pub stands : StandsUnder told faults u first 0 new k
  pub placed : k ≡ record j { entries = added ++ j.entries; reserved = k.reserved; rows = k.rows }
  pub stream : new.book.stream ≡ old.book.stream
  pub counted : faults new.disk ≡ faults old.disk + n

-- the disk failed, where it may
abbrev pub RowFaulted : {D Q : Type 0} → (D → Option Disk) → (D → ℕ) → Setup → DiskAtFirst → Option Entry
    → StreamRow D → StreamRow D → JournalState Q → JournalState Q → Type 0
RowFaulted told faults u first None old new j k = ⊥
RowFaulted told faults u first (Some e) old new j k = RowWent told faults u first 1 (e ∷ []) old new j k

-- What an event leaves of a row and the journal that may happen and for which there is room, by cases over its reply.
abbrev pub RowEnded : {D Q : Type 0} → (D → Option Disk) → (D → ℕ) → Setup → DiskAtFirst → Event Q → StepReply Q
    → StreamRow D → StreamRow D → JournalState Q → JournalState Q → Type 0
RowEnded told faults u first it step.NotNow old new j k = ⊥
RowEnded told faults u first it step.Faulted old new j k =
    MayFault u j.entries it × RowFaulted told faults u first (faulted_by j.entries it) old new j k
RowEnded told faults u first it (step.Refused (error.JournalFull entries)) old new j k = ⊥
RowEnded told faults u first it (step.Refused error.NoMemory) old new j k =
    (added : List Entry) × IsWanting j.entries it added × RowWent told faults u first 0 added old new j k
RowEnded told faults u first it other old new j k =
    (added : List Entry) × Answers u j.entries it other added × RowWent told faults u first 0 added old new j k

-- What any event leaves. It is not now exactly where it may not happen, and refused for want of room exactly where there
-- is less than it asks; then nothing changed.
abbrev pub RowLeft : {D Q : Type 0} → (D → Option Disk) → (D → ℕ) → Setup → DiskAtFirst → Event Q → StepReply Q
    → StreamRow D → StreamRow D → JournalState Q → JournalState Q → Type 0
RowLeft told faults u first it step.NotNow old new j k = (MayHappen u j.entries it → ⊥) × (new ≡ old) × (k ≡ j)
RowLeft told faults u first it (step.Refused (error.JournalFull entries)) old new j k =
    MayHappen u j.entries it × (room_of j < asked_by_event u j.entries it) × (entries ≡ length j.entries)
    × (new ≡ old) × (k ≡ j)
RowLeft told faults u first it (step.Refused error.NoMemory) old new j k =
    RowEnded told faults u first it (step.Refused error.NoMemory) old new j k
RowLeft told faults u first it other old new j k =
    MayHappen u j.entries it × (asked_by_event u j.entries it ≤ room_of j)
    × RowEnded told faults u first it other old new j k

-- A page may come in that is of the row's stream, and a place is reserved for its entry.
abbrev pub IsBringing : {D Q : Type 0} → (D → Option Disk) → (D → ℕ) → Page → StreamRow D → JournalState Q → Type 0
IsBringing told faults page row j =
    (u : Setup) × (first : DiskAtFirst) × StandsUnder told faults u first 1 row j
    × MayComeIn (history j.entries page.stream) page.page
    (nat_lt (4096 * page.page) (valid_of (history j.entries page.stream)))

-- The transfer of a page may begin that is of the row's stream, and two places are reserved: for its begin and its end.
abbrev pub IsBeginning : {D Q : Type 0} → (D → Option Disk) → (D → ℕ) → Page → StreamRow D → JournalState Q → Type 0
IsBeginning told faults page row j =
    (u : Setup) × (first : DiskAtFirst) × StandsUnder told faults u first 2 row j
    × MayBegin j.entries page.stream page.page

-- what is replied to the end of a transfer, or to a sync, that ended so
abbrev pub reply_to : {Q : Type 0} → End → StepReply Q
reply_to how.Good = step.Done reply.Unit
reply_to how.Failed = step.Faulted
reply_to how.NoMemory = step.Refused error.NoMemory

-- Nothing was asked of a disk for a page that has no byte below the valid data length: it is as it was.
abbrev pub DiskIsUnread : {D : Type 0} → BookState → ℕ → D → D → Type 0
DiskIsUnread b page was now =
    (opening : Option (ℕ → List ℕ)) (past : List Entry) → BookStands opening past b →
    nat_lt (4096 * page) (valid_of (history past b.stream)) ≡ false → now ≡ was
