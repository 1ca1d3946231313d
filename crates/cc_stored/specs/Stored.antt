-- What the calls on the record of a stream ask and leave.
use Rattle.std.specs.Prelude.{◌≡◌, ℕ, suc, ◌+◌, List, Result, Ok, Err, IfOk}
use Rattle.std.specs.declared.option.Option.{Option}
use Rattle.std.specs.declared.option.Option.TheVariants.{Some, None}
use Rattle.cc_entry.specs.declared.error.CcError.{CcError}
use Rattle.cc_entry.specs.declared.error.CcError.TheVariants as error
use Rattle.cc_entry.specs.declared.entry.Entry.{Entry}
use Rattle.cc_entry.specs.declared.entry.Entry.TheVariants as entry
use Rattle.cc_format.specs.Spelling.{IsReadAs}
use Rattle.cc_format.specs.declared.record.StreamRecord.{StreamRecord}
use Rattle.cc_journal.specs.Journal.{JournalState}
use Rattle.cc_model.specs.Good.{IsGood}
use Rattle.cc_model.specs.History.{history}
use Rattle.cc_model.specs.Images.{open_of}
use Rattle.cc_model.specs.Records.{MayRecord}
use Rattle.cc_traits.specs.Disk.{Disk, page_of}
use Rattle.cc_turns.specs.RecordPage.{record_number, record_image}
use Rattle.cc_turns.specs.Standing.{Standing}
use Rattle.cc_writes.specs.Hands.{Went, WentWith}
use Rattle.cc_writes.specs.Logs.{IsStopAt, IsWant}
use Rattle.cc_writes.specs.Fetch.{WentOn}
use Rattle.cc_writes.specs.Ways.{IsFull}
use Rattle.cc_records.specs.Left.{LoadLeft}

-- A pass that has the turn of a stream's disk may place that the disk failed to read the record, and a sync of it where no
-- transfer is under way; with the stream's book too it may place a write of the record, where the stream may be told so.
abbrev pub MayNote : Standing → Entry → Type 0
MayNote w (entry.RecordFailed pass stream) = (pass ≡ w.number) × (w.held.device ≡ Some stream)
MayNote w (entry.Sync pass stream how) =
    (pass ≡ w.number) × (w.held.device ≡ Some stream) × (open_of (history w.seen stream) ≡ None)
MayNote w (entry.Record pass stream size valid how) =
    (pass ≡ w.number) × (w.held.device ≡ Some stream) × (w.held.book ≡ Some stream) × MayRecord (history w.seen stream) size valid
MayNote w other = ⊥

-- a place is reserved, or there was no room or no memory for it
abbrev pub ReservedOne : Result (Unit {0}) CcError → Standing → Standing → Type 0
ReservedOne (Ok done) old new = WentWith (suc old.in_flight) old new
ReservedOne (Err e) old new = IsWant e × Went old new

abbrev pub ReservedIn : {Q : Type 0} → Result (Unit {0}) CcError → JournalState Q → JournalState Q → Type 0
ReservedIn (Ok done) j k = k ≡ record j { reserved = j.reserved + 1 }
ReservedIn (Err e) j k = IsStopAt 1 j e × (k ≡ j)

-- What was read of the record is what the disk is known to hold of it, where it told its pages at first: what the last write of
-- the record spelled, where that ended well, and the opening page where there was none.
abbrev pub IsKnownRecord : Option Disk → ℕ → List Entry → Option StreamRecord → Type 0
IsKnownRecord None s past read = Unit {0}
IsKnownRecord (Some opening) s past read =
    (bytes : List ℕ) → record_image (page_of opening record_number) past s ≡ Some bytes → IsReadAs bytes read

-- The record of a stream was read, or not: it left what explains the answer, a journal that is told to be full is full, the
-- pass goes on as it stood and may call again, and what it has seen is good. What was read is what the disk is known to hold.
pub record LoadEnds (old new : Standing) (s : ℕ) (answer : Result (Option StreamRecord) CcError) : Type 0 where
  pub left : LoadLeft old.number s answer old.seen new.seen
  pub read : IfOk answer (λ told. IsKnownRecord (old.disks s).told s new.seen told)
  pub full : IsFull 1 new answer
  pub goes_on : WentOn old new
  pub good : IsGood old.setup new.seen
