-- What the line of a stored stream leaves.
use Rattle.std.specs.Prelude.{◌≡◌, ℕ, ◌==◌, true, false, List, [], ◌∷◌, Ok, Err, refl}
use Rattle.std.specs.declared.option.Option.{Option}
use Rattle.std.specs.declared.option.Option.TheVariants.{Some, None}
use Rattle.std.specs.List.{list_any}
use Rattle.std.proofs.Common.{sym, ap, subst, ◌∙◌, arith, inl, inr}
use Rattle.std.proofs.lemmas.Bool.{or_parts}
use Rattle.std.proofs.lemmas.Option.{same_Some}
use Rattle.cc_entry.specs.declared.answer.Answer.{Answer}
use Rattle.cc_entry.specs.declared.answer.Answer.TheVariants as answer
use Rattle.cc_entry.specs.declared.call.Call.TheVariants as call
use Rattle.cc_entry.specs.declared.entry.Entry.{Entry}
use Rattle.cc_entry.specs.declared.entry.Entry.TheVariants as entry
use Rattle.cc_entry.specs.declared.error.CcError.{CcError}
use Rattle.cc_entry.specs.declared.place.FileState.{FileState}
use Rattle.cc_entry.specs.declared.reply.Reply.TheVariants as reply
use Rattle.cc_format.specs.Spelling.{IsReadAs}
use Rattle.cc_format.specs.declared.record.StreamRecord.{StreamRecord}
use Rattle.cc_format.specs.declared.record.StreamRecord.TheVariants.{V1}
use Rattle.cc_model.specs.Setup.{Setup}
use Rattle.cc_traits.specs.Disk.{Disk, page_of}
use Rattle.cc_calls.proofs.Paging.{writing-within}
use Rattle.cc_pieces.specs.Openings.{IsReadAtFirst, LoggedOpening, MigrationLeft, RecordedOpening, StreamOpening, first_object_of, is_record_of, recorded_call}
use Rattle.cc_records.specs.Left.{LoadLeft, SettleLeft}
use Rattle.cc_script.specs.declared.script.StreamLine.{StreamLine}
use Rattle.cc_stored.specs.Settle.{SettleEnds}
use Rattle.cc_stored.specs.Stored.{IsKnownRecord, LoadEnds}
use Rattle.cc_turns.specs.Disk.{opening_of}
use Rattle.cc_turns.specs.RecordPage.{record_image, record_number}
use Rattle.cc_turns.specs.Standing.{Standing}
use Rattle.cc_writes.specs.Fetch.{WentOn}
use Rattle.cc_writes.specs.Ways.{IsFullError}
use Rattle.cc_lines.proofs.WordLines.{full-less}

-- where no record of a stream was written, its page is as it was at first
image-first : (opening : List ℕ) (past : List Entry) (s : ℕ) → list_any (is_record_of s) past ≡ false → record_image opening past s ≡ Some opening
unfolding record_image
image-first opening [] s none = refl
image-first opening (entry.Record pass stream size valid how ∷ past) s none =
    let parts = or_parts (stream == s) (list_any (is_record_of s) past) none in
    rw (parts.0, record_image) (image-first opening past s parts.1)
image-first opening (other ∷ past) s none = image-first opening past s none

-- What is known of the record is what the opening page spells, where the disk told its pages.
pub read-at-first : (u : Setup) (first : Option Disk) (s : ℕ) (past : List Entry) (read : Option StreamRecord) → u.opening s ≡ opening_of first → IsKnownRecord first s past read → IsReadAtFirst u s past read
read-at-first u None s past read is known pages opens none = absurd (cc (sym is ∙ opens))
read-at-first u (Some disk) s past read is known pages opens none =
    let same : page_of disk ≡ pages = same_Some (page_of disk) pages (sym is ∙ opens) in
    subst (λ (bytes : List ℕ). IsReadAs bytes read) (ap (λ (it : ℕ → List ℕ). it record_number) same)
    (known (page_of disk record_number) (image-first (page_of disk record_number) past s none))

-- a read of a record, and a settling, that are told of a full journal ask no more than two places at once
pub load-full : (old new : Standing) (s : ℕ) (e : CcError) → LoadEnds old new s (Err e) → IsFullError 3 new e
load-full old new s e ends = full-less 1 3 new e (omega arith) ends.full

pub settle-full : (old new : Standing) (s : ℕ) (e : CcError) → SettleEnds old new (first_object_of s) (Err e) → IsFullError 3 new e
settle-full old new s e ends =
    full-less 2 3 new e (omega arith) (writing-within {A = FileState} (call.Flush (first_object_of s) None) new (Err e) ends.full)

-- what the calls of a stored stream leave, from the standing before to the one behind
module _ (w v : Standing) (s : ℕ) (zero : w.number ≡ 0) where
  pub stored-unread : (stream : StreamLine) (e : CcError) → LoadEnds w v s (Err e) → StreamOpening w.setup s stream true (answer.Refused e) w.seen v.seen
  stored-unread stream e ends = inl (e, refl, subst (λ (n : ℕ). LoadLeft {A = Option StreamRecord} n s (Err e) w.seen v.seen) zero ends.left)

  pub stored-read : (x : Standing) (stream : StreamLine) (read : Option StreamRecord) (told : Answer) → w.setup.opening s ≡ opening_of (w.disks s).told → LoadEnds w v s (Ok read) → RecordedOpening v.setup s stream read told v.seen x.seen → StreamOpening w.setup s stream true told w.seen x.seen
  stored-read x stream read told opens ends opened =
      inr
      (record {
        read = read;
        loaded = v.seen;
        load = subst (λ (n : ℕ). LoadLeft n s (Ok read) w.seen v.seen) zero ends.left;
        at_first = read-at-first w.setup (w.disks s).told s v.seen read opens ends.read;
        opened = subst (λ (u : Setup). RecordedOpening u s stream read told v.seen x.seen) (ap (λ (y : Standing). y.setup) ends.goes_on.same) opened;
      })

  pub migrated-done : (state : FileState) → SettleEnds w v (first_object_of s) (Ok state) → MigrationLeft w.setup s (answer.Given reply.Unit) w.seen v.seen
  migrated-done state ends = (state, subst (λ (n : ℕ). SettleLeft w.setup n (first_object_of s) (Ok state) w.seen v.seen) zero ends.left)

  pub migrated-refused : (e : CcError) → SettleEnds w v (first_object_of s) (Err e) → MigrationLeft w.setup s (answer.Refused e) w.seen v.seen
  migrated-refused e ends = subst (λ (n : ℕ). SettleLeft w.setup n (first_object_of s) (Err e) w.seen v.seen) zero ends.left

-- and those of one whose record is of the first version
module _ (w v : Standing) (s : ℕ) (stream : StreamLine) (size : ℕ) where
  pub first-refused : (e : CcError) → LoggedOpening w.setup s (recorded_call s stream (Some (V1 size))) stream.log (answer.Refused e) w.seen v.seen → RecordedOpening w.setup s stream (Some (V1 size)) (answer.Refused e) w.seen v.seen
  first-refused e left = inl (e, refl, left)

  pub first-opened : (x : Standing) (told : Answer) → WentOn w v → LoggedOpening w.setup s (recorded_call s stream (Some (V1 size))) stream.log (answer.Given reply.Unit) w.seen v.seen → MigrationLeft v.setup s told v.seen x.seen → RecordedOpening w.setup s stream (Some (V1 size)) told w.seen x.seen
  first-opened x told went left migrated = inr (v.seen, left, subst (λ (u : Setup). MigrationLeft u s told v.seen x.seen) (ap (λ (y : Standing). y.setup) went.same) migrated)
