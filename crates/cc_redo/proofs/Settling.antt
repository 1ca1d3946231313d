-- What is known of the disk of one stream, before and behind its part of a stage.
use Rattle.std.specs.Prelude.{◌≡◌, ℕ, ◌≤◌, List, ◌⊎◌, refl}
use Rattle.std.specs.declared.option.Option.{Option}
use Rattle.std.proofs.Common.{subst, arith, inl, inr}
use Rattle.cc_entry.specs.declared.error.CcError.{CcError}
use Rattle.cc_entry.specs.declared.error.CcError.TheVariants as error
use Rattle.cc_traits.specs.Told.{Both}
use Rattle.cc_traits.specs.Disk.{Disk}
use Rattle.cc_model.specs.Records.{record_page}
use Rattle.cc_redo.specs.declared.redo.Redo.{Redo}
use Rattle.cc_redo.specs.declared.scan.ReadEntry.{ReadEntry}
use Rattle.cc_redo.specs.Heard.{redone_of, redone_valid}
use Rattle.cc_redo.specs.Disks.{RecordStands, changed_page}
use Rattle.cc_redo.specs.Ends.{IsFaultOf}
use Rattle.cc_redo.specs.Scanned.{IsPagesRefusal, IsSettleRefusal, DiskIsSettled, IsSettling, IsPartlyWritten}
use Rattle.cc_redo.specs.Stages.{IsRecordFault, PagesDone, RedonePagesLeft, RecordDone, RedoneRecordLeft}
use Rattle.cc_redo.proofs.Options.{both-map, both-same}
use Rattle.cc_redo.proofs.Steps.{IsFault}
use Rattle.cc_redo.proofs.Writes.{settled-settling, writing-begun}

-- a refusal is a fault of which this holds, or want of memory
pub settle-fault : {D : Type 0} (told : D → Option Disk) (redo : Redo) (was now : D) (e : CcError) → IsSettleRefusal (told was) (told now) e →
    IsFault (λ x. IsRecordFault told x redo was now) e
settle-fault told redo was now (error.WriteFault page) refused = refused
settle-fault told redo was now error.NoMemory refused = tt
settle-fault told redo was now other refused = absurd refused

pub pages-fault : {D : Type 0} (told : D → Option Disk) (from : ℕ) (items : List ReadEntry) (redo : Redo) (was now : D) (e : CcError) →
    Both (told was) (told now) (λ old new. IsPartlyWritten (changed_page (redone_of redo from items) old) old new) →
    IsPagesRefusal (redone_of redo from items) (told was) (told now) e → IsFault (λ x. IsFaultOf told from items x redo was now) e
pages-fault told from items redo was now (error.ReadFault page) writing refused = refused
pages-fault told from items redo was now (error.WriteFault page) writing refused =
    inl (
      refused,
      both-map (λ old new. IsPartlyWritten (changed_page (redone_of redo from items) old) old new) RecordStands (told was) (told now) (λ o n w. w.stands) writing,
    )
pages-fault told from items redo was now error.NoMemory writing refused = tt
pages-fault told from items redo was now other writing refused = absurd refused

module _ {D : Type 0} (told : D → Option Disk) (faults : D → ℕ) (items : List ReadEntry) where
  -- the record of a stream
  pub record-left : (redo : Redo) (was now : D) (valid : ℕ) → valid ≡ redone_valid items redo →
      Both (told was) (told now) (λ old new. (new ≡ old) ⊎ IsSettling (record_page redo.size valid) old new) → faults was ≤ faults now →
      RedoneRecordLeft told faults items redo was now
  record-left redo was now valid is settling count = record {
    settling = subst (λ (v : ℕ). Both (told was) (told now) (λ old new. (new ≡ old) ⊎ IsSettling (record_page redo.size v) old new)) is settling;
    counted = count;
  }

  pub record-done : (redo : Redo) (was now : D) (valid : ℕ) → valid ≡ redone_valid items redo →
      Both (told was) (told now) (DiskIsSettled (record_page redo.size valid)) → faults now ≡ faults was → RecordDone told faults items redo was now
  record-done redo was now valid is settled count = record {
    settled = subst (λ (v : ℕ). Both (told was) (told now) (DiskIsSettled (record_page redo.size v))) is settled;
    counted = count;
  }

  pub record-weaker : (redo : Redo) (was now : D) → RecordDone told faults items redo was now → RedoneRecordLeft told faults items redo was now
  record-weaker redo was now done = record {
    settling =
        both-map (DiskIsSettled (record_page redo.size (redone_valid items redo)))
        (λ old new. (new ≡ old) ⊎ IsSettling (record_page redo.size (redone_valid items redo)) old new) (told was) (told now)
        (λ o n settled. inr (settled-settling (record_page redo.size (redone_valid items redo)) o n settled)) done.settled;
    counted = let same = done.counted in omega arith;
  }

  pub record-itself : (redo : Redo) (d : D) → RedoneRecordLeft told faults items redo d d
  record-itself redo d = record {
    settling = both-same (λ old new. (new ≡ old) ⊎ IsSettling (record_page redo.size (redone_valid items redo)) old new) (told d) (told d) (λ a. inl refl) refl;
    counted = omega arith;
  }

  -- the pages of a stream
  pub pages-weaker : (from : ℕ) (redo : Redo) (was now : D) → PagesDone told faults from items redo was now → RedonePagesLeft told faults from items redo was now
  pages-weaker from redo was now done = record { writing = done.writing; counted = let same = done.counted in omega arith }

  pub pages-itself : (from : ℕ) (redo : Redo) (d : D) → RedonePagesLeft told faults from items redo d d
  pages-itself from redo d = record {
    writing =
        both-same (λ old new. IsPartlyWritten (changed_page (redone_of redo from items) old) old new) (told d) (told d)
        (λ a. writing-begun (changed_page (redone_of redo from items) a) a) refl;
    counted = omega arith;
  }
