-- What a crash may leave of a disk that went with a good journal, below the valid data length that its record then tells.
use Rattle.std.specs.Prelude.{◌≡◌, ℕ, ◌+◌, ◌-◌, ◌*◌, ◌^◌, ◌<◌, ◌≤◌, List, [], ◌∷◌, Contains, slice_index}
use Rattle.std.specs.declared.option.Option.{Option}
use Rattle.std.specs.declared.option.Option.TheVariants.{Some, None}
use Rattle.std.proofs.Common.{arith}
use Rattle.cc_entry.specs.declared.entry.Entry.{Entry}
use Rattle.cc_format.specs.Spelling.{IsReadAs}
use Rattle.cc_format.specs.declared.record.StreamRecord.{StreamRecord}
use Rattle.cc_model.specs.Good.{IsGoodSoFar}
use Rattle.cc_model.specs.History.{history}
use Rattle.cc_model.specs.Records.{first_valid}
use Rattle.cc_model.specs.Setup.{Setup}
use Rattle.cc_records.proofs.CrashRecords.{recorded-bytes}
use Rattle.cc_records.specs.Recorded.{told_valid, WasByte}
use Rattle.cc_traits.specs.Disk.{Disk, page_of, may_of}
use Rattle.cc_turns.proofs.RecordPage.{apart}
use Rattle.cc_turns.specs.Disk.{HasGone}
use Rattle.cc_turns.specs.RecordPage.{record_number, RecordHasGone}

-- what a record tells is below 2 ^ 63
told-below : (content : List ℕ) (read : Option StreamRecord) → IsReadAs content read → told_valid read < 2 ^ 63
told-below content None reads = omega arith
told-below content (Some told) reads = let within = reads.in_range.within in let below = reads.in_range.size_in_range in omega (arith, within, below)

pub crash-bytes : (u : Setup) (past : List Entry) (s : ℕ) (opening now : Disk) → IsGoodSoFar u past → HasGone (history past s) opening now → RecordHasGone past s opening now → ((p : ℕ) → may_of opening p ≡ page_of opening p ∷ []) →
    (content : List ℕ) (first read : Option StreamRecord) (p i : ℕ) (bytes : List ℕ) → IsReadAs (page_of opening record_number) first → told_valid first ≤ first_valid (history past s) →
    Contains (may_of now record_number) content → IsReadAs content read → i < told_valid read → 4096 * p ≤ i → i < 4096 * p + 4096 → Contains (may_of now p) bytes →
    WasByte (page_of opening) past s i (slice_index bytes (i - 4096 * p))
crash-bytes u past s opening now good gone recorded alone content first read p i bytes opens least among reads below low high left =
    let most = told-below content read reads in
    recorded-bytes u past s (page_of opening) good (page_of opening record_number) content first read p i bytes opens least
    (recorded.crash content (alone record_number) among) reads below low high
    (gone.crash p bytes (apart p (omega (arith, most, below, low))) (alone p) left)
