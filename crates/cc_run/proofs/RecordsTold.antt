-- What the records of the disks that a run gives back tell of their streams.
use Rattle.std.specs.Prelude.{◌≡◌, ℕ, ◌+◌, ◌-◌, ◌*◌, ◌<◌, ◌≤◌, List, [], ◌∷◌, Contains, slice_get, slice_index}
use Rattle.std.specs.declared.option.Option.{Option}
use Rattle.std.specs.declared.option.Option.TheVariants.{Some}
use Rattle.std.proofs.Common.{subst}
use Rattle.cc_entry.specs.declared.entry.Entry.{Entry}
use Rattle.cc_format.specs.Spelling.{IsReadAs}
use Rattle.cc_format.specs.declared.record.StreamRecord.{StreamRecord}
use Rattle.cc_model.specs.Good.{IsGood}
use Rattle.cc_model.specs.History.{history}
use Rattle.cc_model.specs.Records.{first_valid}
use Rattle.cc_model.specs.Setup.{Setup}
use Rattle.cc_records.specs.Recorded.{told_valid, WasByte}
use Rattle.cc_stored.proofs.Crashes.{crash-bytes}
use Rattle.cc_traits.specs.Disk.{Disk, page_of, may_of}
use Rattle.cc_traits.specs.Told.{Both}
use Rattle.cc_turns.specs.Disk.{HasGone}
use Rattle.cc_turns.specs.RecordPage.{RecordHasGone, record_number}
use Rattle.cc_lines.proofs.WordLines.{so_far}
use Rattle.cc_program.specs.Disks.{DisksLeft}
use Rattle.cc_program.specs.Setups.{run_disks}

module _ {D : Type 0} (told : D → Option Disk) (faults : D → ℕ) where
  pub records-told : (u : Setup) (past : List Entry) (old new : List D) → IsGood u past → DisksLeft told faults past old new → (s : ℕ) (before after : D) (opening now : Disk) → slice_get (run_disks old) s ≡ Some before → slice_get (run_disks new) s ≡ Some after → told before ≡ Some opening → told after ≡ Some now → ((p : ℕ) → may_of opening p ≡ page_of opening p ∷ []) → (content : List ℕ) (first read : Option StreamRecord) (p i : ℕ) (bytes : List ℕ) → IsReadAs (page_of opening record_number) first → told_valid first ≤ first_valid (history past s) → Contains (may_of now record_number) content → IsReadAs content read → i < told_valid read → 4096 * p ≤ i → i < 4096 * p + 4096 → Contains (may_of now p) bytes → WasByte (page_of opening) past s i (slice_index bytes (i - 4096 * p))
  records-told u past old new good left s before after opening now was is opens ends alone =
      let gone : HasGone (history past s) opening now =
      subst (λ t. Both (Some opening) t (HasGone (history past s))) ends
      (subst (λ t. Both t (told after) (HasGone (history past s))) opens (left.are.went s before after was is)) in
      let record_gone : RecordHasGone past s opening now =
      subst (λ t. Both (Some opening) t (RecordHasGone past s)) ends
      (subst (λ t. Both t (told after) (RecordHasGone past s)) opens (left.are.records s before after was is)) in
      crash-bytes u past s opening now (so_far u past good) gone record_gone alone
