-- What is read of a page, and what a read leaves of its disk.
use Rattle.std.specs.Prelude.{◌≡◌, ℕ, ◌+◌, ◌-◌, ◌*◌, ◌^◌, ◌<◌, ◌≤◌, ◌==◌, Bool, true, false, List, ◌∷◌, slice_index, Result, Ok, Err, OnOk, refl}
use Rattle.std.specs.declared.option.Option.{Option}
use Rattle.std.specs.declared.option.Option.TheVariants.{Some, None}
use Rattle.std.proofs.Common.{arith, sym, ap, subst, ◌∙◌}
use Rattle.std.proofs.lemmas.Bool.{eq-eqb}
use Rattle.cc_entry.specs.declared.entry.Entry.{Entry}
use Rattle.cc_traits.specs.Disk.{Disk, Found, page_of}
use Rattle.cc_traits.specs.Stop.{faults_in, OnFailed}
use Rattle.cc_traits.specs.Told.{Both, IfTold}
use Rattle.cc_traits.specs.declared.stop.Stop.{Stop}
use Rattle.cc_traits.specs.declared.stop.Stop.TheVariants as stop
use Rattle.cc_content.specs.Filling.{IsReadFrom}
use Rattle.cc_effects.specs.Failures.{failures}
use Rattle.cc_laws.proofs.CleanPages.{IsOnDisk-good}
use Rattle.cc_laws.proofs.HistorySteps.{history-fill_failed}
use Rattle.cc_laws.proofs.SoundFacts.{dirty_resident-good, size_of-good, valid_of-good}
use Rattle.cc_laws.specs.Facts.{IsOnDisk}
use Rattle.cc_model.specs.Bytes.{byte_of}
use Rattle.cc_model.specs.Good.{IsGoodSoFar}
use Rattle.cc_model.specs.History.{Effect, history}
use Rattle.cc_model.specs.Residency.{is_resident}
use Rattle.cc_model.specs.Setup.{Setup}
use Rattle.cc_model.specs.Touches.{size_of, valid_of, is_dirty}
use Rattle.cc_turns.specs.Standing.{DiskAtFirst}
use Rattle.cc_turns.specs.Disk.{DiskStands, HasGone, opening_of}
use Rattle.cc_turns.specs.RecordPage.{record_number, RecordHasGone}
use Rattle.cc_turns.specs.Transfers.{CanRead, fill_failed}
use Rattle.cc_turns.proofs.DiskGrows.{both_same}
use Rattle.cc_turns.proofs.RecordPage.{apart, record-left, record_gone-same}

-- a page that is not resident is not dirty
clean : (u : Setup) (past : List Entry) (s page : ℕ) → IsGoodSoFar u past → is_resident (history past s) page ≡ false → is_dirty (history past s) page ≡ false
clean u past s page good absent = go (is_dirty (history past s) page) refl
  where
    go : (b : Bool) → is_dirty (history past s) page ≡ b → b ≡ false
    go false is = refl
    go true is = sym (dirty_resident-good u past s good page is) ∙ absent

-- what a disk holds of a page whose image is known, and is the plain file
is_read : (h : List Effect) (opening now : Disk) (page i : ℕ) (raw : List ℕ) → (page == record_number) ≡ false → HasGone h opening now → Found page raw now → IsOnDisk (page_of opening) h page (4096 * page + i) → slice_index raw i ≡ byte_of (page_of opening) h (4096 * page + i)
is_read h opening now page i raw apart gone found on_disk =
    ap (λ bytes. slice_index bytes i) (found ∙ gone.images page on_disk.bytes apart on_disk.known)
    ∙ (ap (slice_index on_disk.bytes) (place (4096 * page)) ∙ on_disk.same)
  where
    place : (from : ℕ) → i ≡ from + i - from
    place from = omega arith

IsReadFrom-found : (h : List Effect) (first now : Option Disk) (page : ℕ) (raw : List ℕ) → valid_of h < 2 ^ 63 → Both first now (HasGone h) → IfTold now (Found page raw) → ((pages : ℕ → List ℕ) (i : ℕ) → i < 4096 → 4096 * page + i < valid_of h → IsOnDisk pages h page (4096 * page + i)) → IsReadFrom (opening_of first) h page raw
IsReadFrom-found h None now page raw most both found on_disk pages is i low below = absurd (cc)
IsReadFrom-found h (Some opening) None page raw most both found on_disk pages is i low below = absurd both
IsReadFrom-found h (Some opening) (Some now) page raw most gone found on_disk pages is i low below =
    is_read h opening now page i raw (apart page (number page i (valid_of h) below most)) gone found (on_disk (page_of opening) i low below)
    ∙ ap (λ told. byte_of told h (4096 * page + i)) (same is)
  where
    same : Some (page_of opening) ≡ Some pages → page_of opening ≡ pages
    same e = cc

    number : (p i valid : ℕ) → 4096 * p + i < valid → valid < 2 ^ 63 → p < 2 ^ 51
    number p i valid below most = omega arith

is_read_from : {D : Type 0} (told : D → Option Disk) (faults : D → ℕ) (u : Setup) (first : DiskAtFirst) (past : List Entry) (s page : ℕ) (raw : List ℕ) (disk : D) → IfTold (told disk) (Found page raw) → CanRead told faults u first past s page disk → IsReadFrom (opening_of first.told) (history past s) page raw
is_read_from told faults u first past s page raw disk found can =
    IsReadFrom-found (history past s) first.told (told disk) page raw
    (less (valid_of (history past s)) (size_of (history past s)) (valid_of-good u past s can.good) (size_of-good u past s can.good))
    can.stands.has_gone found
    (λ pages i low below. IsOnDisk-good u past s can.good pages page (4096 * page + i) (clean u past s page can.good can.absent) (omega arith) (omega arith) below)
  where
    less : (valid size : ℕ) → valid ≤ size → size < 2 ^ 63 → valid < 2 ^ 63
    less valid size within most = omega arith

-- what a read that was done found
pub IsReadFrom-read : {D : Type 0} (told : D → Option Disk) (faults : D → ℕ) (page : ℕ) (raw : List ℕ) (read : Result (Unit {0}) Stop) (disk : D) → OnOk read (IfTold (told disk) (Found page raw)) → OnOk read ((u : Setup) (first : DiskAtFirst) (past : List Entry) (s : ℕ) → CanRead told faults u first past s page disk → IsReadFrom (opening_of first.told) (history past s) page raw)
IsReadFrom-read told faults page raw (Ok done) disk found = λ u first past s can. is_read_from told faults u first past s page raw disk found can
IsReadFrom-read told faults page raw (Err stop) disk found = tt

-- a disk that tells what it told, and whose count of faults is no less, stands for what it stood for
pub DiskStands-told : {D : Type 0} (told : D → Option Disk) (faults : D → ℕ) (first : DiskAtFirst) (past : List Entry) (s more : ℕ) (old new : D) → told new ≡ told old → faults new ≡ faults old + more → DiskStands told faults first past s old → DiskStands told faults first past s new
DiskStands-told told faults first past s more old new same counted stands = record {
  has_gone = subst (λ now. Both first.told now (HasGone (history past s))) (sym same) stands.has_gone;
  record_has_gone = subst (λ now. Both first.told now (RecordHasGone past s)) (sym same) stands.record_has_gone;
  counted = let before = stands.counted in rw counted (omega (arith, before));
}

-- one that failed stands for its failure too
failed_once : {D : Type 0} (told : D → Option Disk) (faults : D → ℕ) (first : DiskAtFirst) (past : List Entry) (s pass page : ℕ) (old new : D) → told new ≡ told old → faults new ≡ faults old + 1 → DiskStands told faults first past s old → DiskStands told faults first (fill_failed pass s page ∷ past) s new
unfolding failures
failed_once told faults first past s pass page old new same counted stands = record {
  has_gone = rw (history-fill_failed pass (record { stream = s; page = page }) past s)
      (subst (λ now. Both first.told now (HasGone (history past s))) (sym same) stands.has_gone);
  record_has_gone = subst (λ now. Both first.told now (RecordHasGone (fill_failed pass s page ∷ past) s)) (sym same)
      (both_same (RecordHasGone past s) (RecordHasGone (fill_failed pass s page ∷ past) s) first.told (told old)
      (λ opening now. record_gone-same past (fill_failed pass s page ∷ past) s opening now (record-left (fill_failed pass s page) past s refl))
      stands.record_has_gone);
  counted = let before = stands.counted in rw (eq-eqb s s refl, counted) (omega (arith, before));
}

pub DiskStands-failed : {D : Type 0} (told : D → Option Disk) (faults : D → ℕ) (page : ℕ) (read : Result (Unit {0}) Stop) (old new : D) → told new ≡ told old → faults new ≡ faults old + faults_in read → OnFailed read ((first : DiskAtFirst) (past : List Entry) (s pass : ℕ) → DiskStands told faults first past s old → DiskStands told faults first (fill_failed pass s page ∷ past) s new)
DiskStands-failed told faults page (Ok done) old new same counted = tt
DiskStands-failed told faults page (Err stop.Failed) old new same counted =
    λ first past s pass stands. failed_once told faults first past s pass page old new same counted stands
DiskStands-failed told faults page (Err stop.NoMemory) old new same counted = tt
