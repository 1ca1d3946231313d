-- A disk goes on standing while others go on without its turn.
use Rattle.std.specs.Prelude.{◌≡◌, ℕ, true, false, List, [], ◌∷◌, ◌++◌, Option, refl}
use Rattle.std.specs.declared.option.Option.TheVariants.{Some, None}
use Rattle.std.proofs.Common.{sym, ap, ◌∙◌}
use Rattle.cc_entry.specs.declared.entry.Entry.{Entry}
use Rattle.cc_entry.specs.declared.entry.Entry.TheVariants as entry
use Rattle.cc_traits.specs.Disk.{Disk, page_of}
use Rattle.cc_traits.specs.Told.{Both}
use Rattle.cc_model.specs.History.{Effect, history}
use Rattle.cc_model.specs.Images.{open_of}
use Rattle.cc_model.specs.Turns.{Device, needs, is_quiet}
use Rattle.cc_laws.specs.Laws.{SameImages, SameCrash}
use Rattle.cc_laws.proofs.KeptLaws.{SameImages-deviceless, SameCrash-deviceless}
use Rattle.cc_laws.proofs.QuietLaws.{kept_without_disk}
use Rattle.cc_laws.proofs.QuietSteps.{eqb-swapped, is_quiet-first, is_quiet-rest}
use Rattle.cc_effects.specs.Failures.{failures, is_failure}
use Rattle.cc_turns.specs.Standing.{DiskAtFirst}
use Rattle.cc_turns.specs.Disk.{DiskStands, HasGone, all_ended_well, is_transferred}
use Rattle.cc_turns.specs.RecordPage.{RecordHasGone}
use Rattle.cc_turns.proofs.RecordPage.{record-quiet, record_gone-same}

-- an entry that does not need the disk shows no failure of it
is_failure-unneeded : (e : Entry) (s : ℕ) → needs e (Device s) ≡ false → is_failure s e ≡ false
is_failure-unneeded (entry.FillFailed pass page) s unneeded = eqb-swapped s page.stream unneeded
is_failure-unneeded (entry.WriteEnd pass page how) s unneeded = rw (eqb-swapped s page.stream unneeded) refl
is_failure-unneeded (entry.Sync pass stream how) s unneeded = rw (eqb-swapped s stream unneeded) refl
is_failure-unneeded (entry.Record pass stream size valid how) s unneeded = rw (eqb-swapped s stream unneeded) refl
is_failure-unneeded (entry.RecordFailed pass stream) s unneeded = eqb-swapped s stream unneeded
is_failure-unneeded other s unneeded = refl

-- entries that do not need the disk show no failure of it
pub failures-quiet : (later past : List Entry) (s : ℕ) → is_quiet (Device s) later ≡ true → failures s (later ++ past) ≡ failures s past
unfolding failures
failures-quiet [] past s quiet = refl
failures-quiet (e ∷ later) past s quiet =
    rw (is_failure-unneeded e s (is_quiet-first (Device s) e later quiet))
    (failures-quiet later past s (is_quiet-rest (Device s) e later quiet))

-- they end no transfer of a page
pub all_ended_well-quiet : (later past : List Entry) (s p : ℕ) → is_quiet (Device s) later ≡ true → all_ended_well (history (later ++ past) s) p ≡ all_ended_well (history past s) p
unfolding all_ended_well
all_ended_well-quiet later past s p quiet =
    kept_without_disk (λ h. all_ended_well h p) (λ pass call reply h. refl) later past s quiet

-- and leave the transfer that is under way
pub open_of-quiet : (later past : List Entry) (s : ℕ) → is_quiet (Device s) later ≡ true → open_of (history (later ++ past) s) ≡ open_of (history past s)
open_of-quiet later past s quiet = (SameImages-deviceless later past s quiet).same_transfer

-- what has gone with a history has gone with one of the same images and crashes
pub has_gone_same : (h g : List Effect) (opening now : Disk) → SameImages g h → SameCrash g h → ((p : ℕ) → all_ended_well g p ≡ all_ended_well h p) → HasGone h opening now → HasGone g opening now
has_gone_same h g opening now images crash ended gone = record {
  images = λ p bytes apart is. gone.images p bytes apart (sym (images.same_image (page_of opening) p) ∙ is);
  among = gone.among;
  crash = λ p content apart alone among. rw (crash.same_crash (page_of opening) p) (gone.crash p content apart alone among);
  exact = λ p apart alone free well.
      gone.exact p apart alone (ap (λ t. is_transferred t p) (sym images.same_transfer) ∙ free) (sym (ended p) ∙ well)
      ∙ sym (crash.same_crash (page_of opening) p);
}

pub both_same : {A : Type 0} (P Q : A → A → Type 0) (first now : Option A) → ((x y : A) → P x y → Q x y) → Both first now P → Both first now Q
both_same P Q None None so both = both
both_same P Q None (Some now) so both = both
both_same P Q (Some first) None so both = both
both_same P Q (Some first) (Some now) so both = so first now both

-- entries that do not need the disk's turn leave what it stands for
pub disk_grows : {D : Type 0} (told : D → Option Disk) (faults : D → ℕ) (first : DiskAtFirst) (later past : List Entry) (s : ℕ) (disk : D) → is_quiet (Device s) later ≡ true → DiskStands told faults first past s disk → DiskStands told faults first (later ++ past) s disk
disk_grows told faults first later past s disk quiet stands = record {
  has_gone = both_same (HasGone (history past s)) (HasGone (history (later ++ past) s)) first.told (told disk)
      (λ opening now. has_gone_same (history past s) (history (later ++ past) s) opening now
      (SameImages-deviceless later past s quiet) (SameCrash-deviceless later past s quiet)
      (λ p. all_ended_well-quiet later past s p quiet)) stands.has_gone;
  record_has_gone = both_same (RecordHasGone past s) (RecordHasGone (later ++ past) s) first.told (told disk)
      (λ opening now. record_gone-same past (later ++ past) s opening now (record-quiet later past s quiet)) stands.record_has_gone;
  counted = rw (failures-quiet later past s quiet) stands.counted;
}
