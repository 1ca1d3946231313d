-- What a sync, and what entries without the book or the disk of a stream, keep of it.
use Rattle.std.specs.Prelude.{◌≡◌, ℕ, true, false, List, ◌∷◌, ◌++◌}
use Rattle.cc_entry.specs.declared.entry.End.{End}
use Rattle.cc_entry.specs.declared.entry.Entry.{Entry}
use Rattle.cc_model.specs.History.{Effect, Synced, history}
use Rattle.cc_model.specs.Objects.{objects, had_map}
use Rattle.cc_model.specs.Holds.{holds_of}
use Rattle.cc_model.specs.Touches.{sizes, touches, touched, dirty_pages, is_mapped}
use Rattle.cc_model.specs.Bytes.{on_disk, byte_of}
use Rattle.cc_model.specs.Settings.{quota_of, is_temporary, allocation_of, log_of, has_no_read_ahead, has_no_write_behind, threshold_of, granularity_of}
use Rattle.cc_model.specs.Residency.{residents, order_of_use}
use Rattle.cc_model.specs.Images.{open_of, begun, image, crash_pages}
use Rattle.cc_model.specs.Discards.{low_of}
use Rattle.cc_model.specs.ReadAhead.{reads_of}
use Rattle.cc_model.specs.Turns.{Device, Book, is_quiet}
use Rattle.cc_laws.specs.Laws.{SameBook, SameSettings, SameImages, SameCrash}
use Rattle.cc_laws.proofs.QuietLaws.{kept_without_book, kept_without_disk}
use Rattle.cc_laws.proofs.ObjectSteps.{objects-synced, had_map-synced}
use Rattle.cc_laws.proofs.TouchedSteps.{touched-synced}
use Rattle.cc_laws.proofs.SizeSteps.{sizes-synced}
use Rattle.cc_laws.proofs.TouchSteps.{touches-synced}
use Rattle.cc_laws.proofs.HoldSteps.{holds_of-synced}
use Rattle.cc_laws.proofs.ByteSteps.{byte_of-synced}
use Rattle.cc_laws.proofs.MapSteps.{is_mapped-synced, dirty_pages-synced}
use Rattle.cc_laws.proofs.ResidencySteps.{residents-synced, order_of_use-synced}
use Rattle.cc_laws.proofs.QuotaSteps.{quota_of-synced, is_temporary-synced, allocation_of-synced}
use Rattle.cc_laws.proofs.SettingEffects.{log_of-synced, has_no_read_ahead-synced, has_no_write_behind-synced, threshold_of-synced, granularity_of-synced, reads_of-synced}
use Rattle.cc_laws.proofs.DiskBytes.{on_disk-done, on_disk-synced}
use Rattle.cc_laws.proofs.PlacesGrown.{low_of-synced}
use Rattle.cc_laws.proofs.ImageSteps.{open_of-done, open_of-synced, begun-done, begun-synced, image-done, image-synced, crash_pages-done}

pub SameBook-synced : (pass : ℕ) (how : End) (h : List Effect) → SameBook (Synced pass how ∷ h) h
SameBook-synced pass how h = record {
  same_objects = objects-synced pass how h;
  same_map = (is_mapped-synced pass how h, had_map-synced pass how h);
  same_holds = holds_of-synced pass how h;
  same_sizes = sizes-synced pass how h;
  same_touches = λ ended p. touches-synced ended pass how h p;
  same_dirty = (dirty_pages-synced pass how h, touched-synced pass how h);
  same_low = λ p. low_of-synced pass how h p;
  same_bytes = λ pages i. byte_of-synced pages pass how h i;
  same_residents = residents-synced pass how h;
  same_order = order_of_use-synced pass how h;
}

pub SameSettings-synced : (pass : ℕ) (how : End) (h : List Effect) → SameSettings (Synced pass how ∷ h) h
SameSettings-synced pass how h = record {
  same_quota = quota_of-synced pass how h;
  same_temporary = is_temporary-synced pass how h;
  same_allocation = allocation_of-synced pass how h;
  same_log = log_of-synced pass how h;
  same_read_ahead = has_no_read_ahead-synced pass how h;
  same_write_behind = has_no_write_behind-synced pass how h;
  same_threshold = threshold_of-synced pass how h;
  same_granularity = λ object. granularity_of-synced object pass how h;
  same_reads = λ object. reads_of-synced object pass how h;
}

pub SameImages-synced : (pass : ℕ) (how : End) (h : List Effect) → SameImages (Synced pass how ∷ h) h
SameImages-synced pass how h = record {
  same_transfer = open_of-synced pass how h;
  same_front = λ p. begun-synced pass how h p;
  same_image = λ pages p. image-synced pages pass how h p;
  same_disk = λ pages i. on_disk-synced pages pass how h i;
}

pub SameBook-bookless : (later past : List Entry) (s : ℕ) → is_quiet (Book s) later ≡ true → SameBook (history (later ++ past) s) (history past s)
SameBook-bookless later past s quiet = record {
  same_objects = kept_without_book objects objects-synced later past s quiet;
  same_map = (kept_without_book is_mapped is_mapped-synced later past s quiet, kept_without_book had_map had_map-synced later past s quiet);
  same_holds = kept_without_book holds_of holds_of-synced later past s quiet;
  same_sizes = kept_without_book sizes sizes-synced later past s quiet;
  same_touches = λ ended p. kept_without_book (λ h. touches ended h p) (λ pass how h. touches-synced ended pass how h p) later past s quiet;
  same_dirty = (kept_without_book dirty_pages dirty_pages-synced later past s quiet, kept_without_book touched touched-synced later past s quiet);
  same_low = λ p. kept_without_book (λ h. low_of h p) (λ pass how h. low_of-synced pass how h p) later past s quiet;
  same_bytes = λ pages i. kept_without_book (λ h. byte_of pages h i) (λ pass how h. byte_of-synced pages pass how h i) later past s quiet;
  same_residents = kept_without_book residents residents-synced later past s quiet;
  same_order = kept_without_book order_of_use order_of_use-synced later past s quiet;
}

pub SameSettings-bookless : (later past : List Entry) (s : ℕ) → is_quiet (Book s) later ≡ true → SameSettings (history (later ++ past) s) (history past s)
SameSettings-bookless later past s quiet = record {
  same_quota = kept_without_book quota_of quota_of-synced later past s quiet;
  same_temporary = kept_without_book is_temporary is_temporary-synced later past s quiet;
  same_allocation = kept_without_book allocation_of allocation_of-synced later past s quiet;
  same_log = kept_without_book log_of log_of-synced later past s quiet;
  same_read_ahead = kept_without_book has_no_read_ahead has_no_read_ahead-synced later past s quiet;
  same_write_behind = kept_without_book has_no_write_behind has_no_write_behind-synced later past s quiet;
  same_threshold = kept_without_book threshold_of threshold_of-synced later past s quiet;
  same_granularity = λ object. kept_without_book (granularity_of object) (granularity_of-synced object) later past s quiet;
  same_reads = λ object. kept_without_book (reads_of object) (reads_of-synced object) later past s quiet;
}

pub SameImages-bookless : (later past : List Entry) (s : ℕ) → is_quiet (Book s) later ≡ true → SameImages (history (later ++ past) s) (history past s)
SameImages-bookless later past s quiet = record {
  same_transfer = kept_without_book open_of open_of-synced later past s quiet;
  same_front = λ p. kept_without_book (λ h. begun h p) (λ pass how h. begun-synced pass how h p) later past s quiet;
  same_image = λ pages p. kept_without_book (λ h. image pages h p) (λ pass how h. image-synced pages pass how h p) later past s quiet;
  same_disk = λ pages i. kept_without_book (λ h. on_disk pages false h i) (λ pass how h. on_disk-synced pages pass how h i) later past s quiet;
}

pub SameImages-deviceless : (later past : List Entry) (s : ℕ) → is_quiet (Device s) later ≡ true → SameImages (history (later ++ past) s) (history past s)
SameImages-deviceless later past s quiet = record {
  same_transfer = kept_without_disk open_of open_of-done later past s quiet;
  same_front = λ p. kept_without_disk (λ h. begun h p) (λ pass call reply h. begun-done pass call reply h p) later past s quiet;
  same_image = λ pages p. kept_without_disk (λ h. image pages h p) (λ pass call reply h. image-done pages pass call reply h p) later past s quiet;
  same_disk = λ pages i. kept_without_disk (λ h. on_disk pages false h i) (λ pass call reply h. on_disk-done pages pass call reply h i) later past s quiet;
}

pub SameCrash-deviceless : (later past : List Entry) (s : ℕ) → is_quiet (Device s) later ≡ true → SameCrash (history (later ++ past) s) (history past s)
SameCrash-deviceless later past s quiet = record {
  same_crash = λ pages p. kept_without_disk (λ h. crash_pages pages h p) (λ pass call reply h. crash_pages-done pages pass call reply h p) later past s quiet;
}
