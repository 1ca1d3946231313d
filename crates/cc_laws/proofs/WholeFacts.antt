-- Each stream of a good journal is sound.
use Rattle.std.specs.Prelude.{ℕ, List}
use Rattle.cc_entry.specs.declared.entry.Entry.{Entry}
use Rattle.cc_model.specs.Setup.{Setup}
use Rattle.cc_model.specs.History.{history}
use Rattle.cc_model.specs.Good.{IsGoodSoFar}
use Rattle.cc_laws.specs.Facts.{IsSoundHistory}
use Rattle.cc_laws.proofs.CleanPages.{IsOnDisk-good}
use Rattle.cc_laws.proofs.SoundFacts.{valid_of-good, size_of-good, held_within-good, held_resident-good, dirty_resident-good, within_quota-good}

pub IsSound-good : (u : Setup) (past : List Entry) (s : ℕ) → IsGoodSoFar u past → IsSoundHistory (history past s)
IsSound-good u past s good = record {
  valid_within = valid_of-good u past s good;
  size_in_range = size_of-good u past s good;
  dirty_is_resident = dirty_resident-good u past s good;
  held_is_resident = held_resident-good u past s good;
  held_within = held_within-good u past s good;
  clean_is_on_disk = IsOnDisk-good u past s good;
  within_quota = within_quota-good u past s good;
}
