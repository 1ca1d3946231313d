-- What holds of each stream of a good journal.
use Rattle.std.specs.Prelude.{◌≡◌, ℕ, ◌+◌, ◌<◌, ◌≤◌, ◌^◌, true, false, nat_lt, nat_le, List, [], ◌∷◌, refl}
use Rattle.std.specs.List.{list_all}
use Rattle.std.proofs.lemmas.Bool.{or_parts, and_from, ltb-false, le-leb}
use Rattle.cc_entry.specs.declared.entry.Entry.{Entry}
use Rattle.cc_model.specs.Setup.{Setup}
use Rattle.cc_model.specs.History.{history}
use Rattle.cc_model.specs.Holds.{Hold, holds_of, is_held}
use Rattle.cc_model.specs.Touches.{size_of, valid_of, is_dirty}
use Rattle.cc_model.specs.Settings.{quota_of}
use Rattle.cc_model.specs.Residency.{is_resident, mapped_block_count}
use Rattle.cc_model.specs.Good.{IsGoodSoFar}
use Rattle.cc_laws.proofs.SafeJournals.{good-safe}
use Rattle.cc_laws.proofs.SizeFacts.{ends_past, sized}
use Rattle.cc_laws.proofs.ResidentFacts.{held-resident}
use Rattle.cc_laws.proofs.DirtyFacts.{dirty-resident}
use Rattle.cc_laws.proofs.QuotaFacts.{quota-within}

pub valid_of-good : (u : Setup) (past : List Entry) (s : ℕ) → IsGoodSoFar u past → valid_of (history past s) ≤ size_of (history past s)
valid_of-good u past s good = (sized (history past s) (good-safe u past s good)).valid_within

pub size_of-good : (u : Setup) (past : List Entry) (s : ℕ) → IsGoodSoFar u past → size_of (history past s) < 2 ^ 63
size_of-good u past s good = (sized (history past s) (good-safe u past s good)).size_in_range

all-end : (size : ℕ) (holds : List Hold) → ends_past size holds ≡ false → list_all (λ hold. nat_le (hold.at + hold.len) size) holds ≡ true
all-end size [] none = refl
all-end size (hold ∷ holds) none =
    let parts = or_parts (nat_lt size (hold.at + hold.len)) _ none in
    and_from _ _ (le-leb (hold.at + hold.len) size (ltb-false size (hold.at + hold.len) parts.0)) (all-end size holds parts.1)

pub held_within-good : (u : Setup) (past : List Entry) (s : ℕ) → IsGoodSoFar u past → list_all (λ hold. nat_le (hold.at + hold.len) (size_of (history past s))) (holds_of (history past s)) ≡ true
held_within-good u past s good = all-end (size_of (history past s)) (holds_of (history past s)) (sized (history past s) (good-safe u past s good)).held_within

pub held_resident-good : (u : Setup) (past : List Entry) (s : ℕ) → IsGoodSoFar u past → (p : ℕ) → is_held (holds_of (history past s)) p ≡ true → is_resident (history past s) p ≡ true
held_resident-good u past s good p held = held-resident (history past s) p (good-safe u past s good) held

pub dirty_resident-good : (u : Setup) (past : List Entry) (s : ℕ) → IsGoodSoFar u past → (p : ℕ) → is_dirty (history past s) p ≡ true → is_resident (history past s) p ≡ true
dirty_resident-good u past s good p dirty = dirty-resident (history past s) p (good-safe u past s good) dirty

pub within_quota-good : (u : Setup) (past : List Entry) (s : ℕ) → IsGoodSoFar u past → mapped_block_count (history past s) ≤ quota_of (history past s)
within_quota-good u past s good = quota-within (history past s) (good-safe u past s good)
