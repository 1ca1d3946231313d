-- What holds at every place of a good journal.
use Rattle.std.specs.Prelude.{◌≡◌, ℕ, ◌+◌, ◌-◌, ◌*◌, ◌<◌, ◌≤◌, ◌^◌, true, false, nat_eq, nat_le, List, slice_index, Some}
use Rattle.std.specs.List.{list_all, IsDistinct}
use Rattle.cc_entry.specs.declared.entry.Entry.{Entry}
use Rattle.cc_model.specs.Numbers.{is_among}
use Rattle.cc_model.specs.History.{Effect}
use Rattle.cc_model.specs.Holds.{holds_of, is_held}
use Rattle.cc_model.specs.Touches.{size_of, valid_of, is_dirty}
use Rattle.cc_model.specs.Bytes.{byte_of}
use Rattle.cc_model.specs.Settings.{quota_of}
use Rattle.cc_model.specs.Residency.{is_resident, mapped_block_count, block_is_mapped, order_of_use}
use Rattle.cc_model.specs.Images.{image}
use Rattle.cc_model.specs.Cache.{views_taken, dirty_total}

-- the image of the page is known, and its byte at i is the plain file's
pub record IsOnDisk (pages : ℕ → List ℕ) (h : List Effect) (p i : ℕ) : Type 0 where
  pub bytes : List ℕ
  pub known : image pages h p ≡ Some bytes
  pub same : slice_index bytes (i - 4096 * p) ≡ byte_of pages h i

-- of one stream, at every place of a good journal
pub record IsSoundHistory (h : List Effect) : Type 0 where
  pub valid_within : valid_of h ≤ size_of h
  pub size_in_range : size_of h < 2 ^ 63
  pub dirty_is_resident : (p : ℕ) → is_dirty h p ≡ true → is_resident h p ≡ true
  pub held_is_resident : (p : ℕ) → is_held (holds_of h) p ≡ true → is_resident h p ≡ true
  pub held_within : list_all (λ hold. nat_le (hold.at + hold.len) (size_of h)) (holds_of h) ≡ true
  -- each byte below the valid data length of a page that is not dirty is on the disk, whatever the
  -- disk's opening pages
  pub clean_is_on_disk : (pages : ℕ → List ℕ) (p i : ℕ) → is_dirty h p ≡ false →
      4096 * p ≤ i → i < 4096 * p + 4096 → i < valid_of h → IsOnDisk pages h p i
  pub within_quota : mapped_block_count h ≤ quota_of h

-- of the whole cache
pub record IsWithinLimits (past : List Entry) : Type 0 where
  pub views : views_taken past ≤ 256
  pub dirty : dirty_total past ≤ 16384

-- the order of use has each mapped block once, and no other, at every place of any legal journal
pub record IsOrderOfMapped (h : List Effect) : Type 0 where
  pub distinct : IsDistinct nat_eq (order_of_use h)
  pub mapped : (b : ℕ) → is_among b (order_of_use h) ≡ block_is_mapped h b
