-- What is the same of each stream, of its locks, of the deferred writes and of the logs, from one past to another.
use Rattle.std.specs.Prelude.{◌≡◌, ℕ, false, List}
use Rattle.cc_entry.specs.declared.entry.Entry.{Entry}
use Rattle.cc_model.specs.History.{Effect, history}
use Rattle.cc_model.specs.Objects.{objects}
use Rattle.cc_model.specs.Holds.{holds_of}
use Rattle.cc_model.specs.Touches.{size_of, valid_of, unwritten, is_dirty}
use Rattle.cc_model.specs.Bytes.{byte_of}
use Rattle.cc_model.specs.Residency.{residents, order_of_use}
use Rattle.cc_model.specs.Images.{open_of, image, crash_pages}
use Rattle.cc_model.specs.Cache.{holds_made}
use Rattle.cc_model.specs.Pick.{last_total, cursor}
use Rattle.cc_model.specs.Throttle.{queue, deferred}
use Rattle.cc_model.specs.Records.{crash_records}
use Rattle.cc_model.specs.Locks.{locks_of}
use Rattle.cc_laws.specs.Laws.{SameSettings, SameLog}

-- Of two histories of a stream, its file is the same: each byte, whatever pages its disk held at first, the size and the valid data
-- length; who has it open, and what is held of it; and what was set for it, its log among that. No page that was clean is dirty.
pub record SameFile (new old : List Effect) : Type 0 where
  pub same_bytes : (pages : ℕ → List ℕ) (i : ℕ) → byte_of pages new i ≡ byte_of pages old i
  pub same_size : size_of new ≡ size_of old
  pub same_valid : valid_of new ≡ valid_of old
  pub same_objects : objects new ≡ objects old
  pub same_holds : holds_of new ≡ holds_of old
  pub same_settings : SameSettings new old
  pub still_clean : (p : ℕ) → is_dirty old p ≡ false → is_dirty new p ≡ false

-- Its pages are the same: the touches of each that are unwritten, with their stamps; which are resident, and in which order their
-- blocks were used; the transfer under way; what the disk holds of each, and what a crash may leave of it.
pub record SamePages (new old : List Effect) : Type 0 where
  pub same_unwritten : (p : ℕ) → unwritten new p ≡ unwritten old p
  pub same_residents : residents new ≡ residents old
  pub same_order : order_of_use new ≡ order_of_use old
  pub same_transfer : open_of new ≡ open_of old
  pub same_images : (pages : ℕ → List ℕ) (p : ℕ) → image pages new p ≡ image pages old p
  pub same_crash : (pages : ℕ → List ℕ) (p : ℕ) → crash_pages pages new p ≡ crash_pages pages old p

-- From one past to another no file changes, nor a lock, nor the queue of deferred writes, nor which number the next hold and the next
-- deferral get.
pub record ChangesNoFile (old new : List Entry) : Type 0 where
  pub files : (s : ℕ) → SameFile (history new s) (history old s)
  pub locks : (s : ℕ) → locks_of new s ≡ locks_of old s
  pub waiting : queue new ≡ queue old
  pub next_hold : holds_made new ≡ holds_made old
  pub next_deferral : deferred new ≡ deferred old

-- Nor does a page change, what the logs were given and flushed to, what a crash may leave of a record, or what the next scan starts from.
pub record ChangesNothing (old new : List Entry) : Type 0 where
  pub no_file : ChangesNoFile old new
  pub pages : (s : ℕ) → SamePages (history new s) (history old s)
  pub logs : (log : ℕ) → SameLog log new old
  pub records : (opening : List ℕ) (s : ℕ) → crash_records opening new s ≡ crash_records opening old s
  pub scans : (last_total new ≡ last_total old) × (cursor new ≡ cursor old)
