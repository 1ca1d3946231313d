-- What stays the same of a stream, of its disk, of a log and of a pass, while others go on.
use Rattle.std.specs.Prelude.{◌≡◌, ℕ, Bool, false, List}
use Rattle.cc_entry.specs.Place.{Page}
use Rattle.cc_entry.specs.declared.entry.Entry.{Entry}
use Rattle.cc_model.specs.History.{Effect}
use Rattle.cc_model.specs.Objects.{objects, had_map}
use Rattle.cc_model.specs.Holds.{holds_of}
use Rattle.cc_model.specs.Touches.{sizes, touches, touched, dirty_pages, is_mapped}
use Rattle.cc_model.specs.Bytes.{on_disk, byte_of}
use Rattle.cc_model.specs.Settings.{quota_of, is_temporary, allocation_of, log_of, has_no_read_ahead, has_no_write_behind, threshold_of, granularity_of}
use Rattle.cc_model.specs.Residency.{residents, order_of_use}
use Rattle.cc_model.specs.Images.{open_of, begun, image, crash_pages}
use Rattle.cc_model.specs.Discards.{low_of}
use Rattle.cc_model.specs.ReadAhead.{reads_of}
use Rattle.cc_model.specs.Logs.{flushed_to, floor_of}
use Rattle.cc_model.specs.Passes.{mine_of, calls_of, up_to_call, is_written_since}
use Rattle.cc_model.specs.Faults.{faults_since}

-- of two histories of a stream, all that its book stands for is the same
pub record SameBook (new old : List Effect) : Type 0 where
  pub same_objects : objects new ≡ objects old
  pub same_map : (is_mapped new ≡ is_mapped old) × (had_map new ≡ had_map old)
  pub same_holds : holds_of new ≡ holds_of old
  pub same_sizes : sizes new ≡ sizes old
  pub same_touches : (ended : Bool) (p : ℕ) → touches ended new p ≡ touches ended old p
  pub same_dirty : (dirty_pages new ≡ dirty_pages old) × (touched new ≡ touched old)
  pub same_low : (p : ℕ) → low_of new p ≡ low_of old p
  pub same_bytes : (pages : ℕ → List ℕ) (i : ℕ) → byte_of pages new i ≡ byte_of pages old i
  pub same_residents : residents new ≡ residents old
  pub same_order : order_of_use new ≡ order_of_use old

-- and all that was set for it
pub record SameSettings (new old : List Effect) : Type 0 where
  pub same_quota : quota_of new ≡ quota_of old
  pub same_temporary : is_temporary new ≡ is_temporary old
  pub same_allocation : allocation_of new ≡ allocation_of old
  pub same_log : log_of new ≡ log_of old
  pub same_read_ahead : has_no_read_ahead new ≡ has_no_read_ahead old
  pub same_write_behind : has_no_write_behind new ≡ has_no_write_behind old
  pub same_threshold : threshold_of new ≡ threshold_of old
  pub same_granularity : (object : ℕ) → granularity_of object new ≡ granularity_of object old
  pub same_reads : (object : ℕ) → reads_of object new ≡ reads_of object old

-- of two histories of a stream, the transfers and the images of its pages are the same
pub record SameImages (new old : List Effect) : Type 0 where
  pub same_transfer : open_of new ≡ open_of old
  pub same_front : (p : ℕ) → begun new p ≡ begun old p
  pub same_image : (pages : ℕ → List ℕ) (p : ℕ) → image pages new p ≡ image pages old p
  pub same_disk : (pages : ℕ → List ℕ) (i : ℕ) → on_disk pages false new i ≡ on_disk pages false old i

-- of two histories of a stream, what a crash may leave of each page is the same
pub record SameCrash (new old : List Effect) : Type 0 where
  pub same_crash : (pages : ℕ → List ℕ) (p : ℕ) → crash_pages pages new p ≡ crash_pages pages old p

-- of two pasts, what they say of a log is the same
pub record SameLog (log : ℕ) (new old : List Entry) : Type 0 where
  pub same_flushed : flushed_to new log ≡ flushed_to old log
  pub same_floor : floor_of new log ≡ floor_of old log

-- of two pasts, what they say of a pass is the same
pub record SamePass (me : ℕ) (new old : List Entry) : Type 0 where
  pub same_entries : mine_of me new ≡ mine_of me old
  pub same_calls : calls_of new me ≡ calls_of old me
  pub same_up_to : up_to_call new me ≡ up_to_call old me
  pub same_faults : faults_since new me ≡ faults_since old me
  pub same_written : (page : Page) → is_written_since new me page ≡ is_written_since old me page
