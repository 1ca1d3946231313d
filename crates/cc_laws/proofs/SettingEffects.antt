-- What is no call changes no setting that calls make.
use Rattle.std.specs.Prelude.{◌≡◌, ℕ, Bool, List, ◌∷◌, refl}
use Rattle.cc_entry.specs.declared.entry.End.{End}
use Rattle.cc_model.specs.History.{Effect, CameIn, WentOut, Began, Ended, Synced}
use Rattle.cc_model.specs.Settings.{log_of, has_no_read_ahead, has_no_write_behind, threshold_of, granularity_of}
use Rattle.cc_model.specs.ReadAhead.{reads_of}

pub log_of-came_in : (pass page : ℕ) (from_disk : Bool) (h : List Effect) → log_of (CameIn pass page from_disk ∷ h) ≡ log_of h
unfolding log_of
log_of-came_in pass page from_disk h = refl

pub log_of-went_out : (pass page : ℕ) (h : List Effect) → log_of (WentOut pass page ∷ h) ≡ log_of h
unfolding log_of
log_of-went_out pass page h = refl

pub log_of-began : (pass page : ℕ) (h : List Effect) → log_of (Began pass page ∷ h) ≡ log_of h
unfolding log_of
log_of-began pass page h = refl

pub log_of-ended : (pass page : ℕ) (how : End) (h : List Effect) → log_of (Ended pass page how ∷ h) ≡ log_of h
unfolding log_of
log_of-ended pass page how h = refl

pub log_of-synced : (pass : ℕ) (how : End) (h : List Effect) → log_of (Synced pass how ∷ h) ≡ log_of h
unfolding log_of
log_of-synced pass how h = refl

pub has_no_read_ahead-came_in : (pass page : ℕ) (from_disk : Bool) (h : List Effect) → has_no_read_ahead (CameIn pass page from_disk ∷ h) ≡ has_no_read_ahead h
unfolding has_no_read_ahead
has_no_read_ahead-came_in pass page from_disk h = refl

pub has_no_read_ahead-went_out : (pass page : ℕ) (h : List Effect) → has_no_read_ahead (WentOut pass page ∷ h) ≡ has_no_read_ahead h
unfolding has_no_read_ahead
has_no_read_ahead-went_out pass page h = refl

pub has_no_read_ahead-began : (pass page : ℕ) (h : List Effect) → has_no_read_ahead (Began pass page ∷ h) ≡ has_no_read_ahead h
unfolding has_no_read_ahead
has_no_read_ahead-began pass page h = refl

pub has_no_read_ahead-ended : (pass page : ℕ) (how : End) (h : List Effect) → has_no_read_ahead (Ended pass page how ∷ h) ≡ has_no_read_ahead h
unfolding has_no_read_ahead
has_no_read_ahead-ended pass page how h = refl

pub has_no_read_ahead-synced : (pass : ℕ) (how : End) (h : List Effect) → has_no_read_ahead (Synced pass how ∷ h) ≡ has_no_read_ahead h
unfolding has_no_read_ahead
has_no_read_ahead-synced pass how h = refl

pub has_no_write_behind-came_in : (pass page : ℕ) (from_disk : Bool) (h : List Effect) → has_no_write_behind (CameIn pass page from_disk ∷ h) ≡ has_no_write_behind h
unfolding has_no_write_behind
has_no_write_behind-came_in pass page from_disk h = refl

pub has_no_write_behind-went_out : (pass page : ℕ) (h : List Effect) → has_no_write_behind (WentOut pass page ∷ h) ≡ has_no_write_behind h
unfolding has_no_write_behind
has_no_write_behind-went_out pass page h = refl

pub has_no_write_behind-began : (pass page : ℕ) (h : List Effect) → has_no_write_behind (Began pass page ∷ h) ≡ has_no_write_behind h
unfolding has_no_write_behind
has_no_write_behind-began pass page h = refl

pub has_no_write_behind-ended : (pass page : ℕ) (how : End) (h : List Effect) → has_no_write_behind (Ended pass page how ∷ h) ≡ has_no_write_behind h
unfolding has_no_write_behind
has_no_write_behind-ended pass page how h = refl

pub has_no_write_behind-synced : (pass : ℕ) (how : End) (h : List Effect) → has_no_write_behind (Synced pass how ∷ h) ≡ has_no_write_behind h
unfolding has_no_write_behind
has_no_write_behind-synced pass how h = refl

pub threshold_of-came_in : (pass page : ℕ) (from_disk : Bool) (h : List Effect) → threshold_of (CameIn pass page from_disk ∷ h) ≡ threshold_of h
unfolding threshold_of
threshold_of-came_in pass page from_disk h = refl

pub threshold_of-went_out : (pass page : ℕ) (h : List Effect) → threshold_of (WentOut pass page ∷ h) ≡ threshold_of h
unfolding threshold_of
threshold_of-went_out pass page h = refl

pub threshold_of-began : (pass page : ℕ) (h : List Effect) → threshold_of (Began pass page ∷ h) ≡ threshold_of h
unfolding threshold_of
threshold_of-began pass page h = refl

pub threshold_of-ended : (pass page : ℕ) (how : End) (h : List Effect) → threshold_of (Ended pass page how ∷ h) ≡ threshold_of h
unfolding threshold_of
threshold_of-ended pass page how h = refl

pub threshold_of-synced : (pass : ℕ) (how : End) (h : List Effect) → threshold_of (Synced pass how ∷ h) ≡ threshold_of h
unfolding threshold_of
threshold_of-synced pass how h = refl

pub granularity_of-came_in : (object : ℕ) (pass page : ℕ) (from_disk : Bool) (h : List Effect) → granularity_of object (CameIn pass page from_disk ∷ h) ≡ granularity_of object h
unfolding granularity_of
granularity_of-came_in object pass page from_disk h = refl

pub granularity_of-went_out : (object : ℕ) (pass page : ℕ) (h : List Effect) → granularity_of object (WentOut pass page ∷ h) ≡ granularity_of object h
unfolding granularity_of
granularity_of-went_out object pass page h = refl

pub granularity_of-began : (object : ℕ) (pass page : ℕ) (h : List Effect) → granularity_of object (Began pass page ∷ h) ≡ granularity_of object h
unfolding granularity_of
granularity_of-began object pass page h = refl

pub granularity_of-ended : (object : ℕ) (pass page : ℕ) (how : End) (h : List Effect) → granularity_of object (Ended pass page how ∷ h) ≡ granularity_of object h
unfolding granularity_of
granularity_of-ended object pass page how h = refl

pub granularity_of-synced : (object : ℕ) (pass : ℕ) (how : End) (h : List Effect) → granularity_of object (Synced pass how ∷ h) ≡ granularity_of object h
unfolding granularity_of
granularity_of-synced object pass how h = refl

pub reads_of-came_in : (object : ℕ) (pass page : ℕ) (from_disk : Bool) (h : List Effect) → reads_of object (CameIn pass page from_disk ∷ h) ≡ reads_of object h
unfolding reads_of
reads_of-came_in object pass page from_disk h = refl

pub reads_of-went_out : (object : ℕ) (pass page : ℕ) (h : List Effect) → reads_of object (WentOut pass page ∷ h) ≡ reads_of object h
unfolding reads_of
reads_of-went_out object pass page h = refl

pub reads_of-began : (object : ℕ) (pass page : ℕ) (h : List Effect) → reads_of object (Began pass page ∷ h) ≡ reads_of object h
unfolding reads_of
reads_of-began object pass page h = refl

pub reads_of-ended : (object : ℕ) (pass page : ℕ) (how : End) (h : List Effect) → reads_of object (Ended pass page how ∷ h) ≡ reads_of object h
unfolding reads_of
reads_of-ended object pass page how h = refl

pub reads_of-synced : (object : ℕ) (pass : ℕ) (how : End) (h : List Effect) → reads_of object (Synced pass how ∷ h) ≡ reads_of object h
unfolding reads_of
reads_of-synced object pass how h = refl
