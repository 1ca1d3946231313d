-- What each kind of entry asks of the past that it stands on.
use Rattle.std.specs.Prelude.{◌≡◌, ℕ, suc, ◌*◌, ◌<◌, ◌≤◌, Bool, true, false, ◌||◌, nat_lt, is_none, List, [], ◌∷◌, length}
use Rattle.std.specs.declared.option.Option.{Option}
use Rattle.std.specs.declared.option.Option.TheVariants.{Some, None}
use Rattle.std.specs.List.{list_any}
use Rattle.cc_entry.specs.Place.{File, Range}
use Rattle.cc_entry.specs.declared.hold.Deferral.{Deferral}
use Rattle.cc_entry.specs.declared.call.Call.{Call}
use Rattle.cc_entry.specs.declared.call.Call.TheVariants as call
use Rattle.cc_entry.specs.declared.entry.Entry.{Entry}
use Rattle.cc_model.specs.Setup.{Setup}
use Rattle.cc_model.specs.History.{Effect, history}
use Rattle.cc_model.specs.Holds.{holds_of, is_held}
use Rattle.cc_model.specs.Touches.{size_of, valid_of, is_dirty, is_mapped}
use Rattle.cc_model.specs.Settings.{quota_of}
use Rattle.cc_model.specs.Ranges.{span_has}
use Rattle.cc_model.specs.Residency.{residents, is_resident, all_resident, mapped_blocks_with}
use Rattle.cc_model.specs.Images.{open_of}
use Rattle.cc_model.specs.Covered.{IsLogged}
use Rattle.cc_model.specs.Flushed.{is_flushed}
use Rattle.cc_model.specs.Throttle.{queue, deferred, may_go}
use Rattle.cc_model.specs.Passes.{store_of, is_the_page, is_written_since}
use Rattle.cc_model.specs.Reasons.{is_open}

-- a page may come in
pub record MayComeIn (h : List Effect) (p : ℕ) (from_disk : Bool) : Type 0 where
  pub mapped : is_mapped h ≡ true
  pub absent : is_resident h p ≡ false
  pub below_size : 4096 * p < size_of h
  pub no_transfer : open_of h ≡ None
  pub in_quota : mapped_blocks_with h p ≤ quota_of h
  -- the disk is read where the page has a byte below the valid data length
  pub source : from_disk ≡ nat_lt (4096 * p) (valid_of h)

-- a page may go out
pub record MayGoOut (h : List Effect) (p : ℕ) : Type 0 where
  pub resident : is_resident h p ≡ true
  pub not_held : is_held (holds_of h) p ≡ false
  pub clean : is_dirty h p ≡ false
  pub no_transfer : open_of h ≡ None

-- a page's transfer may begin
pub record MayBegin (past : List Entry) (s p : ℕ) : Type 0 where
  pub resident : is_resident (history past s) p ≡ true
  pub dirty : is_dirty (history past s) p ≡ true
  pub logged : IsLogged past s p
  pub no_transfer : open_of (history past s) ≡ None

-- a write may be deferred
pub record MayDefer (past : List Entry) (id : ℕ) (file : File) : Type 0 where
  pub cached : is_open (history past file.stream) file ≡ true
  pub in_queue : length (queue past) < 64
  pub next : id ≡ suc (deferred past)

-- the head of the queue may be posted, and no other
abbrev pub MayPost : Setup → List Entry → ℕ → List Deferral → Type 0
MayPost u past id [] = ⊥
MayPost u past id (head ∷ rest) = (id ≡ head.id) × (may_go u past head.file.stream head.pages ≡ true)

-- each page of the range, where there is one, is resident
abbrev pub IsFilled : List Effect → Option Range → Type 0
IsFilled h None = Unit {0}
IsFilled h (Some r) = all_resident h r ≡ true

-- a noncached store may be done
pub record MayStore (past : List Entry) (s p : ℕ) (bytes : List ℕ) : Type 0 where
  pub whole_page : length bytes ≡ 4096
  pub no_transfer : open_of (history past s) ≡ None
  pub in_quota : mapped_blocks_with (history past s) p ≤ quota_of (history past s)
  pub logged : IsLogged past s p

-- the end of a noncached write may be done: its store is the pass's last call, and is on the disk
pub record MayFinish (past : List Entry) (pass s p : ℕ) : Type 0 where
  pub stored : is_the_page (record { stream = s; page = p }) (store_of past pass) ≡ true
  pub written : is_written_since past pass (record { stream = s; page = p }) ≡ true

-- what some done calls ask beside
abbrev pub IsReady : List Entry → ℕ → ℕ → Call → Type 0
IsReady past pass s (call.Flush file span) = is_flushed past pass s span ≡ true
IsReady past pass s (call.Purge file span) = list_any (span_has span) (residents (history past s)) ≡ false
IsReady past pass s (call.Discard file span) = open_of (history past s) ≡ None
IsReady past pass s (call.NcRead file page) =
    (is_resident (history past s) page || is_none (open_of (history past s))) ≡ true
IsReady past pass s (call.NcStore file page bytes) = MayStore past s page bytes
IsReady past pass s (call.NcWrite file page) = MayFinish past pass s page
IsReady past pass s other = Unit {0}

abbrev pub IsReadyIn : List Entry → ℕ → Option ℕ → Call → Type 0
IsReadyIn past pass None call = Unit {0}
IsReadyIn past pass (Some s) call = IsReady past pass s call
