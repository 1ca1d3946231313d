-- What a deferral and a post leave (CcDeferWrite). Neither has a call's entry.
use Rattle.std.specs.Prelude.{◌≡◌, ℕ, ◌≤◌, Bool, true, false, List, [], ◌∷◌, ◌++◌, length, Result, Ok, Err}
use Rattle.std.specs.declared.option.Option.{Option}
use Rattle.std.specs.declared.option.Option.TheVariants.{Some, None}
use Rattle.cc_entry.specs.Place.{File}
use Rattle.cc_entry.specs.declared.hold.Deferral.{Deferral}
use Rattle.cc_entry.specs.declared.error.CcError.{CcError}
use Rattle.cc_entry.specs.declared.error.CcError.TheVariants as error
use Rattle.cc_entry.specs.declared.entry.Entry.{Entry}
use Rattle.cc_entry.specs.declared.entry.Entry.TheVariants as entry
use Rattle.cc_model.specs.Setup.{Setup}
use Rattle.cc_model.specs.History.{history}
use Rattle.cc_model.specs.Throttle.{pages_for, may_go, queue}
use Rattle.cc_model.specs.Reasons.{is_open}
use Rattle.cc_effects.specs.Moments.{IsIdle, PlacedOnly, AtSome, Between}

-- at a moment the object was not cached, and the call placed nothing
pub record WasNotCached (me : ℕ) (file : File) (old new : List Entry) : Type 0 where
  pub idle : IsIdle me old new
  pub closed : AtSome (λ moment. is_open (history moment file.stream) file ≡ false) old new

-- at a moment the object was cached, and 64 writes were deferred
pub record QueueWasFull (me : ℕ) (file : File) (old new : List Entry) : Type 0 where
  pub idle : IsIdle me old new
  pub full : AtSome (λ moment. (is_open (history moment file.stream) file ≡ true) × (64 ≤ length (queue moment))) old new

-- a write of so many bytes is deferred, under the number that is answered
abbrev pub DeferLeft : ℕ → File → ℕ → Bool → Result ℕ CcError → Between
DeferLeft me file bytes retrying (Ok id) old new = PlacedOnly me (entry.Defer me id file (pages_for bytes) retrying) old new
DeferLeft me file bytes retrying (Err error.NotCached) old new = WasNotCached me file old new
DeferLeft me file bytes retrying (Err error.QueueFull) old new = QueueWasFull me file old new
DeferLeft me file bytes retrying (Err (error.JournalFull entries)) old new = IsIdle me old new
DeferLeft me file bytes retrying (Err error.NoMemory) old new = IsIdle me old new
DeferLeft me file bytes retrying (Err other) old new = ⊥

-- no write is deferred, or the first may not go
abbrev pub MayNotPost : Setup → List Entry → List Deferral → Type 0
MayNotPost u past [] = Unit {0}
MayNotPost u past (head ∷ rest) = may_go u past head.file.stream head.pages ≡ false

-- A deferred write was posted: its entry, which is no pass's, stands in the stretch, and the pass placed
-- nothing of its own.
pub record IsPosted (me id : ℕ) (old new : List Entry) : Type 0 where
  pub idle : IsIdle me old new
  pub later : List Entry
  pub earlier : List Entry
  pub grew : new ≡ later ++ (entry.Posted id ∷ (earlier ++ old))

-- nothing was posted, since at a moment there was nothing to post
pub record WasIdleQueue (u : Setup) (me : ℕ) (old new : List Entry) : Type 0 where
  pub idle : IsIdle me old new
  pub nothing : AtSome (λ moment. MayNotPost u moment (queue moment)) old new

-- the first deferred write is posted, where it may go, and its number is answered
abbrev pub PostLeft : Setup → ℕ → Result (Option ℕ) CcError → Between
PostLeft u me (Ok (Some id)) old new = IsPosted me id old new
PostLeft u me (Ok None) old new = WasIdleQueue u me old new
PostLeft u me (Err (error.JournalFull entries)) old new = IsIdle me old new
PostLeft u me (Err error.NoMemory) old new = IsIdle me old new
PostLeft u me (Err other) old new = ⊥
