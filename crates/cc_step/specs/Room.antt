-- Room for the block of a page, and the block to give up to make it.
use Rattle.std.specs.Prelude.{◌≡◌, ℕ, ◌<◌, ◌||◌, nat_lt, Bool, true, false, List}
use Rattle.std.specs.declared.option.Option.{Option}
use Rattle.std.specs.declared.option.Option.TheVariants.{Some, None}
use Rattle.cc_entry.specs.Pages.{block_of}
use Rattle.cc_entry.specs.Place.{Range}
use Rattle.cc_entry.specs.declared.call.Call.{Call}
use Rattle.cc_entry.specs.declared.entry.Entry.{Entry}
use Rattle.cc_book.specs.Book.{BookState, BookStands}
use Rattle.cc_effects.specs.Asked.{block_to_go}
use Rattle.cc_model.specs.Good.{IsGood}
use Rattle.cc_model.specs.History.{Effect, history}
use Rattle.cc_model.specs.Refusals.{refusal}
use Rattle.cc_model.specs.Residency.{is_resident, block_is_mapped, mapped_block_count}
use Rattle.cc_model.specs.Settings.{quota_of}
use Rattle.cc_model.specs.Setup.{Setup}
use Rattle.cc_model.specs.Touches.{is_dirty}
use Rattle.cc_step.specs.Step.{least_absent, needed_range}

-- whether the block of a page is mapped, or fewer blocks than the quota are
abbrev pub has_room : List Effect → ℕ → Bool
has_room h page = block_is_mapped h (block_of page) || nat_lt (mapped_block_count h) (quota_of h)

-- A call waits for a page: nothing refuses it, and this is the least that it needs and that is not resident.
pub record IsWaiting (u : Setup) (past : List Entry) (s : ℕ) (it : Call) (page : ℕ) : Type 0 where
  pub admitted : refusal u past (history past s) it ≡ None
  pub least : least_absent (history past s) (needed_range (history past s) it) ≡ Some page

-- A call waits for a page for whose block there is no room.
pub record IsCrowded (u : Setup) (past : List Entry) (it : Call) (page : ℕ) (b : BookState) : Type 0 where
  pub good : IsGood u past
  pub stands : BookStands (u.opening b.stream) past b
  pub waits : IsWaiting u past b.stream it page
  pub full : has_room (history past b.stream) page ≡ false

-- a block is the one to give up so that one of the range can be mapped
abbrev pub IsToGo : List Effect → Option Range → ℕ → Type 0
IsToGo h None block = ⊥
IsToGo h (Some r) block = block_to_go h r ≡ Some block

-- a dirty page of a block was found, or there is none
abbrev pub IsDirtyIn : List Effect → ℕ → Option ℕ → Type 0
IsDirtyIn h block None = (p : ℕ) → block_of p ≡ block → is_dirty h p ≡ false
IsDirtyIn h block (Some page) = (block_of page ≡ block) × (is_dirty h page ≡ true)

-- no page of a block below this one is resident
abbrev pub NoneBelow : List Effect → ℕ → ℕ → Type 0
NoneBelow h block page = (p : ℕ) → p < page → block_of p ≡ block → is_resident h p ≡ false

-- the least resident page of a block was found, or there is none
abbrev pub IsLeastIn : List Effect → ℕ → Option ℕ → Type 0
IsLeastIn h block None = (p : ℕ) → block_of p ≡ block → is_resident h p ≡ false
IsLeastIn h block (Some page) = (block_of page ≡ block) × (is_resident h page ≡ true) × NoneBelow h block page
