-- What each effect of a good journal asked of its stream.
use Rattle.std.specs.Prelude.{◌≡◌, ℕ, ◌+◌, ◌<◌, ◌≤◌, ◌^◌, Bool, true, false, ◌&&◌, nat_lt, nat_le, List, [], ◌∷◌, length}
use Rattle.std.specs.List.{list_any}
use Rattle.cc_entry.specs.declared.call.Call.{Call}
use Rattle.cc_entry.specs.declared.call.Call.TheVariants as call
use Rattle.cc_entry.specs.Pages.{has_page}
use Rattle.cc_model.specs.Numbers.{is_empty, without}
use Rattle.cc_model.specs.History.{Effect, Did, CameIn, WentOut, Began, Ended, Synced}
use Rattle.cc_model.specs.Acts.{Act, act_of, Opens, Closes, Resizes, Writes, Zeroes, Stores, Stamps, Discards, Looks}
use Rattle.cc_model.specs.Objects.{objects}
use Rattle.cc_model.specs.Holds.{holds_of}
use Rattle.cc_model.specs.Touches.{size_of, is_mapped}
use Rattle.cc_model.specs.Settings.{quota_of}
use Rattle.cc_model.specs.Residency.{is_resident, mapped_blocks_with}
use Rattle.cc_model.specs.Reasons.{in_order}
use Rattle.cc_model.specs.Conflicts.{has_page_of}
use Rattle.cc_model.specs.Conditions.{MayComeIn, MayGoOut}

-- a hold of the range may be made
pub record MayHold (h : List Effect) (at len : ℕ) : Type 0 where
  pub within : nat_lt (size_of h) (at + len) ≡ false
  pub resident : (p : ℕ) → has_page (record { from = at; to = at + len }) p ≡ true → is_resident h p ≡ true
  pub opened : is_empty (objects h) ≡ false

-- whether an open hold has the range
abbrev pub in_hold : List Effect → ℕ → ℕ → Bool
in_hold h from to = list_any (λ hold. nat_le hold.at from && nat_le to (hold.at + hold.len)) (holds_of h)

-- the range may change: it lies below the size and its pages are resident, or an open hold has it
pub data MayChange (h : List Effect) (from to : ℕ) : Type 0 where
  Filled : (within : to ≤ size_of h) (resident : (p : ℕ) → has_page (record { from = from; to = to }) p ≡ true → is_resident h p ≡ true) → MayChange h from to
  Held : (held : in_hold h from to ≡ true) → MayChange h from to

-- what a done call that makes a hold asked
abbrev pub IsHoldSafe : List Effect → Call → Type 0
IsHoldSafe h (call.Map file at len) = MayHold h at len
IsHoldSafe h (call.PinRead file at len exclusive) = MayHold h at len
IsHoldSafe h (call.PreparePin file at len zero exclusive) = MayHold h at len
IsHoldSafe h (call.MdlRead file at len) = MayHold h at len
IsHoldSafe h (call.MdlWrite file at len) = MayHold h at len
IsHoldSafe h other = Unit {0}

-- what a done call asked by what it does
abbrev pub IsActSafe : List Effect → Act → Type 0
IsActSafe h (Opens file sizes quota temporary) = is_mapped h ≡ false → in_order sizes ≡ true
IsActSafe h (Closes file truncate) = is_empty (without file.object (objects h)) ≡ true → list_any (λ hold. true) (holds_of h) ≡ false
IsActSafe h (Resizes allocation size) = (size < 2 ^ 63) × (list_any (λ hold. nat_lt size (hold.at + hold.len)) (holds_of h) ≡ false)
IsActSafe h (Writes at bytes) = MayChange h at (at + length bytes)
IsActSafe h (Zeroes from to) = MayChange h from to
IsActSafe h (Stores page bytes) = mapped_blocks_with h page ≤ quota_of h
IsActSafe h (Stamps hold lsn) = Unit {0}
IsActSafe h (Discards span) = list_any (has_page_of span) (holds_of h) ≡ false
IsActSafe h Looks = Unit {0}

abbrev pub IsEffectSafe : Effect → List Effect → Type 0
IsEffectSafe (Did pass call reply) h = IsHoldSafe h call × IsActSafe h (act_of call)
IsEffectSafe (CameIn pass page from_disk) h = MayComeIn h page from_disk
IsEffectSafe (WentOut pass page) h = MayGoOut h page
IsEffectSafe (Began pass page) h = Unit {0}
IsEffectSafe (Ended pass page how) h = Unit {0}
IsEffectSafe (Synced pass how) h = Unit {0}

-- each effect of a history was allowed by what stood before it
unfoldable pub IsSafe : List Effect → Type 0
IsSafe [] = Unit {0}
IsSafe (e ∷ h) = IsEffectSafe e h × IsSafe h
