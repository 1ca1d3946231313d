-- What a refusal is decided from, and when that stands for a history.
use Rattle.std.specs.Prelude.{◌≡◌, ℕ, ◌-◌, true, false, not, List}
use Rattle.std.specs.declared.option.Option.{Option}
use Rattle.std.specs.List.{find}
use Rattle.std.specs.Option.{option_map}
use Rattle.cc_entry.specs.Place.{Range}
use Rattle.cc_entry.specs.declared.call.Call.{Call}
use Rattle.cc_entry.specs.declared.call.Call.TheVariants as call
use Rattle.cc_entry.specs.declared.entry.Entry.{Entry}
use Rattle.cc_entry.specs.Pages.{pages_of, blocks_of}
use Rattle.cc_model.specs.Setup.{Setup}
use Rattle.cc_model.specs.History.{Effect}
use Rattle.cc_model.specs.Touches.{size_of, valid_of, is_mapped}
use Rattle.cc_model.specs.Cache.{views_taken}
use Rattle.cc_model.specs.Ranges.{cut_range}
use Rattle.cc_model.specs.Residency.{is_resident}
use Rattle.cc_stream.specs.Stream.{StreamStands}
use Rattle.cc_holds.specs.Stands.{HoldsStand}
use Rattle.cc_images.specs.Images.{ImagesStand}
use Rattle.cc_images.specs.Dirty.{AreDirty}
use Rattle.cc_refusal.specs.declared.known.Known.{Known}

-- what a refusal is decided from stands for the setup, the past, and the history of the call's stream
pub record KnownStands (u : Setup) (past : List Entry) (h : List Effect) (known : Known) : Type 0 where
  pub state : StreamStands h known.state.now
  pub valid : known.valid ≡ valid_of h
  pub mapped : known.mapped ≡ is_mapped h
  pub holds : HoldsStand h known.holds.now
  pub images : ImagesStand h known.images.now
  pub dirty : AreDirty h known.stream known.dirty.now
  pub logs : u.logs ≡ known.logs

-- Of the range of a read which may not wait it is the least page that is not resident. Of another call nothing
-- is said.
abbrev pub IsLeastAbsent : List Effect → Call → Option ℕ → Type 0
IsLeastAbsent h (call.CopyRead file at len false) absent =
    absent ≡ find (λ p. not (is_resident h p)) (pages_of (cut_range (size_of h) at len))
IsLeastAbsent h (call.CopyRead file at len true) absent = Unit {0}
IsLeastAbsent h other absent = Unit {0}

-- Of an initialise it is how many of the 256 views no mapped stream has taken. Of another call nothing is said.
abbrev pub AreFreeViews : List Entry → Call → ℕ → Type 0
AreFreeViews past (call.Initialise file sizes quota temporary) free = free ≡ 256 - views_taken past
AreFreeViews past other free = Unit {0}

-- two ranges have the same view blocks, or there is neither
abbrev pub HasSameBlocks : Option Range → Option Range → Type 0
HasSameBlocks span r = option_map blocks_of span ≡ option_map blocks_of r
