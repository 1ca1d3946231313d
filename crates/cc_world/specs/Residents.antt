-- Whether a page of a span is resident, by the view blocks.
use Rattle.std.specs.Prelude.{◌≡◌, ℕ, ◌/◌, Bool, true, false, List}
use Rattle.std.specs.declared.option.Option.{Option}
use Rattle.std.specs.List.{list_any}
use Rattle.cc_entry.specs.Place.{Range}
use Rattle.cc_model.specs.History.{Effect}
use Rattle.cc_model.specs.Ranges.{span_has}
use Rattle.cc_model.specs.Residency.{is_resident, residents}

-- a page of the span is resident, or none of the block is
abbrev pub IsInBlock : List Effect → Option Range → ℕ → Bool → Type 0
IsInBlock h span block true = list_any (span_has span) (residents h) ≡ true
IsInBlock h span block false = (p : ℕ) → p / 64 ≡ block → span_has span p ≡ true → is_resident h p ≡ false
