-- The least resident page of a span, and of a span's part in one view block.
use Rattle.std.specs.Prelude.{◌≡◌, ℕ, ◌<◌, true, false, List}
use Rattle.std.specs.declared.option.Option.{Option}
use Rattle.std.specs.declared.option.Option.TheVariants.{Some, None}
use Rattle.cc_entry.specs.Pages.{block_of}
use Rattle.cc_entry.specs.Place.{Range}
use Rattle.cc_model.specs.History.{Effect}
use Rattle.cc_model.specs.Ranges.{span_has}
use Rattle.cc_model.specs.Residency.{is_resident}

-- no page of the span is resident
abbrev pub SpanIsOut : List Effect → Option Range → Type 0
SpanIsOut h span = (p : ℕ) → span_has span p ≡ true → is_resident h p ≡ false

-- a page is the least resident one of the span
pub record IsLeastResident (h : List Effect) (span : Option Range) (page : ℕ) : Type 0 where
  pub in_span : span_has span page ≡ true
  pub resident : is_resident h page ≡ true
  pub none_below : (p : ℕ) → p < page → span_has span p ≡ true → is_resident h p ≡ false

-- the least resident page of the span was found, or there is none
abbrev pub IsLeastOf : List Effect → Option Range → Option ℕ → Type 0
IsLeastOf h span None = SpanIsOut h span
IsLeastOf h span (Some page) = IsLeastResident h span page

-- a page is the least resident one of the span in a block
pub record IsLeastHere (h : List Effect) (span : Option Range) (block page : ℕ) : Type 0 where
  pub here : block_of page ≡ block
  pub in_span : span_has span page ≡ true
  pub resident : is_resident h page ≡ true
  pub none_below : (p : ℕ) → p < page → block_of p ≡ block → span_has span p ≡ true → is_resident h p ≡ false

-- the least resident page of the span in a block was found, or there is none
abbrev pub IsLeastOfSpanIn : List Effect → Option Range → ℕ → Option ℕ → Type 0
IsLeastOfSpanIn h span block None = (p : ℕ) → block_of p ≡ block → span_has span p ≡ true → is_resident h p ≡ false
IsLeastOfSpanIn h span block (Some page) = IsLeastHere h span block page
