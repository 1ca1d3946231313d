-- How far a flush came: which touches it has settled.
use Rattle.std.specs.Prelude.{◌≡◌, ℕ, ◌<◌, true, nat_lt, List}
use Rattle.std.specs.declared.option.Option.{Option}
use Rattle.std.specs.List.{list_all}
use Rattle.cc_entry.specs.Place.{Range}
use Rattle.cc_model.specs.History.{Effect}
use Rattle.cc_model.specs.Ranges.{span_has}
use Rattle.cc_model.specs.Touches.{unwritten}

-- each touch of a page that is neither written nor cut came after so many effects of the stream
abbrev pub IsSettledPage : ℕ → List Effect → ℕ → Type 0
IsSettledPage seen h p = list_all (λ touch. nat_lt seen touch.place) (unwritten h p) ≡ true

-- so of each page of the span below this one
abbrev pub IsSettledTo : ℕ → ℕ → List Effect → Option Range → Type 0
IsSettledTo to seen h span = (p : ℕ) → p < to → span_has span p ≡ true → IsSettledPage seen h p

-- and of each page of the span
abbrev pub IsSettledAll : ℕ → List Effect → Option Range → Type 0
IsSettledAll seen h span = (p : ℕ) → span_has span p ≡ true → IsSettledPage seen h p
