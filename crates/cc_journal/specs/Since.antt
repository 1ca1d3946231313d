-- Touches of a page that came after the front of a journal.
use Rattle.std.specs.Prelude.{ℕ, Bool, true, nat_lt, List, Option, None, Some}
use Rattle.std.specs.List.{list_all}
use Rattle.cc_model.specs.History.{Effect}
use Rattle.cc_model.specs.Touches.{unwritten}

-- whether each touch of a page that is neither written nor cut came after so many effects of the stream
abbrev pub is_settled_page : ℕ → List Effect → ℕ → Bool
is_settled_page seen h p = list_all (λ touch. nat_lt seen touch.place) (unwritten h p)

-- whether a place, where there is one, is past so many entries
abbrev pub is_past : ℕ → Option ℕ → Bool
is_past entries None = true
is_past entries (Some place) = nat_lt entries place
