-- What was written: the pages, each once in the order of their first touch, and one span round all of it.
use Rattle.std.specs.Prelude.{ℕ, Option, None, Some, min, max, ◌==◌, Bool, List, [], ◌∷◌, ◌++◌, fold, if◌then◌else◌}
use Rattle.std.specs.List.{list_any}
use Rattle.cc_entry.specs.Place.{Range}

-- whether the page was touched
abbrev pub has_touched : List ℕ → ℕ → Bool
has_touched touched page = list_any (λ q. q == page) touched

-- with one more page
abbrev pub with_page : List ℕ → ℕ → List ℕ
with_page touched page = if has_touched touched page then touched else touched ++ page ∷ []

-- with further pages, one after another
abbrev pub with_pages : List ℕ → List ℕ → List ℕ
with_pages touched pages = fold with_page touched pages

-- the span that pinned writes cover, with one more
abbrev pub widened : Option Range → Range → Option Range
widened None span = Some span
widened (Some w) span = Some (record { from = min w.from span.from; to = max w.to span.to })
