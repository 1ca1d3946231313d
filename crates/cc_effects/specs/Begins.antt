-- Which transfers a pass began from one moment to another, and in which order; and that it took no page out.
use Rattle.std.specs.Prelude.{◌≡◌, ℕ, ◌<◌, ◌≤◌, Bool, true, false, List, [], ◌∷◌, ◌++◌}
use Rattle.std.specs.List.{list_any}
use Rattle.cc_entry.specs.Place.{Page}
use Rattle.cc_entry.specs.declared.entry.Entry.{Entry}
use Rattle.cc_entry.specs.declared.entry.Entry.TheVariants as entry
use Rattle.cc_effects.specs.Moments.{own}
use Rattle.cc_effects.specs.PageWrites.{pages_begun}

-- The numbers of pages, of which the last comes first, ascend, from one number on and below another.
abbrev pub AscendWithin : ℕ → ℕ → List Page → Type 0
AscendWithin low high [] = low ≤ high
AscendWithin low high (page ∷ earlier) = (page.page < high) × AscendWithin low page.page earlier

-- From one moment to another a pass began no transfer.
pub record BeginsNone (me : ℕ) (old new : List Entry) : Type 0 where
  pub during : List Entry
  pub grew : new ≡ during ++ old
  pub none : pages_begun (own me during) ≡ []

-- The transfers that it began are of pages whose numbers ascend, from one number on and below another.
pub record BeginsAscending (me low high : ℕ) (old new : List Entry) : Type 0 where
  pub during : List Entry
  pub grew : new ≡ during ++ old
  pub ascend : AscendWithin low high (pages_begun (own me during))

-- whether a page goes out by an entry
abbrev pub is_page_out : Entry → Bool
is_page_out (entry.PageOut pass page) = true
is_page_out other = false

-- It took no page out.
pub record TakesNoneOut (me : ℕ) (old new : List Entry) : Type 0 where
  pub during : List Entry
  pub grew : new ≡ during ++ old
  pub none : list_any is_page_out (own me during) ≡ false
