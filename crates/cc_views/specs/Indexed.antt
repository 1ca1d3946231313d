-- What the mapped blocks and the view index have to do with each other.
use Rattle.std.specs.Prelude.{◌≡◌, ℕ, ◌≤◌, nat_eq, List, is_some}
use Rattle.std.specs.Map.{lookup}
use Rattle.cc_vacb.specs.Index.{Index, entry_at}
use Rattle.cc_views.specs.Views.{ViewFrames, ViewsAreSound}

-- the index has a view of exactly the mapped blocks
pub record ViewsAreIndexed (views : List (ℕ × ViewFrames)) (quota size : ℕ) (index : Index) : Type 0 where
  pub sound : ViewsAreSound (record { views = views; quota = quota; size = size })
  pub few : quota ≤ 64
  pub sized : index.size ≡ size
  pub indexed : (block : ℕ) → is_some (entry_at index block) ≡ is_some (lookup (nat_eq block) views)
