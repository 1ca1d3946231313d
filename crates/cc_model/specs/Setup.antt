-- What a run is given: the opening pages of the disks, the number of logs, and two limits.
use Rattle.std.specs.Prelude.{ℕ, List}
use Rattle.std.specs.declared.option.Option.{Option}

pub record Setup : Type 0 where
  -- of each stream, the bytes of each page that its disk held at the start, where the disk tells them
  pub opening : ℕ → Option (ℕ → List ℕ)
  pub logs : ℕ
  -- how many entries the journal may have
  pub capacity : ℕ
  -- how many dirty pages the cache may have before writers are held back
  pub threshold : ℕ
