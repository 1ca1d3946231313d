-- What clauses see of a disk and of a log over a file: nothing of what the file holds.
use Rattle.std.specs.Prelude.{ℕ, Bool}

-- `has_lost`: a sync failed, and what was written before it may be lost
pub record DiskState : Type 0 where
  pub has_lost : Bool
  pub faults : ℕ

-- `is_broken`: the file may hold what no append put there whole
pub record LogState : Type 0 where
  pub has_lost : Bool
  pub is_broken : Bool
  pub faults : ℕ
