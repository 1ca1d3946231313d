-- What clauses see of each memory device.
use Rattle.std.specs.Prelude.{ℕ, Bool, max, map, List, [], ◌∷◌}
use Rattle.std.specs.declared.vec.Vec.{Vec}
use Rattle.std.specs.Global.{Global}
use Rattle.cc_traits.specs.Disk.{Disk}
use Rattle.cc_traits.specs.Log.{Log, LogEntry}
use Rattle.cc_memdev.specs.Calls.{CallPlan, StopPlan}

pub record DiskState : Type 0 where
  pub disk : Disk
  pub reads : CallPlan
  pub writes : CallPlan
  pub syncs : CallPlan
  pub stop : StopPlan
  pub faults : ℕ

pub record LogState : Type 0 where
  pub log : Log
  pub appends : CallPlan
  pub flushes : CallPlan
  pub reads : CallPlan
  pub stop : StopPlan
  pub faults : ℕ

-- the bytes that are left, those that were given, whether the last call answered the end, and how many bytes a call gives
-- at most
pub record SourceState : Type 0 where
  pub left : List ℕ
  pub given : List ℕ
  pub ended : Bool
  pub chunk : ℕ
  pub takes : CallPlan
  pub faults : ℕ

pub record SinkState : Type 0 where
  pub taken : List ℕ
  pub puts : CallPlan
  pub faults : ℕ

-- the greatest of a number and the LSNs of entries
abbrev pub greatest_lsn : ℕ → List LogEntry → ℕ
greatest_lsn n [] = n
greatest_lsn n (entry ∷ rest) = greatest_lsn (max n entry.lsn) rest

-- the entries of a log as it keeps them
abbrev pub entries_of : List (ℕ × Vec ℕ Global) → List LogEntry
entries_of entries = map (λ entry. record { lsn = entry.0; bytes = entry.1.items }) entries
