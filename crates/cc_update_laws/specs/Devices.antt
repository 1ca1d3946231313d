-- What a stop leaves of the devices of a run, and how the next run goes on with its log.
use Rattle.std.specs.Prelude.{◌≡◌, ℕ, ◌*◌, ◌<◌, ◌≤◌, List, [], ◌∷◌, ◌++◌, length, Contains}
use Rattle.cc_entry.specs.declared.entry.Entry.{Entry}
use Rattle.cc_model.specs.Logs.{floor_of}
use Rattle.cc_log.specs.Turn.{appended}
use Rattle.cc_traits.specs.Disk.{Disk, may_of, page_of}

-- a disk as a run is handed it: each page has 4096 bytes, and a crash can leave it in one way alone
pub record IsWholeDisk (disk : Disk) : Type 0 where
  pub long : (p : ℕ) → length (page_of disk p) ≡ 4096
  pub alone : (p : ℕ) → may_of disk p ≡ page_of disk p ∷ []

-- each of these pages, up to a size, is one that a crash now can leave of the disk
abbrev pub AreLeft : Disk → ℕ → (ℕ → List ℕ) → Type 0
AreLeft now size disk = (p : ℕ) → 4096 * p < size → Contains (may_of now p) (disk p)

-- A run went on with a log at an LSN: at some moment the log's floor had reached it, and nothing was appended before.
pub record GoesOnFrom (log lsn : ℕ) (past : List Entry) : Type 0 where
  pub later : List Entry
  pub front : List Entry
  pub splits : past ≡ later ++ front
  pub none : appended front log ≡ []
  pub reached : lsn ≤ floor_of front log
