-- Covered journals: no page goes to the disk before its log has what was stamped on it.
use Rattle.std.specs.Prelude.{◌≡◌, ℕ, suc, ◌≤◌, ◌^◌, false, List, [], ◌∷◌}
use Rattle.std.specs.declared.option.Option.{Option}
use Rattle.std.specs.declared.option.Option.TheVariants.{Some, None}
use Rattle.cc_entry.specs.declared.entry.Entry.{Entry}
use Rattle.cc_entry.specs.declared.entry.Entry.TheVariants as entry
use Rattle.cc_model.specs.History.{history}
use Rattle.cc_model.specs.Settings.{log_of}
use Rattle.cc_model.specs.Logs.{flushed_to, floor_of}
use Rattle.cc_model.specs.Stamps.{is_unstamped, newest_of}

-- the log, where there is one, was flushed to the LSN, where there is one
abbrev pub FlushedUpTo : List Entry → Option ℕ → Option ℕ → Type 0
FlushedUpTo past None lsn = Unit {0}
FlushedUpTo past (Some log) None = Unit {0}
FlushedUpTo past (Some log) (Some lsn) = lsn ≤ flushed_to past log

-- a page may go to the disk: no pin owes it a stamp, and its log was flushed to its newest LSN
pub record IsLogged (past : List Entry) (s p : ℕ) : Type 0 where
  pub stamped : is_unstamped (history past s) p ≡ false
  pub flushed : FlushedUpTo past (log_of (history past s)) (newest_of (history past s) p)

-- an append takes the LSN after the log's floor
pub record IsNextLsn (past : List Entry) (log lsn : ℕ) : Type 0 where
  pub next : lsn ≡ suc (floor_of past log)
  pub in_range : lsn ≤ 2 ^ 62

-- what is covered of one entry, given the past before it
unfoldable pub IsCoveredEntry : List Entry → Entry → Type 0
IsCoveredEntry past (entry.WriteBegin pass page) = IsLogged past page.stream page.page
IsCoveredEntry past (entry.Append pass handle lsn bytes) = IsNextLsn past handle lsn
IsCoveredEntry past other = Unit {0}

-- whether each entry of a journal is (CcSetLogHandleForFile)
unfoldable pub IsCovered : List Entry → Type 0
IsCovered [] = Unit {0}
IsCovered (e ∷ past) = IsCoveredEntry past e × IsCovered past
