-- What stops a call: a device or a log that failed, or a transfer that found no memory.
use Rattle.std.specs.Prelude.{◌≡◌, ℕ, Bool, true, false, not, ◌&&◌, ◌||◌, ◌==◌, List, ◌∷◌, ◌++◌}
use Rattle.std.specs.declared.option.Option.TheVariants.{Some}
use Rattle.std.specs.List.{list_any}
use Rattle.cc_entry.specs.declared.call.Call.{Call}
use Rattle.cc_entry.specs.declared.error.CcError.{CcError}
use Rattle.cc_entry.specs.declared.error.CcError.TheVariants as error
use Rattle.cc_entry.specs.declared.entry.End.{End}
use Rattle.cc_entry.specs.declared.entry.End.TheVariants as how
use Rattle.cc_entry.specs.declared.entry.Entry.{Entry}
use Rattle.cc_entry.specs.declared.entry.Entry.TheVariants as entry
use Rattle.cc_model.specs.Sizes.{ended_ok}
use Rattle.cc_model.specs.Ranges.{first_page}
use Rattle.cc_model.specs.Passes.{is_mine}
use Rattle.cc_model.specs.Faults.{Fault, fault_of, is_failed_read, is_failed_write, is_failed_sync, is_failed_log}
use Rattle.cc_effects.specs.Moments.{own, Others}

-- whether an entry stops the call that placed it
abbrev pub stops : Entry → Bool
stops (entry.FillFailed pass page) = true
stops (entry.WriteEnd pass page how) = not (ended_ok how)
stops (entry.Sync pass stream how) = not (ended_ok how)
stops (entry.LogFailed pass handle) = true
stops (entry.Record pass stream size valid how) = not (ended_ok how)
stops (entry.RecordFailed pass stream) = true
stops other = false

-- whether a transfer, a sync or the write of a record found no memory
abbrev pub is_want : End → Bool
is_want how.Good = false
is_want how.Failed = false
is_want how.NoMemory = true

abbrev pub found_no_memory : Entry → Bool
found_no_memory (entry.WriteEnd pass page how) = is_want how
found_no_memory (entry.Sync pass stream how) = is_want how
found_no_memory (entry.Record pass stream size valid how) = is_want how
found_no_memory other = false

-- nothing stopped the pass in a stretch
abbrev pub IsUnstopped : ℕ → List Entry → Type 0
IsUnstopped me during = list_any stops (own me during) ≡ false

-- this entry of the pass stopped it in a stretch: it placed nothing after, and nothing stopped it before
pub record IsStopped (me : ℕ) (stop : Entry) (during : List Entry) : Type 0 where
  pub since : List Entry
  pub before : List Entry
  pub split : during ≡ since ++ stop ∷ before
  pub is_own : is_mine me stop ≡ true
  pub quiet : Others me since
  pub unstopped : IsUnstopped me before

-- whether a fault is the one that a refusal of the call tells; after a failed sync that is a failed write of
-- the first page of the call's range
abbrev pub tells : Call → CcError → Fault → Bool
tells it (error.ReadFault page) fault = is_failed_read page fault
tells it (error.WriteFault page) fault = is_failed_write page fault || (is_failed_sync fault && page == first_page it)
tells it (error.LogFault handle) fault = is_failed_log handle fault
tells it other fault = false

-- the entry tells the fault of the refusal
pub record IsToldBy (me : ℕ) (it : Call) (e : CcError) (stop : Entry) : Type 0 where
  pub fault : Fault
  pub shown : fault_of me stop ≡ Some fault
  pub told : tells it e fault ≡ true

-- Whether a call that was stopped by this entry may end without an entry of its own: its own entry found no
-- room, or memory was wanting. Where a transfer found no memory, that is the answer.
abbrev pub may_give_up : CcError → Entry → Bool
may_give_up (error.JournalFull entries) stop = not (found_no_memory stop)
may_give_up error.NoMemory stop = true
may_give_up other stop = false
