-- What a call leaves that has its answer in its entry, and takes no turn of a disk.
use Rattle.std.specs.Prelude.{◌≡◌, ℕ, Bool, true, false, Result, Ok, Err, List}
use Rattle.std.specs.declared.option.Option.{Option}
use Rattle.cc_entry.specs.declared.call.Call.{Call}
use Rattle.cc_entry.specs.declared.call.Call.TheVariants as call
use Rattle.cc_entry.specs.declared.error.CcError.{CcError}
use Rattle.cc_entry.specs.declared.place.DirtyRow.{DirtyRow}
use Rattle.cc_entry.specs.declared.place.FileState.{FileState}
use Rattle.cc_entry.specs.declared.reply.Outcome.{Outcome}
use Rattle.cc_entry.specs.declared.reply.Outcome.TheVariants as outcome
use Rattle.cc_entry.specs.declared.reply.Reply.TheVariants as reply
use Rattle.cc_entry.specs.declared.query.Value.TheVariants as value
use Rattle.cc_effects.specs.Calls.{CallLeft}
use Rattle.cc_turns.specs.Standing.{Standing, nothing}
use Rattle.cc_writes.specs.Hands.{Went}
use Rattle.cc_step.specs.Step.{most_asked}
use Rattle.cc_writes.specs.Ways.{IsFull}
use Rattle.cc_calls.specs.Pages.{StaysGood}
-- A pass may call on a stream.
pub use Rattle.cc_writes.specs.Fetch.{CanCall}
-- how the entry of a call says that it ended, whose caller was answered no value, or failed
pub use Rattle.cc_ranges.specs.Flush.{outcome_of}

-- A pass may make a call that is on no stream: it holds no turn, and has nothing under way.
pub record IsFree (w : Standing) : Type 0 where
  pub free : w.held ≡ nothing
  pub none : w.in_flight ≡ 0

-- the same where the caller was answered the sizes and the log of a stream, rows of the dirty page table, LSNs, or a
-- flag
abbrev pub state_outcome : Result FileState CcError → Outcome
state_outcome (Ok state) = outcome.Done (reply.Value (value.State state))
state_outcome (Err e) = outcome.Failed e

abbrev pub rows_outcome : Result (List DirtyRow) CcError → Outcome
rows_outcome (Ok rows) = outcome.Done (reply.Rows rows)
rows_outcome (Err e) = outcome.Failed e

abbrev pub lsns_outcome : Result (Option (ℕ × ℕ)) CcError → Outcome
lsns_outcome (Ok lsns) = outcome.Done (reply.Value (value.Lsns lsns))
lsns_outcome (Err e) = outcome.Failed e

abbrev pub flag_outcome : Result Bool CcError → Outcome
flag_outcome (Ok flag) = outcome.Done (reply.Value (value.Flag flag))
flag_outcome (Err e) = outcome.Failed e

-- Whether a call needs no page, and is answered without a value: it sets something of its stream.
abbrev pub is_setting : Call → Bool
is_setting (call.Initialise file sizes quota temporary) = true
is_setting (call.SetSizes file allocation size) = true
is_setting (call.SetLog file handle) = true
is_setting (call.SetGranularity file bytes) = true
is_setting (call.SetAttributes file no_read_ahead no_write_behind) = true
is_setting (call.SetThreshold file pages) = true
is_setting other = false

-- A call ended so: it left what explains its outcome, a journal that is full is full, the pass goes on as it stood and
-- may call again, and what it has seen stays good.
pub record CallEnds {A : Type 0} (ended : Result A CcError → Outcome) (old new : Standing) (it : Call)
    (answer : Result A CcError) : Type 0 where
  pub left : CallLeft old.setup old.number it (ended answer) old.seen new.seen
  pub full : IsFull (most_asked it) new answer
  pub goes_on : Went old new
  pub good : StaysGood old new

-- A call that sets something was answered so.
abbrev pub CallSets : Standing → Standing → Call → Result (Unit {0}) CcError → Type 0
CallSets old new it answer = CallEnds outcome_of old new it answer
