-- What a call asks that fetches its pages, and what it leaves.
use Rattle.std.specs.Prelude.{◌≡◌, ℕ, ◌<◌, ◌⊎◌, Result}
use Rattle.cc_entry.specs.declared.call.Call.{Call}
use Rattle.cc_entry.specs.declared.error.CcError.{CcError}
use Rattle.cc_turns.specs.Standing.{Standing, nothing}
use Rattle.cc_writes.specs.Calls.{CallHasToWrite}
use Rattle.cc_writes.specs.Ways.{IsFull, IsFullCall}

-- A pass may call on a stream: the stream has a disk, and the pass holds no turn and has nothing under way.
pub record CanCall (w : Standing) (s : ℕ) : Type 0 where
  pub known : s < w.streams
  pub free : w.held ≡ nothing
  pub none : w.in_flight ≡ 0

-- Where a call that brings pages in finds the journal full, there is no room for one entry: its own, or that of a page that
-- comes in or goes out; or it is ready to be done as it finds that, and there is none for what it asks; or a page is to be
-- written for it then, and there is none for the begin of its transfer with the end.
abbrev pub IsFullFetching : {A : Type 0} → Call → Standing → Result A CcError → Type 0
IsFullFetching it w answer = IsFullCall it w answer ⊎ (CallHasToWrite it w.seen × IsFull 2 w answer)

-- A pass goes on as it stood: it has seen more, what others have reserved may be other, and it may have taken the turn
-- of a disk.
pub record WentOn (old new : Standing) : Type 0 where
  pub same : new ≡ record old { seen = new.seen; others = new.others; device_turns = new.device_turns }
