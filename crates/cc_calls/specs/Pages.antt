-- What a call that needs pages leaves: a copied read, a copied write, a zeroing.
use Rattle.std.specs.Prelude.{◌≡◌, ℕ, ◌≤◌, ◌⊎◌, Bool, true, false, Result, Ok, Err, List, length, take, drop}
use Rattle.cc_entry.specs.Place.{File, Page}
use Rattle.cc_entry.specs.declared.call.Call.{Call}
use Rattle.cc_entry.specs.declared.call.Call.TheVariants as call
use Rattle.cc_entry.specs.declared.error.CcError.{CcError}
use Rattle.cc_entry.specs.declared.entry.Entry.{Entry}
use Rattle.cc_entry.specs.declared.reply.Outcome.{Outcome}
use Rattle.cc_entry.specs.declared.reply.Outcome.TheVariants as outcome
use Rattle.cc_entry.specs.declared.reply.Reply.TheVariants as reply
use Rattle.cc_effects.specs.Asked.{reaches}
use Rattle.cc_effects.specs.Calls.{CallLeft}
use Rattle.cc_effects.specs.Moments.{AtSome}
use Rattle.cc_model.specs.Good.{IsGood}
use Rattle.cc_model.specs.History.{history}
use Rattle.cc_model.specs.Passes.{calls_of}
use Rattle.cc_model.specs.Residency.{is_resident}
use Rattle.cc_turns.specs.Standing.{Standing}
use Rattle.cc_writes.specs.Ways.{IsFull, IsFullCall}
use Rattle.cc_writes.specs.Calls.{CallHasToWrite}
use Rattle.cc_ranges.specs.Flush.{outcome_of}
-- A pass goes on as it stood: it has seen more, what others have reserved may be other, and it may have taken the
-- turn of a disk.
pub use Rattle.cc_writes.specs.Fetch.{WentOn}
use Rattle.cc_ranges.specs.ReadVisits.{KeepsBehind, outcome_of_read}

-- What the pass has seen stays good.
abbrev pub StaysGood : Standing → Standing → Type 0
StaysGood old new = IsGood old.setup old.seen → IsGood old.setup new.seen

-- At a moment of the call a page of its range was not resident. The call's own entry did not stand there yet: the pass had
-- ended no call since the call began.
abbrev pub HadMissed : ℕ → Call → List Entry → List Entry → Type 0
HadMissed me it old new =
    AtSome (λ moment.
    (calls_of moment me ≡ calls_of old me)
    × ((page : Page) × (reaches it page moment ≡ true) × (is_resident (history moment page.stream) page.page ≡ false))) old new

-- The turn of a disk was taken no more often than before, or a page of the call's range was not resident.
abbrev pub TookDeviceFor : Call → Standing → Standing → Type 0
TookDeviceFor it old new = (new.device_turns ≡ old.device_turns) ⊎ HadMissed old.number it old.seen new.seen

-- Where a call that needs pages finds the journal full, there is no room for one entry; or it is ready to be done as it finds
-- that, and there is none for what it asks; or a page of its range was not resident, a page is to be written to make room for
-- it, and there is none for the begin of that transfer with the end.
abbrev pub IsFullFor : {A : Type 0} → Call → Standing → Standing → Result A CcError → Type 0
IsFullFor it old new answer =
    IsFullCall it new answer
    ⊎ (HadMissed old.number it old.seen new.seen × CallHasToWrite it new.seen × IsFull 2 new answer)

-- What a call that needs pages left: what explains that it ended so, the pass as it stood, what it has seen
-- still good, and a turn of a disk taken only for a page that was not resident.
pub record CallWithPagesLeft (old new : Standing) (it : Call) (ended : Outcome) : Type 0 where
  pub left : CallLeft old.setup old.number it ended old.seen new.seen
  pub goes_on : WentOn old new
  pub good : StaysGood old new
  pub missed : TookDeviceFor it old new

-- A call that changes bytes was answered so.
pub record ChangeEnds (old new : Standing) (it : Call) (answer : Result (Unit {0}) CcError) : Type 0 where
  pub pages : CallWithPagesLeft old new it (outcome_of answer)
  pub full : IsFullFor it old new answer

-- A read into so many bytes was answered so; one that may not wait took no turn of a disk.
pub record ReadEnds (old new : Standing) (file : File) (at : ℕ) (wait : Bool) (answer : Result ℕ CcError)
    (was now : List ℕ) : Type 0 where
  pub pages : CallWithPagesLeft old new (call.CopyRead file at (length was) wait) (outcome_of_read answer now)
  pub full : IsFullFor (call.CopyRead file at (length was) wait) old new answer
  pub rest : KeepsBehind answer was now
  pub no_wait : wait ≡ false → new.device_turns ≡ old.device_turns
