-- What is asked of a call for which a page is written, and how the call goes on.
use Rattle.std.specs.Prelude.{◌≡◌, ℕ, ◌⊎◌, true, Result, Ok, Err, List}
use Rattle.cc_entry.specs.Place.{Page}
use Rattle.cc_entry.specs.declared.call.Call.{Call}
use Rattle.cc_entry.specs.declared.entry.Entry.{Entry}
use Rattle.cc_entry.specs.declared.error.CcError.{CcError}
use Rattle.cc_entry.specs.declared.error.CcError.TheVariants as error
use Rattle.cc_entry.specs.declared.reply.Outcome.TheVariants as outcome
use Rattle.cc_effects.specs.Asked.{Work, Calls, may_write}
use Rattle.cc_effects.specs.Calls.{CallLeft, IsUnderWay}
use Rattle.cc_effects.specs.Refusals.{may_refuse}
use Rattle.cc_model.specs.Setup.{Setup}
use Rattle.cc_turns.specs.Standing.{Standing}
use Rattle.cc_writes.specs.Ways.{IsAtWork, IsFull}
use Rattle.cc_writes.specs.Writes.{IsToWrite}

-- A call may answer each fault of the writing of a page.
pub record MayFaultInWriting (it : Call) : Type 0 where
  pub disk : (page : ℕ) → may_refuse it (error.WriteFault page) ≡ true
  pub log : (handle : ℕ) → may_refuse it (error.LogFault handle) ≡ true

-- What a page step left of a call that was under way: the call goes on, or failed.
abbrev pub PageStepLeft : Setup → ℕ → Call → Result Call CcError → List Entry → List Entry → Type 0
PageStepLeft u me it (Ok again) old new = (again ≡ it) × IsUnderWay me it old new
PageStepLeft u me it (Err e) old new = CallLeft u me it (outcome.Failed e) old new

-- Each work that may write the page, and that was under way, is under way still.
abbrev pub KeepsWork : Standing → Page → List Entry → Type 0
KeepsWork w page seen =
    (work : Work) (begun : List Entry) → may_write work page w.seen ≡ true →
    IsAtWork w.number work begun w.seen → IsAtWork w.number work begun seen

-- A page is to be written for a call: the call may write it, it is dirty, and no pin owes it a stamp.
pub record CallHasToWrite (it : Call) (past : List Entry) : Type 0 where
  pub page : Page
  pub asked : may_write (Calls it) page past ≡ true
  pub to_write : IsToWrite page past

-- Where a call finds the journal full that writes a page, there is no room for one entry; or a page is to be written for
-- it as it finds that, and there is none for the begin of its transfer with the end.
abbrev pub IsFullWriting : {A : Type 0} → Call → Standing → Result A CcError → Type 0
IsFullWriting it w answer = IsFull 1 w answer ⊎ (CallHasToWrite it w.seen × IsFull 2 w answer)
