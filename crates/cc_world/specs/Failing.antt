-- A call that tells a fault on the book of its stream and the journal: what it asks of them, and what it leaves.
use Rattle.std.specs.Prelude.{◌≡◌, ℕ, ◌<◌, ◌≤◌, true, List, [], ◌∷◌, length}
use Rattle.std.specs.declared.option.Option.{Option}
use Rattle.std.specs.declared.option.Option.TheVariants.{Some, None}
use Rattle.cc_entry.specs.declared.call.Call.{Call}
use Rattle.cc_entry.specs.declared.entry.Entry.{Entry}
use Rattle.cc_entry.specs.declared.error.CcError.{CcError}
use Rattle.cc_entry.specs.declared.error.CcError.TheVariants as error
use Rattle.cc_entry.specs.declared.reply.Outcome.TheVariants as outcome
use Rattle.cc_book.specs.Book.{BookState}
use Rattle.cc_journal.specs.Journal.{JournalState, room_of}
use Rattle.cc_model.specs.Allowed.{MayStand, is_fault}
use Rattle.cc_model.specs.Setup.{Setup}
use Rattle.cc_world.specs.Calls.{BookStandsUnder, CallWent}
use Rattle.cc_effects.specs.Events.{MayStandIf, asked_to_fail, call_entry, fault_told, filed_under}
use Rattle.cc_effects.specs.declared.events.StepReply.{StepReply}
use Rattle.cc_effects.specs.declared.events.StepReply.TheVariants as step

-- A call is made that is filed under the book's stream.
pub record IsFailing {Q : Type 0} (u : Setup) (it : Call) (b : BookState) (j : JournalState Q) : Type 0 where
  pub stands : BookStandsUnder u 0 b j
  pub here : filed_under j.entries it ≡ Some b.stream

-- A call of a pass may tell the oldest fault of the pass since its last call by this error.
pub record MayTellFault (u : Setup) (past : List Entry) (pass : ℕ) (it : Call) (e : CcError) : Type 0 where
  pub fault : is_fault e ≡ true
  pub told : fault_told past pass it ≡ Some (call_entry past pass it (outcome.Failed e))
  pub may : MayStand u past (call_entry past pass it (outcome.Failed e))

-- The error by which it tells that fault; none where it may not tell one.
abbrev pub IsFaultToldBy : Setup → List Entry → ℕ → Call → Option CcError → Type 0
IsFaultToldBy u past pass it None = MayStandIf u past (fault_told past pass it) → ⊥
IsFaultToldBy u past pass it (Some e) = MayTellFault u past pass it e

-- a call is made that may tell a fault by this error
pub record IsTelling {Q : Type 0} (u : Setup) (pass : ℕ) (it : Call) (e : CcError) (b : BookState) (j : JournalState Q)
    : Type 0 where
  pub failing : IsFailing u it b j
  pub may : MayTellFault u j.entries pass it e

-- What such a call leaves. It is not now exactly where it may not stand, and refused for want of room exactly where there is
-- less than it asks; then, and where memory is wanting, nothing changed.
abbrev pub FailEventLeft : {Q : Type 0} → Setup → ℕ → Call → StepReply Q
    → BookState → BookState → JournalState Q → JournalState Q → Type 0
FailEventLeft u pass it step.NotNow b c j k = (MayStandIf u j.entries (fault_told j.entries pass it) → ⊥) × (c ≡ b) × (k ≡ j)
FailEventLeft u pass it (step.Refused (error.JournalFull entries)) b c j k =
    MayStandIf u j.entries (fault_told j.entries pass it) × (room_of j < asked_to_fail j.entries pass it)
    × (entries ≡ length j.entries) × (c ≡ b) × (k ≡ j)
FailEventLeft u pass it (step.Refused error.NoMemory) b c j k = (c ≡ b) × (k ≡ j)
FailEventLeft u pass it (step.Refused e) b c j k =
    MayTellFault u j.entries pass it e × (asked_to_fail j.entries pass it ≤ room_of j)
    × CallWent u (call_entry j.entries pass it (outcome.Failed e) ∷ []) b c j k
FailEventLeft u pass it other b c j k = ⊥
