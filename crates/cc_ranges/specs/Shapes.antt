-- The refusal of a noncached call whose place or length is out of order.
use Rattle.std.specs.Prelude.{◌≡◌, ℕ, ◌⊎◌, List, if◌then◌else◌}
use Rattle.cc_entry.specs.Place.{File}
use Rattle.cc_entry.specs.declared.call.Call.{Call}
use Rattle.cc_entry.specs.declared.call.Call.TheVariants as call
use Rattle.cc_entry.specs.declared.error.CcError.{CcError}
use Rattle.cc_entry.specs.declared.error.CcError.TheVariants as error
use Rattle.cc_book.specs.Book.{BookState, failed}
use Rattle.cc_journal.specs.Journal.{JournalState}
use Rattle.cc_model.specs.History.{Effect}
use Rattle.cc_model.specs.Reasons.{is_open}
use Rattle.cc_model.specs.Setup.{Setup}
use Rattle.cc_step.specs.Step.{StandUnder, AddsOwing, IsStop}

-- a call is a page of a noncached call of the file
abbrev pub IsPageOf : File → Call → Type 0
IsPageOf file (call.NcRead named page) = named ≡ file
IsPageOf file (call.NcWrite named page) = named ≡ file
IsPageOf file other = ⊥

-- an error is one of the two refusals of a place and a length
abbrev pub IsShape : CcError → Type 0
IsShape (error.TooLong limit) = limit ≡ 65536
IsShape error.Unaligned = Unit {0}
IsShape other = ⊥

-- what comes first: that the object is not cached, or the refusal of the place or the length
abbrev pub refusal_first : List Effect → File → CcError → CcError
refusal_first h file refusal = if is_open h file then refusal else error.NotCached

-- the entry of the call says that it is refused so
pub record EntryIsRefusedSo {Q : Type 0} (u : Setup) (pass : ℕ) (it : Call) (refusal e : CcError)
    (b c : BookState) (j k : JournalState Q) : Type 0 where
  pub is : (e ≡ error.NotCached) ⊎ (e ≡ refusal)
  pub placed : AddsOwing (failed pass j.entries b.stream it e) j k
  pub stand : StandUnder u c k
  pub same : c ≡ b

-- What the refusal of such a call leaves: its entry, or nothing for want of room or of memory.
abbrev pub RefuseLeft : {Q : Type 0} → Setup → ℕ → Call → CcError → CcError → BookState → BookState
    → JournalState Q → JournalState Q → Type 0
RefuseLeft u pass it refusal e b c j k = EntryIsRefusedSo u pass it refusal e b c j k ⊎ (IsStop 1 e j × (k ≡ j) × (c ≡ b))
