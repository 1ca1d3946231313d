-- A call that met a fault of a device or a log: what it asks, and what it leaves.
use Rattle.std.specs.Prelude.{◌≡◌, ℕ, true, ◌&&◌, ◌||◌, ◌==◌, List}
use Rattle.std.specs.declared.option.Option.TheVariants.{None}
use Rattle.std.specs.List.{list_any}
use Rattle.cc_entry.specs.declared.call.Call.{Call}
use Rattle.cc_entry.specs.declared.entry.Entry.{Entry}
use Rattle.cc_entry.specs.declared.error.CcError.{CcError}
use Rattle.cc_entry.specs.declared.error.CcError.TheVariants as error
use Rattle.cc_book.specs.Book.{BookState, failed}
use Rattle.cc_journal.specs.Journal.{JournalState}
use Rattle.cc_model.specs.Faults.{faults_since, is_failed_read, is_failed_write, is_failed_sync, is_failed_log}
use Rattle.cc_model.specs.History.{history}
use Rattle.cc_model.specs.Ranges.{first_page}
use Rattle.cc_model.specs.Refusals.{refusal}
use Rattle.cc_model.specs.Setup.{Setup}
use Rattle.cc_step.specs.Step.{StandUnder, MayStep, AddsOwing, AttemptRefused, IsStop, FoundNone}
use Rattle.cc_step.specs.declared.faults.Failed.{Failed}
use Rattle.cc_step.specs.declared.faults.Failed.TheVariants as ended

-- The fault is one of those that befell the pass since its last call; a failed sync names the first page of the call's
-- range.
abbrev pub IsMet : List Entry → ℕ → Call → CcError → Type 0
IsMet past pass it (error.ReadFault page) = list_any (is_failed_read page) (faults_since past pass) ≡ true
IsMet past pass it (error.WriteFault page) =
    (list_any (is_failed_write page) (faults_since past pass)
    || (list_any is_failed_sync (faults_since past pass) && page == first_page it)) ≡ true
IsMet past pass it (error.LogFault handle) = list_any (is_failed_log handle) (faults_since past pass) ≡ true
IsMet past pass it other = ⊥

-- What a pass asks of a book on which a call is to answer a fault: it may step there, and met the fault.
pub record MayFail {Q : Type 0} (u : Setup) (pass : ℕ) (it : Call) (fault : CcError)
    (b : BookState) (j : JournalState Q) : Type 0 where
  pub may : MayStep u pass it b j
  pub met : IsMet j.entries pass it fault

-- the call answered the fault, since nothing refused it, and its entry says so
pub record ToldFault {Q : Type 0} (u : Setup) (pass : ℕ) (it : Call) (fault : CcError)
    (b c : BookState) (j k : JournalState Q) : Type 0 where
  pub admitted : refusal u j.entries (history j.entries b.stream) it ≡ None
  pub placed : AddsOwing (failed pass j.entries b.stream it fault) j k
  pub stand : StandUnder u c k
  pub same : c ≡ b

-- What a call that met a fault leaves, by cases over how it ended.
abbrev pub FailLeft : {Q : Type 0} → Setup → ℕ → Call → CcError → Failed
    → BookState → BookState → JournalState Q → JournalState Q → Type 0
FailLeft u pass it fault (ended.Refused e) b c j k = AttemptRefused u pass it e b c j k
FailLeft u pass it fault ended.Told b c j k = ToldFault u pass it fault b c j k
FailLeft u pass it fault (ended.Stopped e) b c j k = IsStop 1 e j × FoundNone u b c j k
