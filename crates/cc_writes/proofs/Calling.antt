-- A page was written for a call, or was not: what the call is then, and what it leaves.
use Rattle.std.specs.Prelude.{◌≡◌, ℕ, Bool, true, false, Result, Ok, Err, IfErr, List, refl}
use Rattle.std.specs.declared.option.Option.TheVariants.{None, Some}
use Rattle.std.proofs.Common.{sym, ap, subst, inl, inr, ◌∙◌}
use Rattle.std.proofs.lemmas.Bool.{eq-eqb}
use Rattle.cc_entry.specs.Place.{Page}
use Rattle.cc_entry.specs.declared.call.Call.{Call}
use Rattle.cc_entry.specs.declared.error.CcError.{CcError}
use Rattle.cc_entry.specs.declared.error.CcError.TheVariants as error
use Rattle.cc_entry.specs.declared.entry.Entry.{Entry}
use Rattle.cc_effects.specs.Asked.{Work, Calls, may_write}
use Rattle.cc_effects.specs.Calls.{IsUnderWay}
use Rattle.cc_effects.specs.Stops.{tells}
use Rattle.cc_effects.proofs.Starts.{begins}
use Rattle.cc_model.specs.Faults.{Fault, WriteFailed, LogFailed}
use Rattle.cc_model.specs.History.{Effect, history}
use Rattle.cc_model.specs.Refusals.{refusal}
use Rattle.cc_model.specs.Setup.{Setup}
use Rattle.cc_model.specs.Stamps.{is_unstamped}
use Rattle.cc_model.specs.Touches.{is_dirty}
use Rattle.cc_step.specs.Step.{is_answered}
use Rattle.cc_turns.specs.Standing.{Standing}
use Rattle.cc_writes.specs.Hands.{WentWith}
use Rattle.cc_writes.specs.Ways.{IsAtWork, WorkHasFailed, IsFull, IsHalted, IsCallReason, is_met}
use Rattle.cc_writes.proofs.Refusals.{may_be_reserved, tells-free}
use Rattle.cc_writes.specs.Calls.{IsFullWriting, MayFaultInWriting, PageStepLeft}
use Rattle.cc_writes.specs.Writes.{IsToWrite, WorkWriteLeft, WriteShown}
use Rattle.cc_writes.specs.declared.writes.PageTransfer.{PageTransfer}
use Rattle.cc_writes.specs.declared.writes.PageTransfer.TheVariants as write
use Rattle.cc_writes.proofs.Works.{may_write-same}
use Rattle.cc_writes.proofs.Halting.{at-work, under-way, halted-since, given-up}

-- what the writing of a page of a stream left, of any work that may write it
abbrev pub HasWritten : Standing → Standing → ℕ → ℕ → Result PageTransfer CcError → Type 0
HasWritten w v s page r =
    (work : Work) (begun : List Entry) → may_write work (record { stream = s; page = page }) w.seen ≡ true →
    IsAtWork w.number work begun w.seen → WorkWriteLeft w.number work (record { stream = s; page = page }) r begun v.seen

-- what is said of the answer is said of what was answered
where_answered : (Says : Result PageTransfer CcError → Type 0) (r : Result PageTransfer CcError) (x y : PageTransfer) → r ≡ Ok x → x ≡ y → Says r → Says (Ok y)
where_answered Says r x y is same said = subst (λ (z : PageTransfer). Says (Ok z)) same (subst Says is said)

pub where_ok : (w v : Standing) (s page : ℕ) (r : Result PageTransfer CcError) (x y : PageTransfer) → r ≡ Ok x → x ≡ y → HasWritten w v s page r → HasWritten w v s page (Ok y)
where_ok w v s page = where_answered (λ (o : Result PageTransfer CcError). HasWritten w v s page o)

pub shown_ok : (w v : Standing) (s page : ℕ) (keeps : Bool) (r : Result PageTransfer CcError) (x y : PageTransfer) → r ≡ Ok x → x ≡ y → WriteShown w (record { stream = s; page = page }) keeps r v.seen → WriteShown w (record { stream = s; page = page }) keeps (Ok y) v.seen
shown_ok w v s page keeps = where_answered (λ (o : Result PageTransfer CcError). WriteShown w (record { stream = s; page = page }) keeps o v.seen)

-- a refusal tells the fault of the disk, or of the log, that the writing met
pub tells-disk : (it : Call) (page : ℕ) → tells it (error.WriteFault page) (WriteFailed page) ≡ true
tells-disk it page = rw (eq-eqb page page refl) refl

pub tells-log : (it : Call) (told handle : ℕ) → told ≡ handle → tells it (error.LogFault told) (LogFailed handle) ≡ true
tells-log it told handle same = rw same (eq-eqb handle handle refl)

-- a call that may fault in writing has no reserved entry
faults-free : (it : Call) → MayFaultInWriting it → may_be_reserved it ≡ false
faults-free it faults = tells-free it (error.WriteFault 0) (faults.disk 0) refl

-- where there was no room for the page's transfer, the call may write the page still, and it is as dirty
pub full-write : (A : Type 0) (w v : Standing) (s page : ℕ) (keeps : Bool) (it : Call) (e : CcError) → w.held.book ≡ Some s → w.held.device ≡ Some s → may_write (Calls it) (record { stream = s; page = page }) w.seen ≡ true → IsToWrite (record { stream = s; page = page }) w.seen → WriteShown w (record { stream = s; page = page }) keeps (Err e) v.seen → IsFull {A = A} 2 v (Err e) → IsFullWriting {A = A} it v (Err e)
full-write A w v s page keeps it (error.JournalFull entries) book device may to_write shown full =
    let its : Page = record { stream = s; page = page } in
    let same = shown.same s book device in
    inr (
      record {
        page = its;
        asked = may_write-same (Calls it) its w.seen v.seen same may;
        to_write = record {
          dirty = ap (λ (h : List Effect). is_dirty h page) same ∙ to_write.dirty;
          stamped = ap (λ (h : List Effect). is_unstamped h page) same ∙ to_write.stamped;
        };
      },
      full,
    )
full-write A w v s page keeps it other book device may to_write shown full = inl tt

-- an error of the writing itself is for want of room or of memory
pub gave_up-met : (w : Standing) (page : Page) (keeps : Bool) (e : CcError) (seen : List Entry) → WriteShown w page keeps (Err e) seen → is_met e ≡ true
gave_up-met w page keeps (error.JournalFull entries) seen shown = refl
gave_up-met w page keeps error.NoMemory seen shown = refl
gave_up-met w page keeps other seen shown = absurd shown

-- why the call is answered so, said of what it was before the fault
pub reason-since : (flight n s : ℕ) (w v : Standing) (it : Call) (r : Result Call CcError) → WentWith flight w v → n ≡ s → IfErr r (IsCallReason v.setup n it) → IfErr r (IsCallReason w.setup s it)
reason-since flight n s w v it r went same reason =
    subst (λ (t : ℕ). IfErr r (IsCallReason w.setup t it)) same
    (subst (λ (u : Setup). IfErr r (IsCallReason u n it)) (ap (λ (x : Standing). x.setup) went.same) reason)

module _ (w v : Standing) (s page : ℕ) (it : Call)
    (admitted : refusal w.setup w.seen (history w.seen s) it ≡ None) (asked : may_write (Calls it) (record { stream = s; page = page }) w.seen ≡ true) where
  -- what it left of the call
  of_call : (r : Result PageTransfer CcError) → HasWritten w v s page r → (begun : List Entry) → IsUnderWay w.number it begun w.seen → WorkWriteLeft w.number (Calls it) (record { stream = s; page = page }) r begun v.seen
  of_call r left begun is =
      left (Calls it) begun asked (at-work w.number it begun w.seen is)

  pub written : HasWritten w v s page (Ok write.Written) → (begun : List Entry) → IsUnderWay w.number it begun w.seen → IsUnderWay w.number it begun v.seen
  written left begun is = under-way w.number it begun v.seen (of_call (Ok write.Written) left begun is)

  pub not_written : HasWritten w v s page (Ok write.NotWritten) → WorkHasFailed w.number (Calls it) (WriteFailed page) w.seen v.seen
  not_written left = of_call (Ok write.NotWritten) left w.seen (begins w.number it w.seen)

  pub not_logged : (handle : ℕ) → HasWritten w v s page (Ok (write.NotLogged handle)) → WorkHasFailed w.number (Calls it) (LogFailed handle) w.seen v.seen
  not_logged handle left = of_call (Ok (write.NotLogged handle)) left w.seen (begins w.number it w.seen)

  pub gave_up : (e : CcError) → is_answered it ≡ true → MayFaultInWriting it → HasWritten w v s page (Err e) → (begun : List Entry) → IsUnderWay w.number it begun w.seen → PageStepLeft w.setup w.number it (Err e) begun v.seen
  gave_up e here faults left begun is = given-up w.setup w.number it (record { stream = s; page = page }) e begun v.seen here (faults-free it faults) (of_call (Err e) left begun is)

  -- a fault of the writing halted it
  module _ (flight n : ℕ) (went : WentWith flight w v) (same : n ≡ s) (e : CcError) (fault : Fault) (is : tells it e fault ≡ true)
      (failed : WorkHasFailed w.number (Calls it) fault w.seen v.seen) where
    setup_same : v.setup ≡ w.setup
    setup_same = ap (λ x. x.setup) went.same

    number_same : v.number ≡ w.number
    number_same = ap (λ x. x.number) went.same

    pub halted : (begun : List Entry) → IsUnderWay w.number it begun w.seen → IsHalted v.setup v.number n it e begun v.seen
    halted begun is_way =
        subst (λ (t : ℕ). IsHalted v.setup v.number t it e begun v.seen) (sym same)
        (subst (λ (m : ℕ). IsHalted v.setup m s it e begun v.seen) (sym number_same)
        (subst (λ (u : Setup). IsHalted u w.number s it e begun v.seen) (sym setup_same)
        (halted-since w.setup w.number s it e fault begun w.seen v.seen is_way admitted is failed)))

    pub is_halted : (begun : List Entry) × IsHalted v.setup v.number n it e begun v.seen
    is_halted = (w.seen, halted w.seen (begins w.number it w.seen))

    pub fault_left : (r : Result Call CcError) (new : List Entry) → ((begun : List Entry) → IsHalted v.setup v.number n it e begun v.seen → PageStepLeft v.setup v.number it r begun new) → (begun : List Entry) → IsUnderWay w.number it begun w.seen → PageStepLeft w.setup w.number it r begun new
    fault_left r new left begun is_way =
        subst (λ (m : ℕ). PageStepLeft w.setup m it r begun new) number_same
        (subst (λ (u : Setup). PageStepLeft u v.number it r begun new) setup_same (left begun (halted begun is_way)))
