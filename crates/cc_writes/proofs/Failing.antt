-- A call that was halted by a fault ends in a visit: with the fault, or with a refusal that others brought about.
use Rattle.std.specs.Prelude.{◌≡◌, ℕ, suc, Bool, true, false, List, [], ◌∷◌, Some, Err, refl}
use Rattle.std.specs.List.{list_any}
use Rattle.std.proofs.Common.{ap, sym, subst, inl, inr}
use Rattle.cc_entry.specs.declared.call.Call.{Call}
use Rattle.cc_entry.specs.declared.entry.Entry.{Entry}
use Rattle.cc_entry.specs.declared.error.CcError.{CcError}
use Rattle.cc_entry.specs.declared.error.CcError.TheVariants as error
use Rattle.cc_entry.specs.declared.reply.Outcome.TheVariants as outcome
use Rattle.cc_book.specs.Book.{BookState, failed}
use Rattle.cc_effects.specs.Calls.{CallLeft}
use Rattle.cc_effects.specs.PageWrites.{pages_begun}
use Rattle.cc_effects.specs.Refusals.{may_refuse}
use Rattle.cc_journal.specs.Journal.{JournalState}
use Rattle.cc_model.specs.Acts.{file_of}
use Rattle.cc_model.specs.Allowed.{is_fault}
use Rattle.cc_model.specs.Filing.{IsFiled}
use Rattle.cc_model.specs.History.{history}
use Rattle.cc_model.specs.Holds.{holds_of}
use Rattle.cc_model.specs.Passes.{calls_of}
use Rattle.cc_model.specs.Setup.{Setup}
use Rattle.cc_step.specs.Faults.{MayFail, FailLeft}
use Rattle.cc_step.specs.Step.{IsStop, is_answered}
use Rattle.cc_step.specs.declared.faults.Failed.{Failed}
use Rattle.cc_step.specs.declared.faults.Failed.TheVariants as ended
use Rattle.cc_turns.specs.Standing.{Standing}
use Rattle.cc_turns.specs.Takes.{without_journal}
use Rattle.cc_effects.specs.Begins.{BeginsNone, TakesNoneOut, is_page_out}
use Rattle.cc_writes.specs.Alone.{NobodyElseChanged}
use Rattle.cc_writes.specs.Hands.{HasBook, SameDisk}
use Rattle.cc_writes.specs.Told.{fault_answer}
use Rattle.cc_writes.specs.Visits.{IsFiledNow}
use Rattle.cc_writes.specs.Ways.{IsFull, IsHalted, IsCallReason, is_met}
use Rattle.cc_writes.proofs.Attempting.{filed-front, may-step, number-is, visited-refused, visited-same, full-refused, full-stop}
use Rattle.cc_effects.proofs.Begun.{none-behind, none-idle}
use Rattle.cc_writes.proofs.Alone.{alone-effectless, alone-grows}
use Rattle.cc_writes.proofs.Begun.{stays-behind, stays-idle}
use Rattle.cc_writes.proofs.VisitDisks.{disk-call, disk-then}
use Rattle.cc_writes.proofs.VisitEnding.{fault-is, told-left, overtaken-left, full-halted, memoryless-halted}
use Rattle.cc_writes.proofs.VisitHalting.{met}
use Rattle.cc_writes.proofs.Others.{halted-on}
use Rattle.cc_writes.proofs.Placing.{stepping-failed}
use Rattle.cc_writes.proofs.Refusals.{MayStop, stops-free, tells-free}
use Rattle.cc_writes.proofs.Resting.{disk-held}
use Rattle.cc_writes.proofs.Visiting.{Visiting, Visited, visited}

-- a fault is an error that was met
met-fault : (e : CcError) → is_fault e ≡ true → is_met e ≡ true
met-fault (error.ReadFault page) fault = refl
met-fault (error.WriteFault page) fault = refl
met-fault (error.LogFault handle) fault = refl
met-fault other fault = absurd (cc)

-- a fault says nothing of a full journal
full-fault : (A : Type 0) (w : Standing) (e : CcError) → is_fault e ≡ true → IsFull {A = A} 1 w (Err e)
full-fault A w (error.JournalFull entries) fault = absurd (cc)
full-fault A w other fault = tt

module _ {Q : Type 0} (posted : Q → Bool) (w v : Standing) (it : Call) (b c : BookState) (j k : JournalState Q)
    (has : HasBook w b.stream b) (vis : Visiting posted w v b.stream b j) (here : is_answered it ≡ true) (filed : IsFiledNow w b.stream it)
    (fault : CcError) (listed : may_refuse it fault ≡ true) (first : List Entry) (was : IsHalted w.setup w.number b.stream it fault first w.seen) where
  pub is-fault : is_fault fault ≡ true
  is-fault = fault-is it fault was.fault was.is

  -- it may end for want of room and of memory too
  stops : MayStop it j.entries
  stops = stops-free it j.entries here (tells-free it fault listed is-fault)

  filed-in : IsFiled (holds_of (history j.entries b.stream)) w.number (Some b.stream) it (file_of it)
  filed-in = filed-front posted w v it b c j k has vis here filed

  may-fail : MayFail w.setup w.number it fault b j
  may-fail = record {
    may = may-step posted w v it b c j k has vis here filed;
    met = met w.setup w.number b.stream it fault first j.entries (halted-on w.setup w.number b.stream it fault first w.seen j.entries was vis.idle);
  }

  pub fail-as : (pass : ℕ) → pass ≡ v.number → MayFail w.setup pass it fault b j
  fail-as pass me = subst (λ (n : ℕ). MayFail w.setup n it fault b j) (sym (number-is posted w v it b c j k has vis here filed pass me)) may-fail

  pub has-failed : (pass : ℕ) (end : Failed) → pass ≡ v.number → ((u : Setup) → MayFail u pass it fault b j → FailLeft u pass it fault end b c j k) → FailLeft w.setup w.number it fault end b c j k
  has-failed pass end me left = subst (λ (n : ℕ). FailLeft w.setup n it fault end b c j k) (number-is posted w v it b c j k has vis here filed pass me) (left w.setup (fail-as pass me))

  pub visited-fail : (end : Failed) → FailLeft w.setup w.number it fault end b c j k → Visited posted w v b.stream w.in_flight c k
  visited-fail (ended.Refused e) left = visited-refused posted w v it b c j k has vis here filed e left
  visited-fail ended.Told left =
      visited posted w v b.stream w.in_flight (failed w.number j.entries b.stream it fault ∷ []) b c j k has vis
      (stepping-failed posted w v b c j k has vis it fault left.placed left.stand (ap (λ (x : BookState). x.stream) left.same))
  visited-fail (ended.Stopped e) left = visited-same posted w v it b c j k has vis here filed left.1.same_journal left.1.stand left.1.stream

  pub disk-fail : w.held.device ≡ Some b.stream → (end : Failed) → FailLeft w.setup w.number it fault end b c j k → SameDisk w.seen k.entries b.stream
  disk-fail device (ended.Refused e) left =
      subst (λ (past : List Entry). SameDisk w.seen past b.stream) (sym (ap (λ (x : JournalState Q). x.entries) left.placed))
      (disk-then w.seen j.entries (failed w.number j.entries b.stream it e ∷ j.entries) b.stream (disk-held w b.stream j.entries device vis.grows)
      (disk-call w.number (suc (calls_of j.entries w.number)) (Some b.stream) it (outcome.Failed e) j.entries b.stream))
  disk-fail device ended.Told left =
      subst (λ (past : List Entry). SameDisk w.seen past b.stream) (sym (ap (λ (x : JournalState Q). x.entries) left.placed))
      (disk-then w.seen j.entries (failed w.number j.entries b.stream it fault ∷ j.entries) b.stream (disk-held w b.stream j.entries device vis.grows)
      (disk-call w.number (suc (calls_of j.entries w.number)) (Some b.stream) it (outcome.Failed fault) j.entries b.stream))
  disk-fail device (ended.Stopped e) left =
      subst (λ (past : List Entry). SameDisk w.seen past b.stream) (sym (ap (λ (x : JournalState Q). x.entries) left.1.same_journal)) (disk-held w b.stream j.entries device vis.grows)

  -- its entry begins no transfer
  begun-entry : (e : Entry) → pages_begun (e ∷ []) ≡ [] → k.entries ≡ e ∷ j.entries → BeginsNone w.number w.seen k.entries
  begun-entry e none placed =
      subst (λ (past : List Entry). BeginsNone w.number w.seen past) (sym placed)
      (none-behind w.number e w.seen j.entries none (none-idle w.number w.seen j.entries vis.idle))

  pub begun-fail : (end : Failed) → FailLeft w.setup w.number it fault end b c j k → BeginsNone w.number w.seen k.entries
  begun-fail (ended.Refused e) left = begun-entry (failed w.number j.entries b.stream it e) refl (ap (λ (x : JournalState Q). x.entries) left.placed)
  begun-fail ended.Told left = begun-entry (failed w.number j.entries b.stream it fault) refl (ap (λ (x : JournalState Q). x.entries) left.placed)
  begun-fail (ended.Stopped e) left =
      subst (λ (past : List Entry). BeginsNone w.number w.seen past) (sym (ap (λ (x : JournalState Q). x.entries) left.1.same_journal))
      (none-idle w.number w.seen j.entries vis.idle)

  -- nor does it take a page out
  stays-entry : (e : Entry) → list_any is_page_out (e ∷ []) ≡ false → k.entries ≡ e ∷ j.entries → TakesNoneOut w.number w.seen k.entries
  stays-entry e none placed =
      subst (λ (past : List Entry). TakesNoneOut w.number w.seen past) (sym placed)
      (stays-behind w.number e w.seen j.entries none (stays-idle w.number w.seen j.entries vis.idle))

  pub stays-fail : (end : Failed) → FailLeft w.setup w.number it fault end b c j k → TakesNoneOut w.number w.seen k.entries
  stays-fail (ended.Refused e) left = stays-entry (failed w.number j.entries b.stream it e) refl (ap (λ (x : JournalState Q). x.entries) left.placed)
  stays-fail ended.Told left = stays-entry (failed w.number j.entries b.stream it fault) refl (ap (λ (x : JournalState Q). x.entries) left.placed)
  stays-fail (ended.Stopped e) left =
      subst (λ (past : List Entry). TakesNoneOut w.number w.seen past) (sym (ap (λ (x : JournalState Q). x.entries) left.1.same_journal))
      (stays-idle w.number w.seen j.entries vis.idle)

  -- and nobody else changed the stream, where the pass holds its disk too
  module _ (device : w.held.device ≡ Some b.stream) where
    alone-entry : (e : CcError) → k.entries ≡ failed w.number j.entries b.stream it e ∷ j.entries → NobodyElseChanged w.number b.stream w.seen k.entries
    alone-entry e placed =
        alone-effectless w b.stream (ap (λ h. h.book) has.held) device (failed w.number j.entries b.stream it e) k.entries refl
        (record { front = j.entries; grows = vis.grows; placed = placed })

    pub alone-fail : (end : Failed) → FailLeft w.setup w.number it fault end b c j k → NobodyElseChanged w.number b.stream w.seen k.entries
    alone-fail (ended.Refused e) left = alone-entry e (ap (λ (x : JournalState Q). x.entries) left.placed)
    alone-fail ended.Told left = alone-entry fault (ap (λ (x : JournalState Q). x.entries) left.placed)
    alone-fail (ended.Stopped e) left =
        subst (λ (past : List Entry). NobodyElseChanged w.number b.stream w.seen past) (sym (ap (λ (x : JournalState Q). x.entries) left.1.same_journal))
        (alone-grows w b.stream (ap (λ h. h.book) has.held) device j.entries vis.grows)

  -- what is left of the call, from whichever moment it was under way
  module _ (begun : List Entry) (halted : IsHalted w.setup w.number b.stream it fault begun w.seen) where
    front-halted : IsHalted w.setup w.number b.stream it fault begun j.entries
    front-halted = halted-on w.setup w.number b.stream it fault begun w.seen j.entries halted vis.idle

    stopped-halted : (e : CcError) → IsStop 1 e j → CallLeft w.setup w.number it (outcome.Failed e) begun j.entries
    stopped-halted e (inl full) =
        subst (λ (x : CcError). CallLeft w.setup w.number it (outcome.Failed x) begun j.entries) (sym full.0)
        (full-halted w.setup w.number b.stream it here 0 begun j.entries filed-in fault front-halted _ stops)
    stopped-halted e (inr none) =
        subst (λ (x : CcError). CallLeft w.setup w.number it (outcome.Failed x) begun j.entries) (sym none.0)
        (memoryless-halted w.setup w.number b.stream it here 0 begun j.entries filed-in fault front-halted stops)

    pub left-fail : (end : Failed) → FailLeft w.setup w.number it fault end b c j k → CallLeft w.setup w.number it (outcome.Failed (fault_answer end fault)) begun k.entries
    left-fail (ended.Refused e) left =
        subst (λ (past : List Entry). CallLeft w.setup w.number it (outcome.Failed e) begun past) (sym (ap (λ (x : JournalState Q). x.entries) left.placed))
        (overtaken-left w.setup w.number b.stream it here (suc (calls_of j.entries w.number)) begun j.entries filed-in fault front-halted e left.reason)
    left-fail ended.Told left =
        subst (λ (past : List Entry). CallLeft w.setup w.number it (outcome.Failed fault) begun past) (sym (ap (λ (x : JournalState Q). x.entries) left.placed))
        (told-left w.setup w.number b.stream it here (suc (calls_of j.entries w.number)) begun j.entries filed-in fault front-halted listed)
    left-fail (ended.Stopped e) left =
        subst (λ (x : JournalState Q). CallLeft w.setup w.number it (outcome.Failed e) begun x.entries) (sym left.1.same_journal) (stopped-halted e left.0)

  pub full-fail : (end : Failed) → FailLeft w.setup w.number it fault end b c j k → IsFull {A = Unit {0}} 1 (without_journal k v) (Err (fault_answer end fault))
  full-fail (ended.Refused e) left = full-refused posted w v it b c j k has vis here filed (Unit {0}) 1 e left
  full-fail ended.Told left = full-fault (Unit {0}) (without_journal k v) fault is-fault
  full-fail (ended.Stopped e) left = full-stop posted w v it b c j k has vis here filed (Unit {0}) 1 e left.0 left.1.same_journal (visited-fail (ended.Stopped e) left)

  -- why it is answered so
  pub reason-fail : (end : Failed) → FailLeft w.setup w.number it fault end b c j k → IsCallReason w.setup b.stream it (fault_answer end fault)
  reason-fail (ended.Refused e) left = inr (j.entries, left.reason)
  reason-fail ended.Told left = inl (met-fault fault is-fault)
  reason-fail (ended.Stopped e) left = inl (met-stop e left.0)
    where
      met-stop : (x : CcError) → IsStop 1 x j → is_met x ≡ true
      met-stop x (inl full) = ap is_met full.0
      met-stop x (inr none) = ap is_met none.0
