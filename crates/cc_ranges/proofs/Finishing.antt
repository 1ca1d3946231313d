-- The end of a flush that has synced, in a visit.
use Rattle.std.specs.Prelude.{◌≡◌, ℕ, suc, Bool, List, ◌∷◌, Some, refl}
use Rattle.std.specs.declared.option.Option.{Option}
use Rattle.std.proofs.Common.{ap, sym, subst, inl, inr}
use Rattle.cc_entry.specs.Place.{File, Range}
use Rattle.cc_entry.specs.declared.call.Call.{Call}
use Rattle.cc_entry.specs.declared.call.Call.TheVariants as call
use Rattle.cc_entry.specs.declared.entry.Entry.{Entry}
use Rattle.cc_entry.specs.declared.entry.Entry.TheVariants as entry
use Rattle.cc_entry.specs.declared.error.CcError.{CcError}
use Rattle.cc_entry.specs.declared.reply.Outcome.TheVariants as outcome
use Rattle.cc_entry.specs.declared.reply.Reply.TheVariants as reply
use Rattle.cc_book.specs.Book.{BookState, done, failed}
use Rattle.cc_effects.specs.Calls.{CallLeft}
use Rattle.cc_journal.specs.Journal.{JournalState}
use Rattle.cc_model.specs.History.{history}
use Rattle.cc_model.specs.Holds.{holds_of}
use Rattle.cc_model.specs.Passes.{calls_of}
use Rattle.cc_model.specs.Setup.{Setup}
use Rattle.cc_step.specs.Step.{IsStop}
use Rattle.cc_turns.specs.Standing.{Standing}
use Rattle.cc_turns.specs.Takes.{without_journal}
use Rattle.cc_effects.specs.Begins.{BeginsNone}
use Rattle.cc_writes.specs.Hands.{HasBook, IsAtRest, SameDisk}
use Rattle.cc_writes.specs.Visits.{IsFiledNow}
use Rattle.cc_writes.specs.Ways.{IsFull}
use Rattle.cc_writes.proofs.Attempting.{number-is, may-as, visited-done, visited-refused, visited-same, full-refused, full-stop}
use Rattle.cc_effects.proofs.Begun.{none-behind, none-idle}
use Rattle.cc_writes.proofs.VisitDisks.{disk-same, disk-call}
use Rattle.cc_writes.proofs.VisitStepping.{disk-grew}
use Rattle.cc_writes.proofs.Visiting.{Visiting, Visited}
use Rattle.cc_ranges.specs.Flush.{FlushHasSynced, flush_answer, outcome_of}
use Rattle.cc_ranges.specs.FlushSteps.{FlushMayFinish, FlushFinishLeft}
use Rattle.cc_ranges.specs.declared.flush_steps.FlushEnd.{FlushEnd}
use Rattle.cc_ranges.specs.declared.flush_steps.FlushEnd.TheVariants as finished
use Rattle.cc_ranges.proofs.FlushNexting.{flush-filed}
use Rattle.cc_ranges.proofs.Synced.{synced-on, flushed-synced, left-done, left-refused, left-full, left-memoryless}

module _ {Q : Type 0} (posted : Q → Bool) (w v : Standing) (file : File) (span : Option Range) (b c : BookState) (j k : JournalState Q)
    (has : HasBook w b.stream b) (vis : Visiting posted w v b.stream b j) (here : b.stream ≡ file.stream) (rest : IsAtRest w b.stream) where
  abbrev it : Call
  it = call.Flush file span

  filed : IsFiledNow w b.stream it
  filed = flush-filed file span b.stream here (holds_of (history w.seen b.stream)) w.number

  -- it has synced, since a moment
  module _ (begun : List Entry) (is : FlushHasSynced w.number file span begun w.seen) where
    on : FlushHasSynced w.number file span begun j.entries
    on = synced-on w.setup w.number file span begun w.seen j.entries is vis.idle

    pub may-finish : (pass : ℕ) → pass ≡ v.number → FlushMayFinish w.setup pass file span b j
    may-finish pass me = record {
      may = may-as posted w v it b c j k has vis refl filed pass me;
      flushed = rw (number-is posted w v it b c j k has vis refl filed pass me, here) (flushed-synced w.setup w.number file span begun j.entries on);
    }

    pub finished-so : (pass : ℕ) (ended : FlushEnd) → pass ≡ v.number → ((u : Setup) → FlushMayFinish u pass file span b j → FlushFinishLeft u pass file span ended b c j k) → FlushFinishLeft w.setup w.number file span ended b c j k
    finished-so pass ended me left =
        subst (λ (n : ℕ). FlushFinishLeft w.setup n file span ended b c j k) (number-is posted w v it b c j k has vis refl filed pass me) (left w.setup (may-finish pass me))

    left-stopped : (e : CcError) → IsStop 1 e j → CallLeft w.setup w.number it (outcome.Failed e) begun j.entries
    left-stopped e (inl full) =
        subst (λ (x : CcError). CallLeft w.setup w.number it (outcome.Failed x) begun j.entries) (sym full.0)
        (left-full w.setup w.number file span begun 0 j.entries on _)
    left-stopped e (inr none) =
        subst (λ (x : CcError). CallLeft w.setup w.number it (outcome.Failed x) begun j.entries) (sym none.0)
        (left-memoryless w.setup w.number file span begun 0 j.entries on)

    pub left-finish : (ended : FlushEnd) → FlushFinishLeft w.setup w.number file span ended b c j k → CallLeft w.setup w.number it (outcome_of (flush_answer ended)) begun k.entries
    left-finish finished.Done left =
        subst (λ (past : List Entry). CallLeft w.setup w.number it (outcome.Done reply.Unit) begun past) (sym (ap (λ (x : JournalState Q). x.entries) left.placed))
        (subst (λ (n : ℕ). CallLeft w.setup w.number it (outcome.Done reply.Unit) begun (entry.Call w.number (suc (calls_of j.entries w.number)) (Some n) it (outcome.Done reply.Unit) ∷ j.entries)) (sym here)
        (left-done w.setup w.number file span begun (suc (calls_of j.entries w.number)) j.entries on))
    left-finish (finished.Refused e) left =
        subst (λ (past : List Entry). CallLeft w.setup w.number it (outcome.Failed e) begun past) (sym (ap (λ (x : JournalState Q). x.entries) left.placed))
        (subst (λ (n : ℕ). CallLeft w.setup w.number it (outcome.Failed e) begun (entry.Call w.number (suc (calls_of j.entries w.number)) (Some n) it (outcome.Failed e) ∷ j.entries)) (sym here)
        (left-refused w.setup w.number file span begun (suc (calls_of j.entries w.number)) j.entries on e (rw here at left.reason)))
    left-finish (finished.Stopped e) left =
        subst (λ (x : JournalState Q). CallLeft w.setup w.number it (outcome.Failed e) begun x.entries) (sym left.1.same_journal) (left-stopped e left.0)

  pub visited-finish : (ended : FlushEnd) → FlushFinishLeft w.setup w.number file span ended b c j k → Visited posted w v b.stream w.in_flight c k
  visited-finish finished.Done left = visited-done posted w v it b c j k has vis refl filed refl reply.Unit left
  visited-finish (finished.Refused e) left = visited-refused posted w v it b c j k has vis refl filed e left
  visited-finish (finished.Stopped e) left = visited-same posted w v it b c j k has vis refl filed left.1.same_journal left.1.stand left.1.stream

  pub disk-finish : (ended : FlushEnd) → FlushFinishLeft w.setup w.number file span ended b c j k → SameDisk w.seen k.entries b.stream
  disk-finish finished.Done left =
      disk-grew posted w v it b c j k has vis refl filed rest _ (disk-call w.number (suc (calls_of j.entries w.number)) (Some b.stream) it (outcome.Done reply.Unit) j.entries b.stream) (ap (λ (x : JournalState Q). x.entries) left.placed)
  disk-finish (finished.Refused e) left =
      disk-grew posted w v it b c j k has vis refl filed rest _ (disk-call w.number (suc (calls_of j.entries w.number)) (Some b.stream) it (outcome.Failed e) j.entries b.stream) (ap (λ (x : JournalState Q). x.entries) left.placed)
  disk-finish (finished.Stopped e) left =
      disk-grew posted w v it b c j k has vis refl filed rest j.entries (disk-same j.entries b.stream) (ap (λ (x : JournalState Q). x.entries) left.1.same_journal)

  -- its entry begins no transfer
  pub begun-finish : (ended : FlushEnd) → FlushFinishLeft w.setup w.number file span ended b c j k → BeginsNone w.number w.seen k.entries
  begun-finish finished.Done left =
      subst (λ (past : List Entry). BeginsNone w.number w.seen past) (sym (ap (λ (x : JournalState Q). x.entries) left.placed))
      (none-behind w.number (done w.number j.entries b.stream it reply.Unit) w.seen j.entries refl (none-idle w.number w.seen j.entries vis.idle))
  begun-finish (finished.Refused e) left =
      subst (λ (past : List Entry). BeginsNone w.number w.seen past) (sym (ap (λ (x : JournalState Q). x.entries) left.placed))
      (none-behind w.number (failed w.number j.entries b.stream it e) w.seen j.entries refl (none-idle w.number w.seen j.entries vis.idle))
  begun-finish (finished.Stopped e) left =
      subst (λ (past : List Entry). BeginsNone w.number w.seen past) (sym (ap (λ (x : JournalState Q). x.entries) left.1.same_journal))
      (none-idle w.number w.seen j.entries vis.idle)

  pub full-finish : (ended : FlushEnd) → FlushFinishLeft w.setup w.number file span ended b c j k → IsFull 1 (without_journal k v) (flush_answer ended)
  full-finish finished.Done left = tt
  full-finish (finished.Refused e) left = full-refused posted w v it b c j k has vis refl filed (Unit {0}) 1 e left
  full-finish (finished.Stopped e) left = full-stop posted w v it b c j k has vis refl filed (Unit {0}) 1 e left.0 left.1.same_journal (visited-finish (finished.Stopped e) left)
