-- The next step of a flush, in a visit with the stream's disk in hand.
use Rattle.std.specs.Prelude.{◌≡◌, ℕ, suc, ◌+◌, ◌≤◌, Bool, List, [], Some, refl}
use Rattle.std.specs.declared.option.Option.{Option}
use Rattle.std.proofs.Common.{ap, sym, ◌∙◌, subst, arith}
use Rattle.cc_entry.specs.Place.{File, Range}
use Rattle.cc_entry.specs.declared.call.Call.{Call}
use Rattle.cc_entry.specs.declared.call.Call.TheVariants as call
use Rattle.cc_entry.specs.declared.entry.Entry.{Entry}
use Rattle.cc_entry.specs.declared.reply.Outcome.TheVariants as outcome
use Rattle.cc_book.specs.Book.{BookState, failed}
use Rattle.cc_journal.specs.Journal.{JournalState}
use Rattle.cc_model.specs.History.{history}
use Rattle.cc_model.specs.Holds.{holds_of}
use Rattle.cc_model.specs.Passes.{calls_of}
use Rattle.cc_model.specs.Setup.{Setup}
use Rattle.cc_step.specs.Step.{StandUnder, MayStep}
use Rattle.cc_turns.specs.Standing.{Standing}
use Rattle.cc_turns.specs.Takes.{without_journal}
use Rattle.cc_effects.specs.Begins.{BeginsNone}
use Rattle.cc_writes.specs.Hands.{HasBook, IsAtRest, SameDisk, WentWith}
use Rattle.cc_writes.specs.Visits.{IsFiledNow, CallIsOfStream}
use Rattle.cc_writes.proofs.Attempting.{number-is, may-as, visited-refused, visited-same, left-refused, left-stopped, full-refused, full-stop}
use Rattle.cc_effects.proofs.Begun.{none-behind, none-idle}
use Rattle.cc_writes.proofs.VisitDisks.{disk-same, disk-call}
use Rattle.cc_writes.proofs.Placing.{stepping-none}
use Rattle.cc_writes.proofs.Refusals.{stops-free}
use Rattle.cc_writes.proofs.VisitStepping.{disk-grew}
use Rattle.cc_writes.proofs.Visiting.{Visiting, Visited, visited}
use Rattle.cc_ranges.specs.Dirty.{IsNext, IsCleanFrom}
use Rattle.cc_ranges.specs.Flush.{IsFlushing, FlushIsAtPage, IsAtSync, FlushStepLeft, FlushStepWent, IsFullFlushStep, FlushStepAscends, flush_step_of}
use Rattle.cc_ranges.specs.FlushSteps.{FlushNextLeft, FlushHasToWrite, HasToSync, FlushPageIsNumbered}
use Rattle.cc_ranges.specs.declared.flush_steps.FlushNext.{FlushNext}
use Rattle.cc_ranges.specs.declared.flush_steps.FlushNext.TheVariants as next
use Rattle.cc_ranges.proofs.Going.{flushing-on, at-page, at-sync}

-- a flush is filed under the stream of its file
pub flush-filed : (file : File) (span : Option Range) (s : ℕ) → s ≡ file.stream → CallIsOfStream (call.Flush file span) s
flush-filed file span s here holds pass = ap Some here

module _ {Q : Type 0} (posted : Q → Bool) (w v : Standing) (file : File) (span : Option Range) (from : ℕ) (b c : BookState) (j k : JournalState Q)
    (has : HasBook w b.stream b) (vis : Visiting posted w v b.stream b j) (here : b.stream ≡ file.stream) (rest : IsAtRest w b.stream) where
  abbrev it : Call
  it = call.Flush file span

  filed : IsFiledNow w b.stream it
  filed = flush-filed file span b.stream here (holds_of (history w.seen b.stream)) w.number

  pub may-next : (pass : ℕ) → pass ≡ v.number → MayStep w.setup pass it b j
  may-next pass me = may-as posted w v it b c j k has vis refl filed pass me

  pub gone-on : (pass : ℕ) (ended : FlushNext) → pass ≡ v.number → ((u : Setup) → MayStep u pass it b j → FlushNextLeft u pass file span from ended b c j k) → FlushNextLeft w.setup w.number file span from ended b c j k
  gone-on pass ended me left =
      subst (λ (n : ℕ). FlushNextLeft w.setup n file span from ended b c j k) (number-is posted w v it b c j k has vis refl filed pass me) (left w.setup (may-next pass me))

  -- so many places are under way after it
  abbrev pub flight_after : FlushNext → ℕ
  flight_after next.Syncs = suc w.in_flight
  flight_after other = w.in_flight

  pub few-after : w.in_flight ≡ 0 → (ended : FlushNext) → flight_after ended ≤ 1
  few-after none next.Syncs = omega (arith, none)
  few-after none (next.Refused e) = omega (arith, none)
  few-after none (next.Writes page) = omega (arith, none)
  few-after none (next.Stopped e) = omega (arith, none)

  stand-same : c ≡ b → k ≡ j → StandUnder w.setup c k
  stand-same book journal = subst (λ (x : BookState). StandUnder w.setup x k) (sym book) (subst (λ (x : JournalState Q). StandUnder w.setup b x) (sym journal) vis.stand)

  visited-sync : HasToSync w.setup file span from b c j k → Visited posted w v b.stream (suc w.in_flight) c k
  visited-sync left =
      visited posted w v b.stream (suc w.in_flight) [] b c j k has vis
      (stepping-none posted w v b c j k has vis (suc w.in_flight) (left.reserved ∙ ap (λ (n : ℕ). record j { reserved = n }) (sym places))
      (subst (λ (x : BookState). StandUnder w.setup x k) (sym left.same_book) (subst (λ (x : JournalState Q). StandUnder w.setup b x) (sym left.reserved) stand))
      (ap (λ (x : BookState). x.stream) left.same_book) (count k.reserved j.reserved w.in_flight places))
    where
      places : k.reserved ≡ j.reserved + 1
      places = ap (λ (x : JournalState Q). x.reserved) left.reserved

      stand : StandUnder w.setup b (record j { reserved = j.reserved + 1 })
      stand = record { good = vis.stand.good; stands = vis.stand.stands; logs_are = vis.stand.logs_are; threshold_is = vis.stand.threshold_is }

      count : (now was flight : ℕ) → now ≡ was + 1 → now + flight ≡ was + suc flight
      count now was flight more = omega (arith, more)

  pub visited-next : (ended : FlushNext) → FlushNextLeft w.setup w.number file span from ended b c j k → Visited posted w v b.stream (flight_after ended) c k
  visited-next (next.Refused e) left = visited-refused posted w v it b c j k has vis refl filed e left
  visited-next (next.Writes page) left =
      visited-same posted w v it b c j k has vis refl filed left.same_journal (stand-same left.same_book left.same_journal) (ap (λ (x : BookState). x.stream) left.same_book)
  visited-next next.Syncs left = visited-sync left
  visited-next (next.Stopped e) left = visited-same posted w v it b c j k has vis refl filed left.1.same_journal left.1.stand left.1.stream

  pub disk-next : (ended : FlushNext) → FlushNextLeft w.setup w.number file span from ended b c j k → SameDisk w.seen k.entries b.stream
  disk-next (next.Refused e) left =
      disk-grew posted w v it b c j k has vis refl filed rest _ (disk-call w.number (suc (calls_of j.entries w.number)) (Some b.stream) it (outcome.Failed e) j.entries b.stream) (ap (λ (x : JournalState Q). x.entries) left.placed)
  disk-next (next.Writes page) left = disk-grew posted w v it b c j k has vis refl filed rest j.entries (disk-same j.entries b.stream) (ap (λ (x : JournalState Q). x.entries) left.same_journal)
  disk-next next.Syncs left = disk-grew posted w v it b c j k has vis refl filed rest j.entries (disk-same j.entries b.stream) (ap (λ (x : JournalState Q). x.entries) left.reserved)
  disk-next (next.Stopped e) left = disk-grew posted w v it b c j k has vis refl filed rest j.entries (disk-same j.entries b.stream) (ap (λ (x : JournalState Q). x.entries) left.1.same_journal)

  -- it begins no transfer
  begun-same : k.entries ≡ j.entries → BeginsNone w.number w.seen k.entries
  begun-same same = subst (λ (past : List Entry). BeginsNone w.number w.seen past) (sym same) (none-idle w.number w.seen j.entries vis.idle)

  pub begun-next : (ended : FlushNext) → FlushNextLeft w.setup w.number file span from ended b c j k → BeginsNone w.number w.seen k.entries
  begun-next (next.Refused e) left =
      subst (λ (past : List Entry). BeginsNone w.number w.seen past) (sym (ap (λ (x : JournalState Q). x.entries) left.placed))
      (none-behind w.number (failed w.number j.entries b.stream it e) w.seen j.entries refl (none-idle w.number w.seen j.entries vis.idle))
  begun-next (next.Writes page) left = begun-same (ap (λ (x : JournalState Q). x.entries) left.same_journal)
  begun-next next.Syncs left = begun-same (ap (λ (x : JournalState Q). x.entries) left.reserved)
  begun-next (next.Stopped e) left = begun-same (ap (λ (x : JournalState Q). x.entries) left.1.same_journal)

  -- how the pass goes on
  pub went-next : w.in_flight ≡ 0 → (ended : FlushNext) → FlushNextLeft w.setup w.number file span from ended b c j k → FlushStepWent (flush_step_of ended) w (without_journal k v)
  went-next none (next.Refused e) left = (visited-next (next.Refused e) left).went
  went-next none (next.Writes page) left = (visited-next (next.Writes page) left).went
  went-next none next.Syncs left = subst (λ (n : ℕ). WentWith (suc n) w (without_journal k v)) none (visited-next next.Syncs left).went
  went-next none (next.Stopped e) left = (visited-next (next.Stopped e) left).went

  -- and what is left of the flush
  module _ (begun : List Entry) (is : IsFlushing w.number file span from begun w.seen) where
    on : IsFlushing w.number file span from begun j.entries
    on = flushing-on w.number file span begun from w.seen j.entries is vis.idle

    left-write : (page : ℕ) → FlushHasToWrite w.setup file span from page b c j k → FlushIsAtPage w.setup w.number file span page begun k.entries
    left-write page left =
        subst (λ (x : JournalState Q). FlushIsAtPage w.setup w.number file span page begun x.entries) (sym left.same_journal)
        (at-page w.number file span begun w.setup from page j.entries on
        (rw here at left.admitted)
        (subst (λ (n : ℕ). IsNext (history j.entries n) span from page) here left.next)
        (rw here at left.stamped))

    left-sync : HasToSync w.setup file span from b c j k → IsAtSync w.setup w.number file span begun k.entries
    left-sync left =
        subst (λ (x : JournalState Q). IsAtSync w.setup w.number file span begun x.entries) (sym left.reserved)
        (at-sync w.number file span begun w.setup from j.entries on
        (rw here at left.admitted)
        (subst (λ (n : ℕ). IsCleanFrom (history j.entries n) span from) here left.clean))

    pub left-next : (ended : FlushNext) → FlushNextLeft w.setup w.number file span from ended b c j k → FlushStepLeft w.setup w.number file span (flush_step_of ended) begun k.entries
    left-next (next.Refused e) left = left-refused posted w v it b c j k has vis refl filed begun is.way e left
    left-next (next.Writes page) left = left-write page left
    left-next next.Syncs left = left-sync left
    left-next (next.Stopped e) left = left-stopped posted w v it b c j k has vis refl filed begun is.way 1 e (stops-free it j.entries refl refl) left.0 left.1.same_journal

  pub ascending : (ended : FlushNext) → FlushPageIsNumbered ended → FlushNextLeft w.setup w.number file span from ended b c j k → FlushStepAscends (flush_step_of ended) from
  ascending (next.Refused e) numbered left = tt
  ascending (next.Writes page) numbered left = (left.next.from_is, numbered)
  ascending next.Syncs numbered left = tt
  ascending (next.Stopped e) numbered left = tt

  pub full-next : (ended : FlushNext) → FlushNextLeft w.setup w.number file span from ended b c j k → IsFullFlushStep (without_journal k v) (flush_step_of ended)
  full-next (next.Refused e) left = full-refused posted w v it b c j k has vis refl filed (Unit {0}) 1 e left
  full-next (next.Writes page) left = tt
  full-next next.Syncs left = tt
  full-next (next.Stopped e) left = full-stop posted w v it b c j k has vis refl filed (Unit {0}) 1 e left.0 left.1.same_journal (visited-next (next.Stopped e) left)
