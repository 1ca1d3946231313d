-- What the call is told that asks for the dirty page table of a log, and what it leaves of a journal in hand.
use Rattle.std.specs.Prelude.{◌≡◌, ℕ, ◌-◌, ◌<◌, ◌≤◌, true, false, nat_le, List, [], ◌∷◌, Ok, Err, None, Some, refl}
use Rattle.std.proofs.Common.{ap, sym, ◌∙◌, subst, arith, inr}
use Rattle.std.proofs.lemmas.Bool.{le-leb, lt-leb}
use Rattle.cc_entry.specs.declared.call.Call.TheVariants as call
use Rattle.cc_entry.specs.declared.query.Query.TheVariants as query
use Rattle.cc_entry.specs.declared.entry.Entry.{Entry}
use Rattle.cc_entry.specs.declared.error.CcError.{CcError}
use Rattle.cc_entry.specs.declared.error.CcError.TheVariants as error
use Rattle.cc_entry.specs.declared.place.DirtyRow.{DirtyRow}
use Rattle.cc_entry.specs.declared.reply.Outcome.{Outcome}
use Rattle.cc_entry.specs.declared.reply.Outcome.TheVariants as outcome
use Rattle.cc_entry.specs.declared.reply.Reply.TheVariants as reply
use Rattle.cc_entry.specs.declared.query.Value.TheVariants as value
use Rattle.cc_journal.specs.Journal.{JournalState, MayBePushed}
use Rattle.cc_laws.proofs.HistorySteps.{history-no_effect}
use Rattle.cc_model.specs.Cache.{all_streams, dirty_count, dirty_total, is_any_dirty}
use Rattle.cc_model.specs.Good.{IsGood}
use Rattle.cc_model.specs.History.{history}
use Rattle.cc_model.specs.Legal.{IsOutcome}
use Rattle.cc_model.specs.Refusals.{refusal}
use Rattle.cc_model.specs.Setup.{Setup}
use Rattle.cc_model.specs.Stamps.{dirty_table}
use Rattle.cc_model.specs.Touches.{is_dirty}
use Rattle.cc_model.specs.Room.{reserved_in}
use Rattle.cc_step.specs.Step.{AddsOwing}
use Rattle.cc_step.proofs.Reserved.{sum-same}
use Rattle.cc_calls.specs.Answers.{rows_outcome}
use Rattle.cc_calls.specs.Streamless.{PlacesStreamless, StreamlessLeft, TableOf, streamless}
use Rattle.cc_calls.proofs.Dirty.{dirty-outcome}
use Rattle.cc_calls.proofs.Streamless.{adds-owing, given-back, pushed-streamless, reserving, stopped-answer}

-- it is refused where there is no such log, and for nothing else
log-there : (u : Setup) (past : List Entry) (handle : ℕ) → nat_le u.logs handle ≡ false → refusal u past [] (call.Query (query.DirtyPages handle)) ≡ None
unfolding refusal
log-there u past handle there = rw there refl

log-missing : (u : Setup) (past : List Entry) (handle : ℕ) → nat_le u.logs handle ≡ true → refusal u past [] (call.Query (query.DirtyPages handle)) ≡ Some (error.NoLog handle)
unfolding refusal
log-missing u past handle missing = rw missing refl

table-outcome : (u : Setup) (past : List Entry) (pass handle : ℕ) (rows : List DirtyRow) → handle < u.logs → rows ≡ dirty_table past handle → IsOutcome u past pass None (call.Query (query.DirtyPages handle)) (outcome.Done (reply.Rows rows))
table-outcome u past pass handle rows known is = (log-there u past handle (lt-leb u.logs handle known), ap reply.Rows is)

no-log-outcome : (u : Setup) (past : List Entry) (pass handle missing : ℕ) → missing ≡ handle → u.logs ≤ handle → IsOutcome u past pass None (call.Query (query.DirtyPages handle)) (outcome.Failed (error.NoLog missing))
no-log-outcome u past pass handle missing is most =
    log-missing u past handle (le-leb u.logs handle most) ∙ ap (λ (n : ℕ). Some (error.NoLog n)) (sym is)

-- Its entry changes no history, so that it may be pushed whatever it says.
same-history : (pass handle : ℕ) (ended : Outcome) (past : List Entry) (s : ℕ) → history (streamless pass past (call.Query (query.DirtyPages handle)) ended ∷ past) s ≡ history past s
same-history pass handle ended past s = history-no_effect (streamless pass past (call.Query (query.DirtyPages handle)) ended) past s refl

same-total : (e : Entry) (past : List Entry) → ((s : ℕ) → history (e ∷ past) s ≡ history past s) → dirty_total (e ∷ past) ≡ dirty_total past
unfolding dirty_total
same-total e past same = sum-same (λ s. dirty_count (history (e ∷ past) s)) (λ s. dirty_count (history past s)) all_streams (λ s. ap dirty_count (same s))

pub pushed-table : (u : Setup) (past : List Entry) (pass handle : ℕ) (ended : Outcome) → IsGood u past → MayBePushed past (streamless pass past (call.Query (query.DirtyPages handle)) ended)
pushed-table u past pass handle ended good = record {
  transfers = λ s. tt;
  numbered = λ s p dirty. other.numbered s p (subst (λ h. is_dirty h p ≡ true) (same-history pass handle ended past s ∙ sym (asked-history s)) dirty);
  few = subst (λ (n : ℕ). n ≤ 16384) (same-total asked past asked-history ∙ sym (same-total (streamless pass past (call.Query (query.DirtyPages handle)) ended) past (same-history pass handle ended past))) other.few;
}
  where
    -- the question whether a page is dirty may be pushed too
    told : Outcome
    told = outcome.Done (reply.Value (value.Flag (is_any_dirty past)))

    asked : Entry
    asked = streamless pass past (call.Query query.IsDirtyData) told

    asked-history : (s : ℕ) → history (asked ∷ past) s ≡ history past s
    asked-history s = history-no_effect asked past s refl

    other : MayBePushed past asked
    other = pushed-streamless u past pass (call.Query query.IsDirtyData) told refl (dirty-outcome u past pass (is_any_dirty past) refl) good

-- otherwise there was no memory
table-none : (logs handle : ℕ) (past : List Entry) (e : CcError) → ((n : ℕ) → e ≡ error.NoLog n → ⊥) → TableOf logs handle past (Err e) → e ≡ error.NoMemory
table-none logs handle past (error.NoLog n) other found = absurd (other n refl)
table-none logs handle past e other found = found

-- What was placed where a place was reserved.
module _ {Q : Type 0} (pass handle : ℕ) (j between k : JournalState Q) (same : between ≡ reserving j) (within : reserved_in j.entries ≤ j.reserved) where
  placed-adds : (ended : Outcome) → PlacesStreamless pass (call.Query (query.DirtyPages handle)) ended between k → AddsOwing (streamless pass j.entries (call.Query (query.DirtyPages handle)) ended) j k
  placed-adds ended placed =
      adds-owing pass (call.Query (query.DirtyPages handle)) ended j k refl within (subst (λ (x : JournalState Q). PlacesStreamless pass (call.Query (query.DirtyPages handle)) ended x k) same placed)

  pub table-told : (rows told : List DirtyRow) → TableOf between.logs handle between.entries (Ok (rows, told)) → PlacesStreamless pass (call.Query (query.DirtyPages handle)) (outcome.Done (reply.Rows rows)) between k → StreamlessLeft rows_outcome pass (call.Query (query.DirtyPages handle)) (Ok told) j k
  table-told rows told found placed =
      let here : TableOf j.logs handle j.entries (Ok (rows, told)) = subst (λ (x : JournalState Q). TableOf x.logs handle x.entries (Ok (rows, told))) same found in
      record {
        is = λ u logs. table-outcome u j.entries pass handle told (rw logs here.0) here.2;
        placed = subst (λ (l : List DirtyRow). AddsOwing (streamless pass j.entries (call.Query (query.DirtyPages handle)) (outcome.Done (reply.Rows l))) j k) (here.1 ∙ sym here.2)
            (placed-adds (outcome.Done (reply.Rows rows)) placed);
      }

  pub table-refused : (missing : ℕ) → TableOf between.logs handle between.entries (Err (error.NoLog missing)) → PlacesStreamless pass (call.Query (query.DirtyPages handle)) (outcome.Failed (error.NoLog missing)) between k → StreamlessLeft rows_outcome pass (call.Query (query.DirtyPages handle)) (Err (error.NoLog missing)) j k
  table-refused missing found placed =
      let here : TableOf j.logs handle j.entries (Err (error.NoLog missing)) = subst (λ (x : JournalState Q). TableOf x.logs handle x.entries (Err (error.NoLog missing))) same found in
      record {
        is = λ u logs. no-log-outcome u j.entries pass handle missing here.0 (rw logs here.1);
        placed = placed-adds (outcome.Failed (error.NoLog missing)) placed;
      }

  -- or the place was given back, and nothing changed
  pub table-stopped : (e : CcError) → ((n : ℕ) → e ≡ error.NoLog n → ⊥) → TableOf between.logs handle between.entries (Err e) → k ≡ record between { reserved = between.reserved - 1 } → StreamlessLeft rows_outcome pass (call.Query (query.DirtyPages handle)) (Err e) j k
  table-stopped e other found given =
      stopped-answer rows_outcome pass (call.Query (query.DirtyPages handle)) e j k
      (inr (table-none between.logs handle between.entries e other found, omega arith)) (given-back j between k same given)
