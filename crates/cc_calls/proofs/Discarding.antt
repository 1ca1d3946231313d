-- A discard on its book, for whose entry a place is reserved: it is refused, or done, and what that leaves.
use Rattle.std.specs.Prelude.{◌≡◌, ℕ, suc, ◌+◌, ◌-◌, ◌<◌, ◌≤◌, ◌⊎◌, ◌==◌, Bool, true, false, List, ◌∷◌, length, None, Some, Ok, Err, Result, refl}
use Rattle.std.specs.declared.option.Option.{Option}
use Rattle.std.proofs.Common.{ap, sym, ◌∙◌, subst, arith, inl, inr}
use Rattle.std.specs.Bool.{OnTrue}
use Rattle.cc_entry.specs.Place.{File, Range}
use Rattle.cc_entry.specs.declared.call.Call.{Call}
use Rattle.cc_entry.specs.declared.call.Call.TheVariants as call
use Rattle.cc_entry.specs.declared.entry.Entry.{Entry}
use Rattle.cc_entry.specs.declared.entry.Entry.TheVariants as entry
use Rattle.cc_entry.specs.declared.error.CcError.{CcError}
use Rattle.cc_entry.specs.declared.error.CcError.TheVariants as error
use Rattle.cc_entry.specs.declared.reply.Outcome.{Outcome}
use Rattle.cc_entry.specs.declared.reply.Outcome.TheVariants as outcome
use Rattle.cc_entry.specs.declared.reply.Reply.TheVariants as reply
use Rattle.cc_book.specs.Book.{BookState, BookStands, Gains, GoesOn, MayDoOnBook, MayPlaceOnBook, done, failed}
use Rattle.cc_journal.specs.Calls.{owed_end}
use Rattle.cc_journal.specs.Journal.{JournalState, room_of}
use Rattle.cc_laws.proofs.HistorySteps.{history-done, history-no_effect}
use Rattle.cc_laws.proofs.HoldSteps.{holds_of-other}
use Rattle.cc_laws.proofs.ImageSteps.{open_of-done}
use Rattle.cc_model.specs.Acts.{file_of}
use Rattle.cc_model.specs.Allowed.{IsAllowed, IsAllowedSoFar, is_fault}
use Rattle.cc_model.specs.Cache.{all_streams}
use Rattle.cc_model.specs.Covered.{IsCovered, IsCoveredEntry}
use Rattle.cc_model.specs.Filing.{IsFiled}
use Rattle.cc_model.specs.Good.{IsGood}
use Rattle.cc_model.specs.History.{history}
use Rattle.cc_model.specs.Holds.{holds_of}
use Rattle.cc_model.specs.Images.{open_of}
use Rattle.cc_model.specs.Legal.{IsFailure, IsLegal, IsLegalEntry}
use Rattle.cc_model.specs.Passes.{calls_of}
use Rattle.cc_model.specs.Refusals.{refusal}
use Rattle.cc_model.specs.Room.{owed_by_stream, reserved_in}
use Rattle.cc_model.specs.Setup.{Setup}
use Rattle.cc_step.specs.Fill.{MayFill}
use Rattle.cc_step.specs.Step.{AddsOwing, AttemptRefused, FoundNone, StandUnder}
use Rattle.cc_step.proofs.Attempts.{forgoing, forgone-within, reserving}
use Rattle.cc_step.proofs.Placed.{so-far}
use Rattle.cc_step.proofs.Reserved.{stores-call, sum-same}
use Rattle.cc_ranges.specs.FlushSteps.{without_one}
use Rattle.cc_ranges.proofs.FlushStepping.{more-less, nothing_owed, one_asked}
use Rattle.cc_calls.specs.Discards.{IsDiscardReason, DiscardStepLeft}
use Rattle.cc_calls.proofs.Dropped.{reason-of}

-- ---- the journal stays good

-- a reason of a discard is its failure
failure : (u : Setup) (past : List Entry) (pass s : ℕ) (file : File) (span : Option Range) (e : CcError) → IsDiscardReason (history past s) file span e → refusal u past (history past s) (call.Discard file span) ≡ Some e → IsFailure u past pass (Some s) (call.Discard file span) e
failure u past pass s file span error.NotCached reason is = is
failure u past pass s file span (error.Held id) reason is = is
failure u past pass s file span (error.Unsettled page) reason is = is
failure u past pass s file span (error.Grown page) reason is = is
failure u past pass s file span other reason is = absurd reason

no_fault : (past : List Entry) (s : ℕ) (file : File) (span : Option Range) (e : CcError) (P : Type 0) → IsDiscardReason (history past s) file span e → OnTrue (is_fault e) P
no_fault past s file span error.NotCached P reason = tt
no_fault past s file span (error.Held id) P reason = tt
no_fault past s file span (error.Unsettled page) P reason = tt
no_fault past s file span (error.Grown page) P reason = tt
no_fault past s file span other P reason = absurd reason

module _ (u : Setup) (past : List Entry) (pass s : ℕ) (file : File) (span : Option Range) (good : IsGood u past)
    (filed : IsFiled (holds_of (history past s)) pass (Some s) (call.Discard file span) (file_of (call.Discard file span))) where
  -- with the entry of a discard that nothing refuses, while no transfer is under way
  good-discarded : refusal u past (history past s) (call.Discard file span) ≡ None → open_of (history past s) ≡ None → IsGood u (done pass past s (call.Discard file span) reply.Unit ∷ past)
  unfolding IsLegal IsLegalEntry IsAllowed IsAllowedSoFar IsCovered IsCoveredEntry
  good-discarded admitted rest = record {
    legal = ((admitted, refl), good.legal);
    allowed = ((nothing_owed _ past good.allowed.1, record { number = refl; filed = filed; may_end = (tt, rest) }, good.allowed.0), refl);
    covered = (tt, good.covered);
  }

  -- and with that of one that is refused
  good-refused : (e : CcError) → refusal u past (history past s) (call.Discard file span) ≡ Some e → IsGood u (failed pass past s (call.Discard file span) e ∷ past)
  unfolding IsLegal IsLegalEntry IsAllowed IsAllowedSoFar IsCovered IsCoveredEntry
  good-refused e is =
      let reason = reason-of u past (history past s) file span e is in
      record {
        legal = (failure u past pass s file span e reason is, good.legal);
        allowed = ((nothing_owed _ past good.allowed.1, record { number = refl; filed = filed; may_end = no_fault past s file span e _ reason }, good.allowed.0), refl);
        covered = (tt, good.covered);
      }

-- ---- what the past owes

-- a stream owes what it owed
owed-same : (past : List Entry) (pass nth stream s : ℕ) (file : File) (span : Option Range) (ended : Outcome) → owed_by_stream (history (entry.Call pass nth (Some stream) (call.Discard file span) ended ∷ past) s) ≡ owed_by_stream (history past s)
owed-same past pass nth stream s file span (outcome.Done r) = go (stream == s) refl
  where
    go : (b : Bool) → (stream == s) ≡ b → owed_by_stream (history (entry.Call pass nth (Some stream) (call.Discard file span) (outcome.Done r) ∷ past) s) ≡ owed_by_stream (history past s)
    go true here = rw (history-done pass nth stream (call.Discard file span) r past s here, holds_of-other pass (call.Discard file span) r (history past s) refl, open_of-done pass (call.Discard file span) r (history past s)) refl
    go false away = rw (history-no_effect (entry.Call pass nth (Some stream) (call.Discard file span) (outcome.Done r)) past s (rw away refl)) refl
owed-same past pass nth stream s file span (outcome.Failed e) =
    rw (history-no_effect (entry.Call pass nth (Some stream) (call.Discard file span) (outcome.Failed e)) past s refl) refl

with-stores : (owed sums before stores : ℕ) → owed + stores ≡ before → owed + (sums + stores) ≡ sums + before
with-stores owed sums before stores is = omega (arith, is)

reserved-discard : (past : List Entry) (pass nth stream : ℕ) (file : File) (span : Option Range) (ended : Outcome) → owed_end past pass + reserved_in (entry.Call pass nth (Some stream) (call.Discard file span) ended ∷ past) ≡ reserved_in past
unfolding reserved_in
reserved-discard past pass nth stream file span ended =
    rw (sum-same (λ s. owed_by_stream (history (entry.Call pass nth (Some stream) (call.Discard file span) ended ∷ past) s)) (λ s. owed_by_stream (history past s)) all_streams (λ s. owed-same past pass nth stream s file span ended))
    (with-stores _ _ _ _ (stores-call past pass nth (Some stream) (call.Discard file span) ended refl))

-- ---- what is left of the book and the journal

module _ {Q : Type 0} (u : Setup) (pass : ℕ) (file : File) (span : Option Range) (b : BookState) (j : JournalState Q)
    (may : MayFill u pass (call.Discard file span) b (without_one j)) where
  abbrev it : Call
  it = call.Discard file span

  -- its entry stands, and what the pass owed before is given back
  placed-owing : (ended : Outcome) (k : JournalState Q) → Gains (entry.Call pass (suc (calls_of j.entries pass)) (Some b.stream) it ended) j k → AddsOwing (entry.Call pass (suc (calls_of j.entries pass)) (Some b.stream) it ended) (without_one j) (forgoing j pass k)
  placed-owing ended k gains =
      ap (λ (x : JournalState Q). forgoing j pass x) gains
      ∙ ap (λ (n : ℕ). record j { entries = entry.Call pass (suc (calls_of j.entries pass)) (Some b.stream) it ended ∷ j.entries; reserved = n; rows = k.rows })
      (owing _ _ _ _ may.may.owed (reserved-discard j.entries pass (suc (calls_of j.entries pass)) b.stream file span ended))
    where
      owing : (owed reserved before after : ℕ) → before ≤ reserved → owed + after ≡ before → reserved - owed ≡ after + (reserved - before)
      owing owed reserved before after within same = omega (arith, within, same)

  -- which is among what is reserved then
  pub owed-within : (e : Entry) (k : JournalState Q) → Gains e j k → owed_end j.entries pass ≤ k.reserved
  owed-within e k gains = within _ _ _ (forgone-within pass (without_one j) may.may.owed) (ap (λ (x : JournalState Q). x.reserved) gains)
    where
      within : (owed less now : ℕ) → owed ≤ less → now ≡ less → owed ≤ now
      within owed less now most same = omega (arith, most, same)

  standing : (e : Entry) (c : BookState) (k : JournalState Q) → IsGood u (e ∷ j.entries) → Gains e j k → BookStands (u.opening b.stream) k.entries c → c.stream ≡ b.stream → StandUnder u c (forgoing j pass k)
  standing e c k good gains stands stream = record {
    good = rw (ap (λ (x : JournalState Q). x.entries) gains) good;
    stands = subst (λ (n : ℕ). BookStands (u.opening n) k.entries c) (sym stream) stands;
    logs_are = may.may.stand.logs_are ∙ sym (ap (λ (x : JournalState Q). x.logs) gains);
    threshold_is = may.may.stand.threshold_is ∙ sym (ap (λ (x : JournalState Q). x.threshold) gains);
  }

  -- it is refused
  module _ (e : CcError) (reason : refusal u j.entries (history j.entries b.stream) it ≡ Some e) where
    pub may-fail : MayPlaceOnBook j.entries (failed pass j.entries b.stream it e) b
    may-fail = (u, so-far u _ (good-refused u j.entries pass b.stream file span may.may.stand.good may.may.filed e reason), may.may.stand.stands)

    refused-here : (c : BookState) (k : JournalState Q) → Gains (failed pass j.entries b.stream it e) j k → GoesOn j.entries k.entries b c → c ≡ b → AttemptRefused u pass it e b c (without_one j) (forgoing j pass k)
    refused-here c k gains goes same = record {
      reason = reason;
      placed = placed-owing (outcome.Failed e) k gains;
      stand = standing (failed pass j.entries b.stream it e) c k (good-refused u j.entries pass b.stream file span may.may.stand.good may.may.filed e reason) gains
          (goes (u.opening b.stream) may.may.stand.stands) (ap (λ (x : BookState). x.stream) same);
      same = same;
    }

    pub left-refused : (c : BookState) (k : JournalState Q) → Gains (failed pass j.entries b.stream it e) j k → GoesOn j.entries k.entries b c → c ≡ b → DiscardStepLeft u pass file span (Err e) b c (without_one j) (forgoing j pass k)
    left-refused c k gains goes same =
        by e (reason-of u j.entries (history j.entries b.stream) file span e reason) (refused-here c k gains goes same)
      where
        by : (x : CcError) → IsDiscardReason (history j.entries b.stream) file span x → AttemptRefused u pass it x b c (without_one j) (forgoing j pass k) → DiscardStepLeft u pass file span (Err x) b c (without_one j) (forgoing j pass k)
        by error.NotCached because left = left
        by (error.Held id) because left = left
        by (error.Unsettled page) because left = left
        by (error.Grown page) because left = left
        by other because left = absurd because

  -- nothing refuses it
  module _ (admitted : refusal u j.entries (history j.entries b.stream) it ≡ None) where
    good-here : IsGood u (done pass j.entries b.stream it reply.Unit ∷ j.entries)
    good-here = good-discarded u j.entries pass b.stream file span may.may.stand.good may.may.filed admitted may.no_transfer

    pub may-do : MayDoOnBook u j.entries pass it reply.Unit b
    may-do = record { good = so-far u _ good-here; stands = may.may.stand.stands }

    pub left-done : (c : BookState) (k : JournalState Q) → Gains (done pass j.entries b.stream it reply.Unit) j k → BookStands (u.opening b.stream) k.entries c → c.stream ≡ b.stream → DiscardStepLeft u pass file span (Ok tt) b c (without_one j) (forgoing j pass k)
    left-done c k gains stands stream = record {
      placed = placed-owing (outcome.Done reply.Unit) k gains;
      stand = standing (done pass j.entries b.stream it reply.Unit) c k good-here gains stands stream;
      stream = stream;
    }

  -- it found no memory, and the place was given back
  pub left-memoryless : (k : JournalState Q) → k ≡ record j { reserved = j.reserved - 1 } → DiscardStepLeft u pass file span (Err error.NoMemory) b b (without_one j) k
  left-memoryless k released = (
    inr (refl, one_asked),
    record {
      same_journal = released;
      stand = subst (λ (x : JournalState Q). StandUnder u b x) (sym released) may.may.stand;
      stream = refl;
    },
  )

-- ---- the same where the place is asked for

module _ {Q : Type 0} (u : Setup) (pass : ℕ) (file : File) (span : Option Range) (b c : BookState) (j k : JournalState Q) where
  again : without_one (reserving j) ≡ j
  again = ap (λ (n : ℕ). record j { reserved = n }) (more-less j.reserved)

  pub may-again : MayFill u pass (call.Discard file span) b j → MayFill u pass (call.Discard file span) b (without_one (reserving j))
  may-again may = subst (λ (x : JournalState Q). MayFill u pass (call.Discard file span) b x) (sym again) may

  pub left-again : (answer : Result (Unit {0}) CcError) → DiscardStepLeft u pass file span answer b c (without_one (reserving j)) k → DiscardStepLeft u pass file span answer b c j k
  left-again answer left = subst (λ (x : JournalState Q). DiscardStepLeft u pass file span answer b c x k) again left

  -- no place was found
  pub left-full : (e : CcError) → ((e ≡ error.JournalFull (length j.entries)) ⊎ (e ≡ error.NoMemory)) → (e ≡ error.JournalFull (length j.entries) → room_of j < 1) → StandUnder u b j → c ≡ b → k ≡ j → DiscardStepLeft u pass file span (Err e) b c j k
  left-full e (inl full) few stand same kept =
      subst (λ (x : CcError). DiscardStepLeft u pass file span (Err x) b c j k) (sym full) (inl (refl, few full), none)
    where
      none : FoundNone u b c j k
      none = record {
        same_journal = kept;
        stand = subst (λ (x : JournalState Q). StandUnder u c x) (sym kept) (subst (λ (x : BookState). StandUnder u x j) (sym same) stand);
        stream = ap (λ (x : BookState). x.stream) same;
      }
  left-full e (inr memory) few stand same kept =
      subst (λ (x : CcError). DiscardStepLeft u pass file span (Err x) b c j k) (sym memory) (inr (refl, one_asked), none)
    where
      none : FoundNone u b c j k
      none = record {
        same_journal = kept;
        stand = subst (λ (x : JournalState Q). StandUnder u c x) (sym kept) (subst (λ (x : BookState). StandUnder u x j) (sym same) stand);
        stream = ap (λ (x : BookState). x.stream) same;
      }
