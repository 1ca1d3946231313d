-- A good journal stays good with the entry of a step.
use Rattle.std.specs.Prelude.{◌≡◌, ℕ, suc, Bool, true, false, List, ◌∷◌, None, Some, if◌then◌else◌, refl}
use Rattle.std.specs.Bool.{OnTrue, OnFalse}
use Rattle.cc_entry.specs.declared.call.Call.{Call}
use Rattle.cc_entry.specs.declared.call.Call.TheVariants as call
use Rattle.cc_entry.specs.declared.entry.Entry.{Entry}
use Rattle.cc_entry.specs.declared.entry.Entry.TheVariants as entry
use Rattle.cc_entry.specs.declared.error.CcError.{CcError}
use Rattle.cc_entry.specs.declared.error.CcError.TheVariants as error
use Rattle.cc_entry.specs.declared.reply.Outcome.{Outcome}
use Rattle.cc_entry.specs.declared.reply.Outcome.TheVariants as outcome
use Rattle.cc_entry.specs.declared.reply.Reply.{Reply}
use Rattle.cc_book.specs.Book.{done, failed}
use Rattle.cc_model.specs.Acts.{file_of}
use Rattle.cc_model.specs.Allowed.{IsAllowed, IsAllowedSoFar, IsOwed, MayCall, owed_begin, begin_after, is_fault}
use Rattle.cc_model.specs.Conditions.{IsFilled, IsReady}
use Rattle.cc_model.specs.Covered.{IsCovered, IsCoveredEntry}
use Rattle.cc_model.specs.Filing.{IsFiled}
use Rattle.cc_model.specs.Good.{IsGood, IsGoodSoFar}
use Rattle.cc_model.specs.History.{history}
use Rattle.cc_model.specs.Holds.{holds_of}
use Rattle.cc_model.specs.Legal.{ends_own_store, IsLegal, IsLegalEntry, IsOutcome, IsAdmitted, IsFailure, IsTooLong, NothingElse}
use Rattle.cc_model.specs.Passes.{calls_of}
use Rattle.cc_model.specs.Ranges.{needs_pages, range_of}
use Rattle.cc_model.specs.Refusals.{refusal}
use Rattle.cc_model.specs.Replies.{IsReply, is_whole}
use Rattle.cc_model.specs.Setup.{Setup}
use Rattle.cc_model.specs.Touches.{size_of}
use Rattle.cc_step.specs.Faults.{IsMet}
use Rattle.cc_step.specs.Step.{is_answered, is_stepped, needed_range, IsReadyFor}
use Rattle.cc_step.proofs.Failing.{stepped-answered}
use Rattle.cc_step.proofs.Reasons.{is_listed, refusal-listed, never-long}

-- where nothing is owed, any entry may follow
nothing_owed : (e : Entry) (past : List Entry) → owed_begin past ≡ None → IsOwed (owed_begin past) e
nothing_owed e past none = rw none tt

-- a call that is no store leaves no begin owed
no_store : (pass s : ℕ) (it : Call) (ended : Outcome) → is_answered it ≡ true → begin_after pass (Some s) it ended ≡ None
no_store pass s (call.NcStore file page bytes) ended here = absurd (cc)
no_store pass s other ended here = refl

pub good-call : (u : Setup) (pass nth s : ℕ) (it : Call) (ended : Outcome) (past : List Entry) → is_answered it ≡ true → IsOutcome u past pass (Some s) it ended → MayCall u past pass nth (Some s) it ended → IsGood u past → IsGood u (entry.Call pass nth (Some s) it ended ∷ past)
unfolding IsLegal IsLegalEntry IsAllowed IsAllowedSoFar IsCovered IsCoveredEntry
good-call u pass nth s it ended past here legal may good = record {
  legal = (legal, good.legal);
  allowed = ((nothing_owed _ past good.allowed.1, may, good.allowed.0), no_store pass s it ended here);
  covered = (tt, good.covered);
}

-- nothing more is asked of such a call that is done
ready : (past : List Entry) (pass s : ℕ) (it : Call) → is_stepped it ≡ true → IsReady past pass s it
ready past pass s (call.Flush file span) stepped = absurd (cc)
ready past pass s (call.Purge file span) stepped = absurd (cc)
ready past pass s (call.Discard file span) stepped = absurd (cc)
ready past pass s (call.NcRead file page) stepped = absurd (cc)
ready past pass s (call.NcStore file page bytes) stepped = absurd (cc)
ready past pass s (call.NcWrite file page) stepped = absurd (cc)
ready past pass s other stepped = tt

admitted : (u : Setup) (past : List Entry) (s : ℕ) (it : Call) → is_stepped it ≡ true → refusal u past (history past s) it ≡ None → IsAdmitted u past (history past s) it
admitted u past s (call.NcWrite file page) stepped is = tt
admitted u past s other stepped is = is

on_needed : (b : Bool) (P : Type 0) → P → OnTrue b P
on_needed true P p = p
on_needed false P p = tt

-- where all that a call needs is filled, its range is, if its reply asks that
pub needed-filled : (u : Setup) (past : List Entry) (pass s : ℕ) (it : Call) (r : Reply) → IsReply u past (u.opening s) (history past s) pass it r → IsFilled (history past s) (needed_range (history past s) it) → OnTrue (needs_pages it r) (IsFilled (history past s) (range_of (size_of (history past s)) it))
needed-filled u past pass s (call.AheadStep request) r is all =
    rw is (go (is_whole (history past s) request) all)
  where
    go : (b : Bool) → IsFilled (history past s) (if b then range_of (size_of (history past s)) (call.AheadStep request) else None) → OnTrue b (IsFilled (history past s) (range_of (size_of (history past s)) (call.AheadStep request)))
    go true all = all
    go false all = tt
needed-filled u past pass s other r is all = on_needed (needs_pages other r) _ all

pub good-done : (u : Setup) (past : List Entry) (pass s : ℕ) (it : Call) (r : Reply) → is_stepped it ≡ true → IsGood u past → IsFiled (holds_of (history past s)) pass (Some s) it (file_of it) → IsReadyFor u past s it → IsReply u past (u.opening s) (history past s) pass it r → IsGood u (done pass past s it r ∷ past)
good-done u past pass s it r stepped good filed may reply =
    good-call u pass (suc (calls_of past pass)) s it (outcome.Done r) past (stepped-answered it stepped)
    (admitted u past s it stepped may.admitted, reply)
    (record { number = refl; filed = filed; may_end = (needed-filled u past pass s it r reply may.filled, ready past pass s it stepped) })
    good

-- a refusal of the list is the call's failure, and no fault
failure : (u : Setup) (past : List Entry) (pass s : ℕ) (it : Call) (e : CcError) → is_answered it ≡ true → is_listed e ≡ true → refusal u past (history past s) it ≡ Some e → IsFailure u past pass (Some s) it e
failure u past pass s it (error.ReadFault page) here listed is = absurd (cc)
failure u past pass s it (error.WriteFault page) here listed is = absurd (cc)
failure u past pass s it (error.LogFault handle) here listed is = absurd (cc)
failure u past pass s it error.QueueFull here listed is = absurd (cc)
failure u past pass s it error.Unaligned here listed is = absurd (cc)
failure u past pass s it (error.JournalFull entries) here listed is = absurd (cc)
failure u past pass s it error.NoMemory here listed is = absurd (cc)
failure u past pass s it (error.TooLong limit) here listed is = long it here is
  where
    long : (c : Call) → is_answered c ≡ true → refusal u past (history past s) c ≡ Some (error.TooLong limit) → IsTooLong u past (history past s) limit c
    long (call.NcRead file page) its known = absurd (never-long u past (history past s) (call.NcRead file page) limit tt known)
    long (call.NcWrite file page) its known = absurd (never-long u past (history past s) (call.NcWrite file page) limit tt known)
    long other its known = known
failure u past pass s it other here listed is = is

no_fault : (e : CcError) (P : Type 0) → is_listed e ≡ true → OnTrue (is_fault e) P
no_fault (error.ReadFault page) P listed = absurd (cc)
no_fault (error.WriteFault page) P listed = absurd (cc)
no_fault (error.LogFault handle) P listed = absurd (cc)
no_fault other P listed = tt

pub good-failed : (u : Setup) (past : List Entry) (pass s : ℕ) (it : Call) (e : CcError) → is_answered it ≡ true → IsGood u past → IsFiled (holds_of (history past s)) pass (Some s) it (file_of it) → refusal u past (history past s) it ≡ Some e → IsGood u (failed pass past s it e ∷ past)
good-failed u past pass s it e here good filed is =
    let listed = refusal-listed u past (history past s) it e is in
    good-call u pass (suc (calls_of past pass)) s it (outcome.Failed e) past here
    (failure u past pass s it e here listed is)
    (record { number = refl; filed = filed; may_end = no_fault e _ listed })
    good

-- beside a fault nothing refuses such a call
alone : (u : Setup) (past : List Entry) (pass s : ℕ) (it : Call) → is_answered it ≡ true → refusal u past (history past s) it ≡ None → NothingElse u past pass (Some s) it
alone u past pass s (call.NcWrite file page) here none = unless (ends_own_store past pass (Some s) (call.NcWrite file page))
  where
    unless : (b : Bool) → OnFalse b (refusal u past (history past s) (call.NcWrite file page) ≡ None)
    unless true = tt
    unless false = none
alone u past pass s other here none = none

-- a fault that the call met is its failure, and a fault alone
met-failure : (u : Setup) (past : List Entry) (pass s : ℕ) (it : Call) (fault : CcError) → IsMet past pass it fault → NothingElse u past pass (Some s) it → IsFailure u past pass (Some s) it fault
met-failure u past pass s it (error.ReadFault page) met alone = (met, alone)
met-failure u past pass s it (error.WriteFault page) met alone = (met, alone)
met-failure u past pass s it (error.LogFault handle) met alone = (met, alone)
met-failure u past pass s it other met alone = absurd met

pub good-met : (u : Setup) (past : List Entry) (pass s : ℕ) (it : Call) (fault : CcError) → is_answered it ≡ true → IsGood u past → IsFiled (holds_of (history past s)) pass (Some s) it (file_of it) → IsMet past pass it fault → refusal u past (history past s) it ≡ None → IsGood u (failed pass past s it fault ∷ past)
good-met u past pass s it fault here good filed met none =
    let failed_so = met-failure u past pass s it fault met (alone u past pass s it here none) in
    good-call u pass (suc (calls_of past pass)) s it (outcome.Failed fault) past here failed_so
    (record { number = refl; filed = filed; may_end = on_needed (is_fault fault) _ failed_so })
    good

pub so-far : (u : Setup) (past : List Entry) → IsGood u past → IsGoodSoFar u past
unfolding IsAllowed
so-far u past good = record { legal = good.legal; allowed = good.allowed.0; covered = good.covered }
