-- A good journal stays good with the entry of a call that ends on a book, refused or done.
use Rattle.std.specs.Prelude.{◌≡◌, ℕ, suc, true, false, List, ◌∷◌, None, Some, refl}
use Rattle.std.specs.declared.option.Option.{Option}
use Rattle.std.specs.Bool.{OnTrue}
use Rattle.std.proofs.Common.{ap, subst}
use Rattle.cc_entry.specs.Place.{File}
use Rattle.cc_entry.specs.declared.call.Call.{Call}
use Rattle.cc_entry.specs.declared.call.Call.TheVariants as call
use Rattle.cc_entry.specs.declared.entry.Entry.{Entry}
use Rattle.cc_entry.specs.declared.entry.Entry.TheVariants as entry
use Rattle.cc_entry.specs.declared.error.CcError.{CcError}
use Rattle.cc_entry.specs.declared.error.CcError.TheVariants as error
use Rattle.cc_entry.specs.declared.reply.Outcome.{Outcome}
use Rattle.cc_entry.specs.declared.reply.Outcome.TheVariants as outcome
use Rattle.cc_entry.specs.declared.reply.Reply.{Reply}
use Rattle.cc_book.specs.Book.{BookState, done, failed}
use Rattle.cc_journal.specs.Journal.{JournalState}
use Rattle.cc_model.specs.Allowed.{IsAllowed, IsAllowedSoFar, IsOwed, MayEnd, begin_after, is_fault, owed_begin}
use Rattle.cc_model.specs.Covered.{IsCovered, IsCoveredEntry}
use Rattle.cc_model.specs.Good.{IsGood}
use Rattle.cc_model.specs.History.{history}
use Rattle.cc_model.specs.Legal.{IsAdmitted, IsFailure, IsLegal, IsLegalEntry, IsOutcome, IsTooLong, stream_history}
use Rattle.cc_model.specs.Passes.{calls_of}
use Rattle.cc_model.specs.Refusals.{refusal}
use Rattle.cc_model.specs.Setup.{Setup}
use Rattle.cc_step.proofs.Reasons.{is_listed, refusal-listed, never-long}
use Rattle.cc_world.specs.Calls.{IsFiledOn, CallIsRefusedSo, IsReplied, places_one}
use Rattle.cc_effects.specs.Events.{filed_under, reason_of}

nothing-owed : (e : Entry) (past : List Entry) → owed_begin past ≡ None → IsOwed (owed_begin past) e
nothing-owed e past none = rw none tt

-- a call after which no begin has to follow
pub good-called : (u : Setup) (past : List Entry) (pass s : ℕ) (it : Call) (ended : Outcome) → begin_after pass (Some s) it ended ≡ None → IsOutcome u past pass (Some s) it ended → MayEnd u past pass (Some s) it ended → IsFiledOn past pass s it → IsGood u past → IsGood u (entry.Call pass (suc (calls_of past pass)) (Some s) it ended ∷ past)
unfolding IsLegal IsLegalEntry IsAllowed IsAllowedSoFar IsCovered IsCoveredEntry
good-called u past pass s it ended none legal may filed good = record {
  legal = (legal, good.legal);
  allowed = ((nothing-owed _ past good.allowed.1, record { number = refl; filed = filed; may_end = may }, good.allowed.0), none);
  covered = (tt, good.covered);
}

no-begin-failed : (pass s : ℕ) (it : Call) (e : CcError) → begin_after pass (Some s) it (outcome.Failed e) ≡ None
no-begin-failed pass s (call.NcStore file page bytes) e = refl
no-begin-failed pass s other e = refl

no-begin-done : (pass s : ℕ) (it : Call) (r : Reply) → places_one it ≡ true → begin_after pass (Some s) it (outcome.Done r) ≡ None
no-begin-done pass s (call.NcStore file page bytes) r alone = absurd (cc)
no-begin-done pass s other r alone = refl

-- a refusal of the list is the call's failure, and no fault
failure : (u : Setup) (past : List Entry) (pass s : ℕ) (it : Call) (e : CcError) → is_listed e ≡ true → refusal u past (history past s) it ≡ Some e → IsFailure u past pass (Some s) it e
failure u past pass s it (error.ReadFault page) listed is = absurd (cc)
failure u past pass s it (error.WriteFault page) listed is = absurd (cc)
failure u past pass s it (error.LogFault handle) listed is = absurd (cc)
failure u past pass s it error.QueueFull listed is = absurd (cc)
failure u past pass s it error.Unaligned listed is = absurd (cc)
failure u past pass s it (error.JournalFull entries) listed is = absurd (cc)
failure u past pass s it error.NoMemory listed is = absurd (cc)
failure u past pass s it (error.TooLong limit) listed is = long it is
  where
    long : (c : Call) → refusal u past (history past s) c ≡ Some (error.TooLong limit) → IsTooLong u past (history past s) limit c
    long (call.NcRead file page) known = absurd (never-long u past (history past s) (call.NcRead file page) limit tt known)
    long (call.NcWrite file page) known = absurd (never-long u past (history past s) (call.NcWrite file page) limit tt known)
    long other known = known
failure u past pass s it other listed is = is

no-fault : (e : CcError) (P : Type 0) → is_listed e ≡ true → OnTrue (is_fault e) P
no-fault (error.ReadFault page) P listed = absurd (cc)
no-fault (error.WriteFault page) P listed = absurd (cc)
no-fault (error.LogFault handle) P listed = absurd (cc)
no-fault other P listed = tt

-- why a call is refused that is filed under a stream and does not end a noncached write
pub reason-else : (u : Setup) (past : List Entry) (s : ℕ) (it : Call) → ((file : File) (page : ℕ) → it ≡ call.NcWrite file page → ⊥) → filed_under past it ≡ Some s → reason_of u past it ≡ refusal u past (history past s) it
reason-else u past s (call.NcWrite file page) apart here = absurd (apart file page refl)
reason-else u past s other apart here = ap (λ (o : Option ℕ). refusal u past (stream_history past o) other) here

pub refused-on : (u : Setup) (past : List Entry) (s : ℕ) (it : Call) (e : CcError) → filed_under past it ≡ Some s → reason_of u past it ≡ Some e → refusal u past (history past s) it ≡ Some e
refused-on u past s (call.NcWrite file page) e here is = absurd (cc)
refused-on u past s other e here is = subst (λ (o : Option ℕ). refusal u past (stream_history past o) other ≡ Some e) here is

-- nothing refuses one that may be done
admitted-on : (u : Setup) (past : List Entry) (s : ℕ) (it : Call) → filed_under past it ≡ Some s → reason_of u past it ≡ None → IsAdmitted u past (history past s) it
admitted-on u past s (call.NcWrite file page) here is = tt
admitted-on u past s other here is = subst (λ (o : Option ℕ). refusal u past (stream_history past o) other ≡ None) here is

pub listed : (u : Setup) (past : List Entry) (s : ℕ) (it : Call) (e : CcError) → filed_under past it ≡ Some s → reason_of u past it ≡ Some e → is_listed e ≡ true
listed u past s it e here is = refusal-listed u past (history past s) it e (refused-on u past s it e here is)

pub good-refused : {Q : Type 0} (u : Setup) (pass : ℕ) (it : Call) (e : CcError) (b : BookState) (j : JournalState Q) → CallIsRefusedSo u pass it e b j → IsGood u (failed pass j.entries b.stream it e ∷ j.entries)
good-refused u pass it e b j refused =
    let is = refused-on u j.entries b.stream it e refused.made.here refused.reason in
    let among = refusal-listed u j.entries (history j.entries b.stream) it e is in
    good-called u j.entries pass b.stream it (outcome.Failed e) (no-begin-failed pass b.stream it e)
    (failure u j.entries pass b.stream it e among is) (no-fault e _ among) refused.filed refused.made.stands.stand.good

pub good-replied : {Q : Type 0} (u : Setup) (more pass : ℕ) (it : Call) (r : Reply) (b : BookState) (j : JournalState Q) → IsReplied u more pass it r b j → IsGood u (done pass j.entries b.stream it r ∷ j.entries)
good-replied u more pass it r b j replied =
    let made = replied.unrefused.made in
    good-called u j.entries pass b.stream it (outcome.Done r) (no-begin-done pass b.stream it r replied.unrefused.alone)
    (admitted-on u j.entries b.stream it made.here replied.unrefused.admitted, replied.may.reply_is) replied.may.may_end
    replied.unrefused.filed made.stands.stand.good
