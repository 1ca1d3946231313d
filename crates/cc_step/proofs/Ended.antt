-- What the entry of a call that failed leaves, for which a place was reserved.
use Rattle.std.specs.Prelude.{◌≡◌, ℕ, true, ◌∷◌, None, Some}
use Rattle.std.proofs.Common.{ap, sym, ◌∙◌, subst}
use Rattle.cc_entry.specs.declared.call.Call.{Call}
use Rattle.cc_entry.specs.declared.error.CcError.{CcError}
use Rattle.cc_book.specs.Book.{BookState, BookStands, Gains, GoesOn, failed}
use Rattle.cc_journal.specs.Journal.{JournalState}
use Rattle.cc_model.specs.Good.{IsGood}
use Rattle.cc_model.specs.History.{history}
use Rattle.cc_model.specs.Refusals.{refusal}
use Rattle.cc_model.specs.Setup.{Setup}
use Rattle.cc_step.specs.Faults.{MayFail, ToldFault}
use Rattle.cc_step.specs.Step.{is_answered, StandUnder, MayStep, Adds, AttemptRefused}
use Rattle.cc_step.proofs.Attempts.{reserving, adds-reserving, failed-owing, forgoing, stand-forgoing}
use Rattle.cc_step.proofs.Placed.{good-failed, good-met}

stand-failed : {Q : Type 0} (u : Setup) (pass : ℕ) (it : Call) (e : CcError) (b c : BookState) (j k : JournalState Q) → StandUnder u b j → IsGood u (failed pass j.entries b.stream it e ∷ j.entries) → Adds (failed pass j.entries b.stream it e) j k → GoesOn j.entries k.entries b c → c ≡ b → StandUnder u c k
stand-failed u pass it e b c j k stand good placed goes_on same = record {
  good = rw (ap (λ x. x.entries) placed) good;
  stands = subst (λ (x : BookState). BookStands (u.opening x.stream) k.entries c) (sym same) (goes_on (u.opening b.stream) stand.stands);
  logs_are = stand.logs_are ∙ sym (ap (λ x. x.logs) placed);
  threshold_is = stand.threshold_is ∙ sym (ap (λ x. x.threshold) placed);
}

pub refused-placed : {Q : Type 0} (u : Setup) (pass : ℕ) (it : Call) (e : CcError) (b c : BookState) (j k : JournalState Q) → is_answered it ≡ true → MayStep u pass it b j → refusal u j.entries (history j.entries b.stream) it ≡ Some e → Gains (failed pass j.entries b.stream it e) (reserving j) k → GoesOn j.entries k.entries b c → c ≡ b → AttemptRefused u pass it e b c j (forgoing j pass k)
refused-placed u pass it e b c j k here may reason placed goes_on same =
    let adds = adds-reserving (failed pass j.entries b.stream it e) j k placed in
    let good = good-failed u j.entries pass b.stream it e here may.stand.good may.filed reason in
    record {
      reason = reason;
      placed = failed-owing pass it e b j k here may.owed adds;
      stand = stand-forgoing u pass c j k (stand-failed u pass it e b c j k may.stand good adds goes_on same);
      same = same;
    }

pub told-placed : {Q : Type 0} (u : Setup) (pass : ℕ) (it : Call) (fault : CcError) (b c : BookState) (j k : JournalState Q) → is_answered it ≡ true → MayFail u pass it fault b j → refusal u j.entries (history j.entries b.stream) it ≡ None → Gains (failed pass j.entries b.stream it fault) (reserving j) k → GoesOn j.entries k.entries b c → c ≡ b → ToldFault u pass it fault b c j (forgoing j pass k)
told-placed u pass it fault b c j k here may none placed goes_on same =
    let adds = adds-reserving (failed pass j.entries b.stream it fault) j k placed in
    let good = good-met u j.entries pass b.stream it fault here may.may.stand.good may.may.filed may.met none in
    record {
      admitted = none;
      placed = failed-owing pass it fault b j k here may.may.owed adds;
      stand = stand-forgoing u pass c j k (stand-failed u pass it fault b c j k may.may.stand good adds goes_on same);
      same = same;
    }
