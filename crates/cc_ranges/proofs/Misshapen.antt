-- A noncached call whose place or length is out of order is refused, and what a page of one is refused is for neither.
use Rattle.std.specs.Prelude.{◌≡◌, ℕ, ◌+◌, ◌-◌, ◌≤◌, ◌⊎◌, Bool, true, false, not, List, ◌∷◌, Some, None, refl, if◌then◌else◌}
use Rattle.std.specs.declared.option.Option.{Option}
use Rattle.std.specs.Bool.{OnTrue}
use Rattle.std.proofs.Common.{ap, sym, ◌∙◌, subst, arith, inl, inr}
use Rattle.cc_entry.specs.Place.{File}
use Rattle.cc_entry.specs.declared.call.Call.{Call}
use Rattle.cc_entry.specs.declared.call.Call.TheVariants as call
use Rattle.cc_entry.specs.declared.entry.Entry.{Entry}
use Rattle.cc_entry.specs.declared.error.CcError.{CcError}
use Rattle.cc_entry.specs.declared.error.CcError.TheVariants as error
use Rattle.cc_entry.specs.declared.reply.Outcome.TheVariants as outcome
use Rattle.cc_book.specs.Book.{BookState, BookStands, Gains, GoesOn, MayPlaceOnBook, failed}
use Rattle.cc_effects.specs.Noncached.{is_of_shape}
use Rattle.cc_journal.specs.Calls.{owed_end}
use Rattle.cc_journal.specs.Journal.{JournalState}
use Rattle.cc_model.specs.Acts.{file_of}
use Rattle.cc_model.specs.Allowed.{IsAllowed, IsAllowedSoFar, begin_after, is_fault}
use Rattle.cc_model.specs.Covered.{IsCovered, IsCoveredEntry}
use Rattle.cc_model.specs.Filing.{IsFiled}
use Rattle.cc_model.specs.Good.{IsGood}
use Rattle.cc_model.specs.History.{Effect, history}
use Rattle.cc_model.specs.Holds.{holds_of}
use Rattle.cc_model.specs.Legal.{IsFailure, IsLegal, IsLegalEntry}
use Rattle.cc_model.specs.Reasons.{is_open, not_cached, refuse_if}
use Rattle.cc_model.specs.Refusals.{first_of, refusal}
use Rattle.cc_model.specs.Setup.{Setup}
use Rattle.cc_ranges.proofs.FlushStepping.{nothing_owed}
use Rattle.cc_step.specs.Step.{MayStep, Adds, IsStop, is_answered}
use Rattle.cc_step.proofs.Attempts.{reserving, adds-reserving, forgoing, forgone-within, failed-owing, stand-forgoing}
use Rattle.cc_step.proofs.Placed.{so-far}
use Rattle.cc_step.proofs.Reasons.{IsNoncached, never-long, refusal-listed}
use Rattle.cc_writes.specs.Ways.{IsCallReason, is_met}
use Rattle.cc_writes.specs.Visits.{CallIsOfStream}
use Rattle.cc_ranges.specs.Shapes.{IsPageOf, IsShape, RefuseLeft, refusal_first}

-- What a page of a noncached call is refused comes from the list, or from outside: it is for no place or length.
pub unshaped : (u : Setup) (s : ℕ) (it : Call) (e : CcError) → IsNoncached it → IsCallReason u s it e → is_of_shape e ≡ false
unshaped u s it (error.TooLong limit) is (inl met) = absurd (cc)
unshaped u s it (error.TooLong limit) is (inr reason) = absurd (never-long u reason.0 (history reason.0 s) it limit is reason.1)
unshaped u s it error.Unaligned is (inl met) = absurd (cc)
unshaped u s it error.Unaligned is (inr reason) = absurd (cc (refusal-listed u reason.0 (history reason.0 s) it error.Unaligned reason.1))
unshaped u s it other is reason = refl

pub read-unshaped : (u : Setup) (s : ℕ) (file : File) (page : ℕ) (e : CcError) → IsCallReason u s (call.NcRead file page) e → is_of_shape e ≡ false
read-unshaped u s file page e reason = unshaped u s (call.NcRead file page) e tt reason

pub stop-met : {Q : Type 0} (asked : ℕ) (e : CcError) (j : JournalState Q) → IsStop asked e j → is_met e ≡ true
stop-met asked e j (inl full) = ap is_met full.0
stop-met asked e j (inr none) = ap is_met none.0

-- a page of a noncached call of a file is filed under its stream, and its entry may stand with the book
pub page-filed : (file : File) (it : Call) → IsPageOf file it → CallIsOfStream it file.stream
page-filed file (call.NcRead named page) is holds pass = ap (λ (f : File). Some f.stream) (sym is)
page-filed file (call.NcWrite named page) is holds pass = ap (λ (f : File). Some f.stream) (sym is)
page-filed file other is holds pass = absurd is

pub page-answered : (file : File) (it : Call) → IsPageOf file it → is_answered it ≡ true
page-answered file (call.NcRead named page) is = refl
page-answered file (call.NcWrite named page) is = refl
page-answered file other is = absurd is

-- where the object has no private map, that comes first
first-some : (o : Option CcError) (e : CcError) (rest : List (Option CcError)) → o ≡ Some e → first_of (o ∷ rest) ≡ Some e
first-some o e rest is = ap (λ (p : Option CcError). first_of (p ∷ rest)) is

closed-some : (b : Bool) (e : CcError) → b ≡ false → refuse_if (not b) e ≡ Some e
closed-some true e is = absurd (cc)
closed-some false e is = refl

closed-first : (u : Setup) (past : List Entry) (h : List Effect) (file : File) (it : Call) → IsPageOf file it → is_open h file ≡ false → refusal u past h it ≡ Some error.NotCached
unfolding refusal
closed-first u past h file (call.NcRead named page) is closed =
    first-some (not_cached h (Some named)) error.NotCached _ (closed-some (is_open h named) error.NotCached (subst (λ (f : File). is_open h f ≡ false) (sym is) closed))
closed-first u past h file (call.NcWrite named page) is closed =
    first-some (not_cached h (Some named)) error.NotCached _ (closed-some (is_open h named) error.NotCached (subst (λ (f : File). is_open h f ≡ false) (sym is) closed))
closed-first u past h file other is closed = absurd is

pub open-first : (h : List Effect) (file : File) (shape : CcError) → is_open h file ≡ true → shape ≡ refusal_first h file shape
open-first h file shape cached = ap (λ (o : Bool). if o then shape else error.NotCached) (sym cached)

pub closed-is : (h : List Effect) (file : File) (shape : CcError) → is_open h file ≡ false → error.NotCached ≡ refusal_first h file shape
closed-is h file shape closed = ap (λ (o : Bool). if o then shape else error.NotCached) (sym closed)

-- else the refusal of its place or its length stands
shape-failure : (u : Setup) (past : List Entry) (pass s : ℕ) (file : File) (it : Call) (e : CcError) → IsPageOf file it → IsShape e → is_open (history past s) file ≡ true → IsFailure u past pass (Some s) it e
shape-failure u past pass s file (call.NcRead named page) (error.TooLong limit) is shape cached = (subst (λ (f : File). is_open (history past s) f ≡ true) (sym is) cached, shape)
shape-failure u past pass s file (call.NcRead named page) error.Unaligned is shape cached = subst (λ (f : File). is_open (history past s) f ≡ true) (sym is) cached
shape-failure u past pass s file (call.NcRead named page) other is shape cached = absurd shape
shape-failure u past pass s file (call.NcWrite named page) (error.TooLong limit) is shape cached = (subst (λ (f : File). is_open (history past s) f ≡ true) (sym is) cached, shape)
shape-failure u past pass s file (call.NcWrite named page) error.Unaligned is shape cached = subst (λ (f : File). is_open (history past s) f ≡ true) (sym is) cached
shape-failure u past pass s file (call.NcWrite named page) other is shape cached = absurd shape
shape-failure u past pass s file other e is shape cached = absurd is

shape-no_fault : (e : CcError) → IsShape e → is_fault e ≡ false
shape-no_fault (error.TooLong limit) shape = refl
shape-no_fault error.Unaligned shape = refl
shape-no_fault other shape = absurd shape

no-fault : (b : Bool) (P : Type 0) → b ≡ false → OnTrue b P
no-fault true P is = absurd (cc)
no-fault false P is = tt

no-store : (pass s : ℕ) (file : File) (it : Call) (e : CcError) → IsPageOf file it → begin_after pass (Some s) it (outcome.Failed e) ≡ None
no-store pass s file (call.NcRead named page) e is = refl
no-store pass s file (call.NcWrite named page) e is = refl
no-store pass s file other e is = absurd is

-- a good journal stays good with the entry
good-so : (u : Setup) (past : List Entry) (pass s : ℕ) (file : File) (it : Call) (e : CcError) → IsPageOf file it → IsGood u past → IsFiled (holds_of (history past s)) pass (Some s) it (file_of it) → IsFailure u past pass (Some s) it e → is_fault e ≡ false → IsGood u (failed pass past s it e ∷ past)
unfolding IsLegal IsLegalEntry IsAllowed IsAllowedSoFar IsCovered IsCoveredEntry
good-so u past pass s file it e is good filed failure calm = record {
  legal = (failure, good.legal);
  allowed = ((nothing_owed _ past good.allowed.1, record { number = refl; filed = filed; may_end = no-fault (is_fault e) _ calm }, good.allowed.0), no-store pass s file it e is);
  covered = (tt, good.covered);
}

module _ {Q : Type 0} (u : Setup) (pass : ℕ) (file : File) (it : Call) (shape : CcError) (b : BookState) (j : JournalState Q)
    (is : IsPageOf file it) (shaped : IsShape shape) (may : MayStep u pass it b j) where
  abbrev h : List Effect
  h = history j.entries b.stream

  -- what comes first is its failure
  good-first : (o : Bool) → is_open h file ≡ o → IsGood u (failed pass j.entries b.stream it (if o then shape else error.NotCached) ∷ j.entries)
  good-first true cached =
      good-so u j.entries pass b.stream file it shape is may.stand.good may.filed
      (shape-failure u j.entries pass b.stream file it shape is shaped cached) (shape-no_fault shape shaped)
  good-first false closed =
      good-so u j.entries pass b.stream file it error.NotCached is may.stand.good may.filed (closed-first u j.entries h file it is closed) refl

  pub good-refused : IsGood u (failed pass j.entries b.stream it (refusal_first h file shape) ∷ j.entries)
  good-refused = good-first (is_open h file) refl

  pub may-refuse : MayPlaceOnBook j.entries (failed pass j.entries b.stream it (refusal_first h file shape)) b
  may-refuse = (u, so-far u _ good-refused, may.stand.stands)

  -- what the pass owed is still reserved
  pub refused-within : (e : CcError) (k : JournalState Q) → Gains (failed pass j.entries b.stream it e) (reserving j) k → owed_end j.entries pass ≤ k.reserved
  refused-within e k gains = within _ _ _ (forgone-within pass j may.owed) (ap (λ (x : JournalState Q). x.reserved) gains)
    where
      within : (owed was now : ℕ) → owed ≤ was → now ≡ (was + 1) - 1 → owed ≤ now
      within owed was now most same = omega (arith, most, same)

  which : (o : Bool) → ((if o then shape else error.NotCached) ≡ error.NotCached) ⊎ ((if o then shape else error.NotCached) ≡ shape)
  which true = inr refl
  which false = inl refl

  -- and its entry stands
  pub refused-so : (e : CcError) (c : BookState) (k : JournalState Q) → e ≡ refusal_first h file shape → Gains (failed pass j.entries b.stream it e) (reserving j) k → GoesOn j.entries k.entries b c → c ≡ b → RefuseLeft u pass it shape e b c j (forgoing j pass k)
  refused-so e c k e_is gains goes same =
      inl (record {
        is = subst (λ (x : CcError). (x ≡ error.NotCached) ⊎ (x ≡ shape)) (sym e_is) (which (is_open h file));
        placed = failed-owing pass it e b j k (page-answered file it is) may.owed adds;
        stand = stand-forgoing u pass c j k (record {
          good = subst (λ (past : List Entry). IsGood u past) (sym (ap (λ (x : JournalState Q). x.entries) adds)) (rw e_is good-refused);
          stands = subst (λ (x : BookState). BookStands (u.opening x.stream) k.entries c) (sym same) (goes (u.opening b.stream) may.stand.stands);
          logs_are = may.stand.logs_are ∙ sym (ap (λ (x : JournalState Q). x.logs) adds);
          threshold_is = may.stand.threshold_is ∙ sym (ap (λ (x : JournalState Q). x.threshold) adds);
        });
        same = same;
      })
    where
      adds : Adds (failed pass j.entries b.stream it e) j k
      adds = adds-reserving (failed pass j.entries b.stream it e) j k gains
