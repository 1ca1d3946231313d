-- A call that tells a fault: whether its entry may stand, and what it leaves of the journal, of the book and of a row.
use Rattle.std.specs.Prelude.{◌≡◌, ℕ, ◌==◌, Bool, true, false, not, is_some, ◌||◌, List, [], ◌∷◌, refl}
use Rattle.std.specs.declared.option.Option.{Option}
use Rattle.std.specs.declared.option.Option.TheVariants.{Some, None}
use Rattle.std.specs.Bool.{OnFalse, OnTrue}
use Rattle.std.specs.List.{list_any}
use Rattle.std.proofs.Common.{ap, sym, ◌∙◌, subst}
use Rattle.std.proofs.lemmas.Bool.{eq-eqb}
use Rattle.cc_entry.specs.declared.call.Call.{Call}
use Rattle.cc_entry.specs.declared.entry.Entry.{Entry}
use Rattle.cc_entry.specs.declared.error.CcError.{CcError}
use Rattle.cc_model.specs.Acts.{file_of}
use Rattle.cc_model.specs.Allowed.{is_fault}
use Rattle.cc_model.specs.Faults.{Fault, ReadFailed, WriteFailed, SyncFailed, LogFailed, faults_since, is_failed_log, is_failed_read, is_failed_sync, is_failed_write, oldest}
use Rattle.cc_model.specs.Filing.{IsFiled}
use Rattle.cc_model.specs.Holds.{holds_of}
use Rattle.cc_model.specs.Legal.{IsFailure, NothingElse, ends_own_store, stream_history}
use Rattle.cc_model.specs.Ranges.{first_page}
use Rattle.cc_model.specs.Refusals.{refusal}
use Rattle.cc_model.specs.Setup.{Setup}
use Rattle.cc_world.specs.Calls.{IsFiledOn}
use Rattle.cc_world.specs.Failing.{MayTellFault}
use Rattle.cc_world.specs.Pages.{Says}
use Rattle.cc_effects.specs.Events.{MayStandIf, error_of, fault_told, filed_under, told_entry}

-- the oldest fault is one of the faults
or-later : (a b : Bool) → b ≡ true → (a || b) ≡ true
or-later true b is = refl
or-later false b is = is

or-here : (a b : Bool) → a ≡ true → (a || b) ≡ true
or-here true b is = refl
or-here false b is = absurd (cc)

among : (passes : Fault → Bool) (faults : List Fault) (fault : Fault) → oldest faults ≡ Some fault → passes fault ≡ true → list_any passes faults ≡ true
among passes [] fault is its = absurd (cc)
among passes (it ∷ []) fault is its =
    let same : it ≡ fault = cc in
    or-here (passes it) false (ap passes same ∙ its)
among passes (it ∷ next ∷ older) fault is its = or-later (passes it) _ (among passes (next ∷ older) fault is its)

eq-same : (n : ℕ) → (n == n) ≡ true
eq-same n = eq-eqb n n refl

-- its error is the call's failure, where nothing else refuses the call
pub failure : (u : Setup) (past : List Entry) (pass : ℕ) (stream : Option ℕ) (it : Call) (fault : Fault) → oldest (faults_since past pass) ≡ Some fault → NothingElse u past pass stream it → IsFailure u past pass stream it (error_of it fault)
failure u past pass stream it (ReadFailed page) is unrefused = (among (is_failed_read page) (faults_since past pass) (ReadFailed page) is (eq-same page), unrefused)
failure u past pass stream it (WriteFailed page) is unrefused =
    (or-here _ _ (among (is_failed_write page) (faults_since past pass) (WriteFailed page) is (eq-same page)), unrefused)
failure u past pass stream it SyncFailed is unrefused = (
  or-later (list_any (is_failed_write (first_page it)) (faults_since past pass)) _
      (rw (among is_failed_sync (faults_since past pass) SyncFailed is refl) (eq-same (first_page it))),
  unrefused,
)
failure u past pass stream it (LogFailed handle) is unrefused = (among (is_failed_log handle) (faults_since past pass) (LogFailed handle) is (eq-same handle), unrefused)

-- nothing else refuses a call that fails so
alone : (u : Setup) (past : List Entry) (pass : ℕ) (stream : Option ℕ) (it : Call) (fault : Fault) → OnTrue (is_fault (error_of it fault)) (IsFailure u past pass stream it (error_of it fault)) → NothingElse u past pass stream it
alone u past pass stream it (ReadFailed page) may = may.1
alone u past pass stream it (WriteFailed page) may = may.1
alone u past pass stream it SyncFailed may = may.1
alone u past pass stream it (LogFailed handle) may = may.1

its-fault : (it : Call) (fault : Fault) → is_fault (error_of it fault) ≡ true
its-fault it (ReadFailed page) = refl
its-fault it (WriteFailed page) = refl
its-fault it SyncFailed = refl
its-fault it (LogFailed handle) = refl

when-fault : (b : Bool) (P : Type 0) → P → OnTrue b P
when-fault true P p = p
when-fault false P p = tt

module _ (u : Setup) (past : List Entry) (pass s : ℕ) (it : Call) (here : filed_under past it ≡ Some s) where
  -- It tells the fault, where it may be filed and nothing else refuses it.
  pub may-tell : (fault : Fault) → oldest (faults_since past pass) ≡ Some fault → IsFiledOn past pass s it → NothingElse u past pass (Some s) it → MayTellFault u past pass it (error_of it fault)
  may-tell fault is filed unrefused = record {
    fault = its-fault it fault;
    told = ap (told_entry past pass it) is;
    may = record {
      number = refl;
      filed = subst (λ (o : Option ℕ). IsFiled (holds_of (stream_history past o)) pass o it (file_of it)) (sym here) filed;
      may_end = when-fault (is_fault (error_of it fault)) _
          (failure u past pass (filed_under past it) it fault is (subst (λ (o : Option ℕ). NothingElse u past pass o it) (sym here) unrefused));
    };
  }

  -- It tells none where none befell the pass, where it may not be filed, and where something else refuses it.
  pub none-told : oldest (faults_since past pass) ≡ None → MayStandIf u past (fault_told past pass it) → ⊥
  none-told none may = subst (λ (o : Option Fault). MayStandIf u past (told_entry past pass it o)) none may

  stands-so : (found : Option Fault) → MayStandIf u past (told_entry past pass it found) → IsFiledOn past pass s it × NothingElse u past pass (Some s) it
  stands-so None may = absurd may
  stands-so (Some fault) may = (
    subst (λ (o : Option ℕ). IsFiled (holds_of (stream_history past o)) pass o it (file_of it)) here may.filed,
    subst (λ (o : Option ℕ). NothingElse u past pass o it) here (alone u past pass (filed_under past it) it fault may.may_end),
  )

  pub unfiled-untold : (IsFiledOn past pass s it → ⊥) → MayStandIf u past (fault_told past pass it) → ⊥
  unfiled-untold never may =
      let found = stands-so (oldest (faults_since past pass)) may in
      never found.0

  pub refused-untold : (NothingElse u past pass (Some s) it → ⊥) → MayStandIf u past (fault_told past pass it) → ⊥
  refused-untold never may =
      let found = stands-so (oldest (faults_since past pass)) may in
      never found.1

  -- Nothing refuses the end of a noncached write; another call is refused where the list refuses it.
  unless : (b : Bool) (P : Type 0) → b ≡ true → OnFalse b P
  unless true P is = tt
  unless false P is = absurd (cc)

  pub own-end : ends_own_store past pass (Some s) it ≡ true → NothingElse u past pass (Some s) it
  own-end is = unless _ _ is

  pub none-else : ends_own_store past pass (Some s) it ≡ false → refusal u past (stream_history past (Some s)) it ≡ None → NothingElse u past pass (Some s) it
  none-else is none = rw is none

  pub some-else : (e : CcError) → ends_own_store past pass (Some s) it ≡ false → refusal u past (stream_history past (Some s)) it ≡ Some e → NothingElse u past pass (Some s) it → ⊥
  some-else e is some unrefused =
      let none : refusal u past (stream_history past (Some s)) it ≡ None = rw is at unrefused in
      absurd (cc)

  -- What the list answers says whether the call is refused so.
  pub says-else : (refused : Option CcError) → ends_own_store past pass (Some s) it ≡ false → refused ≡ refusal u past (stream_history past (Some s)) it → Says (not (is_some refused)) (NothingElse u past pass (Some s) it)
  says-else None is listed = none-else is (sym listed)
  says-else (Some e) is listed = some-else e is (sym listed)
