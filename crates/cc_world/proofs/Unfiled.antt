-- A call that is filed under no stream: what its entry may be, and what the past owes after it.
use Rattle.std.specs.Prelude.{◌≡◌, ◌≤◌, ℕ, suc, ◌+◌, ◌<◌, Bool, true, false, nat_le, is_some, List, [], ◌∷◌, refl}
use Rattle.std.specs.Bool.{OnTrue}
use Rattle.std.specs.declared.option.Option.{Option}
use Rattle.std.specs.declared.option.Option.TheVariants.{Some, None}
use Rattle.std.proofs.Common.{ap, sym, ◌∙◌, subst, arith}
use Rattle.std.proofs.lemmas.Option.{same_Some}
use Rattle.std.proofs.lemmas.Bool.{le-leb, lt-leb}
use Rattle.cc_entry.specs.declared.call.Call.{Call}
use Rattle.cc_entry.specs.declared.call.Call.TheVariants as call
use Rattle.cc_entry.specs.declared.query.Query.TheVariants as query
use Rattle.cc_entry.specs.declared.entry.Entry.{Entry}
use Rattle.cc_entry.specs.declared.entry.Entry.TheVariants as entry
use Rattle.cc_entry.specs.declared.error.CcError.{CcError}
use Rattle.cc_entry.specs.declared.error.CcError.TheVariants as error
use Rattle.cc_entry.specs.declared.place.DirtyRow.{DirtyRow}
use Rattle.cc_entry.specs.declared.reply.Outcome.{Outcome}
use Rattle.cc_entry.specs.declared.reply.Outcome.TheVariants as outcome
use Rattle.cc_entry.specs.declared.reply.Reply.TheVariants as reply
use Rattle.cc_entry.specs.declared.query.Value.TheVariants as value
use Rattle.cc_journal.specs.Calls.{owed_end}
use Rattle.cc_laws.proofs.HistorySteps.{history-no_effect}
use Rattle.cc_model.specs.Acts.{file_of}
use Rattle.cc_model.specs.Allowed.{IsAllowed, IsAllowedSoFar, MayEnd, is_fault}
use Rattle.cc_model.specs.Cache.{all_streams, is_any_dirty}
use Rattle.cc_model.specs.Conditions.{IsFilled}
use Rattle.cc_model.specs.Covered.{IsCovered, IsCoveredEntry}
use Rattle.cc_model.specs.Faults.{Fault, faults_since, oldest}
use Rattle.cc_model.specs.Filing.{IsFiled}
use Rattle.cc_model.specs.Good.{IsGood}
use Rattle.cc_model.specs.History.{history}
use Rattle.cc_model.specs.Holds.{Hold, holds_of}
use Rattle.cc_model.specs.Legal.{IsFailure, IsLegal, IsLegalEntry, IsOutcome}
use Rattle.cc_model.specs.Passes.{calls_of, is_store}
use Rattle.cc_model.specs.Ranges.{needs_pages, range_of}
use Rattle.cc_model.specs.Refusals.{refusal}
use Rattle.cc_model.specs.Room.{owed_by_stream, reserved_in}
use Rattle.cc_model.specs.Setup.{Setup}
use Rattle.cc_model.specs.Stamps.{dirty_table}
use Rattle.cc_model.specs.Touches.{size_of}
use Rattle.cc_step.proofs.Reserved.{stores-call, sum-same}
use Rattle.cc_world.specs.Filing.{is_unfiled, log_named}
use Rattle.cc_effects.specs.Events.{MayDo, MayStandIf, asked_for, asked_to_fail, call_entry, error_of, fault_told, filed_under}
use Rattle.cc_world.proofs.FaultTold.{failure}
use Rattle.cc_world.proofs.Placing.{nothing-owed}

-- such a call is filed under no stream, has no range, and is no store
pub unfiled-under : (past : List Entry) (it : Call) → is_unfiled it ≡ true → filed_under past it ≡ None
unfiled-under past (call.Query (query.DirtyPages handle)) unfiled = refl
unfiled-under past (call.Query query.IsDirtyData) unfiled = refl
unfiled-under past other unfiled = absurd (cc)

filed : (holds : List Hold) (pass : ℕ) (it : Call) → is_unfiled it ≡ true → IsFiled holds pass None it (file_of it)
filed holds pass (call.Query (query.DirtyPages handle)) unfiled = refl
filed holds pass (call.Query query.IsDirtyData) unfiled = refl
filed holds pass other unfiled = absurd (cc)

no-range : (size : ℕ) (it : Call) → is_unfiled it ≡ true → range_of size it ≡ None
no-range size (call.Query (query.DirtyPages handle)) unfiled = refl
no-range size (call.Query query.IsDirtyData) unfiled = refl
no-range size other unfiled = absurd (cc)

no-store : (it : Call) (ended : Outcome) → is_unfiled it ≡ true → is_store it ended ≡ false
no-store (call.NcStore file page bytes) ended unfiled = absurd (cc)
no-store other ended unfiled = refl

-- the one that names no log asks whether a page is dirty
pub asks-dirty : (it : Call) → is_unfiled it ≡ true → log_named it ≡ None → it ≡ (call.Query query.IsDirtyData)
asks-dirty (call.Query (query.DirtyPages handle)) unfiled none = absurd (cc)
asks-dirty (call.Query query.IsDirtyData) unfiled none = refl
asks-dirty it unfiled none = absurd (cc)

-- and one that names a log asks for its table
pub asks-rows : (it : Call) (handle : ℕ) → log_named it ≡ Some handle → it ≡ call.Query (query.DirtyPages handle)
asks-rows (call.Query (query.DirtyPages named)) handle names = ap (λ (n : ℕ). call.Query (query.DirtyPages n)) (same_Some _ _ names)
asks-rows (call.Query other) handle names = absurd (cc)
asks-rows it handle names = absurd (cc)

on-needed : (b : Bool) (P : Type 0) → P → OnTrue b P
on-needed true P p = p
on-needed false P p = tt

may-end : (u : Setup) (past : List Entry) (pass : ℕ) (it : Call) (ended : Outcome) → is_unfiled it ≡ true → IsOutcome u past pass None it ended → MayEnd u past pass None it ended
may-end u past pass it (outcome.Done r) unfiled is = (on-needed (needs_pages it r) (IsFilled [] (range_of (size_of []) it)) (rw (no-range (size_of []) it unfiled) tt), tt)
may-end u past pass it (outcome.Failed e) unfiled is = on-needed (is_fault e) _ is

-- a good journal stays good with the entry of one that ended so
pub good-unfiled : (u : Setup) (past : List Entry) (pass : ℕ) (it : Call) (ended : Outcome) → is_unfiled it ≡ true → IsOutcome u past pass None it ended → IsGood u past → IsGood u (call_entry past pass it ended ∷ past)
unfolding IsLegal IsLegalEntry IsAllowed IsAllowedSoFar IsCovered IsCoveredEntry
good-unfiled u past pass it ended unfiled is good =
    subst (λ (s : Option ℕ). IsGood u (entry.Call pass (suc (calls_of past pass)) s it ended ∷ past)) (sym (unfiled-under past it unfiled)) (record {
      legal = (is, good.legal);
      allowed = (
        (
          nothing-owed _ past good.allowed.1,
          record { number = refl; filed = filed (holds_of []) pass it unfiled; may_end = may-end u past pass it ended unfiled is },
          good.allowed.0,
        ),
        refl,
      );
      covered = (tt, good.covered);
    })

-- it leaves what is owed, but for the end of a noncached write of the pass
pub reserved-unfiled : (past : List Entry) (pass : ℕ) (it : Call) (ended : Outcome) → is_unfiled it ≡ true → reserved_in (call_entry past pass it ended ∷ past) + owed_end past pass ≡ reserved_in past
unfolding reserved_in
reserved-unfiled past pass it ended unfiled =
    subst (λ (s : Option ℕ). reserved_in (entry.Call pass (suc (calls_of past pass)) s it ended ∷ past) + owed_end past pass ≡ reserved_in past) (sym (unfiled-under past it unfiled))
    (with-stores _ _ _ _ _
    (sum-same (λ s. owed_by_stream (history (entry.Call pass (suc (calls_of past pass)) None it ended ∷ past) s)) (λ s. owed_by_stream (history past s)) all_streams
    (λ s. ap owed_by_stream (history-no_effect (entry.Call pass (suc (calls_of past pass)) None it ended) past s refl)))
    (stores-call past pass (suc (calls_of past pass)) None it ended (no-store it ended unfiled)))
  where
    with-stores : (n m now was owed : ℕ) → n ≡ m → owed + now ≡ was → (n + now) + owed ≡ m + was
    with-stores n m now was owed same stores = omega (arith, same, stores)

-- The dirty page table is refused where there is no such log, and for nothing else.
pub log-there : (u : Setup) (past : List Entry) (handle : ℕ) → nat_le u.logs handle ≡ false → refusal u past [] (call.Query (query.DirtyPages handle)) ≡ None
unfolding refusal
log-there u past handle there = rw there refl

pub log-missing : (u : Setup) (past : List Entry) (handle : ℕ) → nat_le u.logs handle ≡ true → refusal u past [] (call.Query (query.DirtyPages handle)) ≡ Some (error.NoLog handle)
unfolding refusal
log-missing u past handle missing = rw missing refl

pub log-asked : (u : Setup) (past : List Entry) (handle logs : ℕ) → u.logs ≡ logs → nat_le logs handle ≡ is_some (refusal u past [] (call.Query (query.DirtyPages handle)))
log-asked u past handle logs same = ap (λ (n : ℕ). nat_le n handle) (sym same) ∙ by (nat_le u.logs handle) refl
  where
    by : (b : Bool) → nat_le u.logs handle ≡ b → nat_le u.logs handle ≡ is_some (refusal u past [] (call.Query (query.DirtyPages handle)))
    by true missing = missing ∙ sym (ap is_some (log-missing u past handle missing))
    by false there = there ∙ sym (ap is_some (log-there u past handle there))

-- nothing refuses the question whether a page is dirty
pub dirty-unrefused : (u : Setup) (past : List Entry) → refusal u past [] (call.Query query.IsDirtyData) ≡ None
unfolding refusal
dirty-unrefused u past = refl

-- Both may be made at any time, and ask one place.
pub may-ask-table : (u : Setup) (past : List Entry) (pass handle : ℕ) → MayDo u past pass (call.Query (query.DirtyPages handle))
may-ask-table u past pass handle = by (nat_le u.logs handle) refl
  where
    by : (b : Bool) → nat_le u.logs handle ≡ b → MayDo u past pass (call.Query (query.DirtyPages handle))
    by true missing = record { filed = refl; can_end = rw (log-missing u past handle missing) tt }
    by false there = record { filed = refl; can_end = rw (log-there u past handle there) (reply.Rows (dirty_table past handle), refl, (tt, tt)) }

pub may-ask-dirty : (u : Setup) (past : List Entry) (pass : ℕ) → MayDo u past pass (call.Query query.IsDirtyData)
may-ask-dirty u past pass = record { filed = refl; can_end = rw (dirty-unrefused u past) (reply.Value (value.Flag (is_any_dirty past)), refl, (tt, tt)) }

-- How both end.
pub table-outcome : (u : Setup) (past : List Entry) (pass handle : ℕ) (rows : List DirtyRow) → handle < u.logs → rows ≡ dirty_table past handle → IsOutcome u past pass None (call.Query (query.DirtyPages handle)) (outcome.Done (reply.Rows rows))
table-outcome u past pass handle rows known is = (log-there u past handle (lt-leb u.logs handle known), ap reply.Rows is)

pub no-log-outcome : (u : Setup) (past : List Entry) (pass handle missing : ℕ) → missing ≡ handle → u.logs ≤ handle → IsOutcome u past pass None (call.Query (query.DirtyPages handle)) (outcome.Failed (error.NoLog missing))
no-log-outcome u past pass handle missing is most =
    log-missing u past handle (le-leb u.logs handle most) ∙ ap (λ (n : ℕ). Some (error.NoLog n)) (sym is)

pub dirty-outcome : (u : Setup) (past : List Entry) (pass : ℕ) (flag : Bool) → flag ≡ is_any_dirty past → IsOutcome u past pass None (call.Query query.IsDirtyData) (outcome.Done (reply.Value (value.Flag flag)))
dirty-outcome u past pass flag is = (dirty-unrefused u past, ap (λ (flag : Bool). reply.Value (value.Flag flag)) is)

pub asked-table : (past : List Entry) (pass handle : ℕ) (o : Option CcError) → asked_for past pass (call.Query (query.DirtyPages handle)) o ≡ 1
asked-table past pass handle None = refl
asked-table past pass handle (Some e) = refl

pub asked-dirty : (past : List Entry) (pass : ℕ) (o : Option CcError) → asked_for past pass (call.Query query.IsDirtyData) o ≡ 1
asked-dirty past pass None = refl
asked-dirty past pass (Some e) = refl

pub may-ask : (u : Setup) (past : List Entry) (pass : ℕ) (it : Call) → is_unfiled it ≡ true → MayDo u past pass it
may-ask u past pass (call.Query (query.DirtyPages handle)) unfiled = may-ask-table u past pass handle
may-ask u past pass (call.Query query.IsDirtyData) unfiled = may-ask-dirty u past pass
may-ask u past pass other unfiled = absurd (cc)

pub asked-ask : (past : List Entry) (pass : ℕ) (it : Call) (o : Option CcError) → is_unfiled it ≡ true → asked_for past pass it o ≡ 1
asked-ask past pass (call.Query (query.DirtyPages handle)) o unfiled = asked-table past pass handle o
asked-ask past pass (call.Query query.IsDirtyData) o unfiled = asked-dirty past pass o
asked-ask past pass other o unfiled = absurd (cc)

pub asked-fail : (past : List Entry) (pass : ℕ) (it : Call) → is_unfiled it ≡ true → asked_to_fail past pass it ≡ 1
asked-fail past pass it unfiled = rw (unfiled-under past it unfiled) refl

-- A call that nothing refuses may fail by the oldest fault of its pass.
fault-fails : (u : Setup) (past : List Entry) (pass : ℕ) (it : Call) (fault : Fault) → refusal u past [] it ≡ None → oldest (faults_since past pass) ≡ Some fault → IsFailure u past pass None it (error_of it fault)
fault-fails u past pass it fault none is = failure u past pass None it fault is none

-- a good journal stays good with its entry
pub good-told : (u : Setup) (past : List Entry) (pass : ℕ) (it : Call) (fault : Fault) (e : CcError) → is_unfiled it ≡ true → refusal u past [] it ≡ None → oldest (faults_since past pass) ≡ Some fault → e ≡ error_of it fault → IsGood u past → IsGood u (call_entry past pass it (outcome.Failed e) ∷ past)
good-told u past pass it fault e unfiled none is told good =
    subst (λ (x : CcError). IsGood u (call_entry past pass it (outcome.Failed x) ∷ past)) (sym told)
    (good-unfiled u past pass it (outcome.Failed (error_of it fault)) unfiled (fault-fails u past pass it fault none is) good)

pub fault-is : (past : List Entry) (pass : ℕ) (it : Call) (fault : Fault) → oldest (faults_since past pass) ≡ Some fault → fault_told past pass it ≡ Some (call_entry past pass it (outcome.Failed (error_of it fault)))
fault-is past pass it fault is = rw is refl

pub fault-stands : (u : Setup) (past : List Entry) (pass : ℕ) (it : Call) (fault : Fault) → is_unfiled it ≡ true → refusal u past [] it ≡ None → oldest (faults_since past pass) ≡ Some fault → MayStandIf u past (fault_told past pass it)
fault-stands u past pass it fault unfiled none is =
    subst (λ (o : Option Entry). MayStandIf u past o) (sym (fault-is past pass it fault is))
    (subst (λ (s : Option ℕ). MayStandIf u past (Some (entry.Call pass (suc (calls_of past pass)) s it (outcome.Failed (error_of it fault))))) (sym (unfiled-under past it unfiled)) (record {
      number = refl;
      filed = filed (holds_of []) pass it unfiled;
      may_end = may-end u past pass it (outcome.Failed (error_of it fault)) unfiled (fault-fails u past pass it fault none is);
    }))
