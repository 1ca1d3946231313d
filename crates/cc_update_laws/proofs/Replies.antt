-- What a pass is told by the two calls that a shim asks: the state of a stream, and the dirty page table of a log.
use Rattle.std.specs.Prelude.{◌≡◌, ℕ, true, List, ◌∷◌, ◌++◌, refl}
use Rattle.std.specs.declared.option.Option.{Option}
use Rattle.std.specs.declared.option.Option.TheVariants.{Some, None}
use Rattle.std.proofs.Common.{sym, subst, ◌∙◌}
use Rattle.cc_entry.specs.Place.{File}
use Rattle.cc_entry.specs.declared.call.Call.{Call}
use Rattle.cc_entry.specs.declared.call.Call.TheVariants as call
use Rattle.cc_entry.specs.declared.query.Query.TheVariants as query
use Rattle.cc_entry.specs.declared.entry.Entry.{Entry}
use Rattle.cc_entry.specs.declared.entry.Entry.TheVariants as entry
use Rattle.cc_entry.specs.declared.error.CcError.{CcError}
use Rattle.cc_entry.specs.declared.error.CcError.TheVariants as error
use Rattle.cc_entry.specs.declared.place.DirtyRow.{DirtyRow}
use Rattle.cc_entry.specs.declared.place.FileState.{FileState}
use Rattle.cc_entry.specs.declared.reply.Outcome.{Outcome}
use Rattle.cc_entry.specs.declared.reply.Outcome.TheVariants as outcome
use Rattle.cc_entry.specs.declared.reply.Reply.{Reply}
use Rattle.cc_entry.specs.declared.reply.Reply.TheVariants as reply
use Rattle.cc_entry.specs.declared.query.Value.TheVariants as value
use Rattle.cc_model.specs.Good.{IsGoodSoFar}
use Rattle.cc_model.specs.History.{Effect, history}
use Rattle.cc_model.specs.Holds.{holds_of}
use Rattle.cc_model.specs.Legal.{IsLegal, IsLegalEntry, IsOutcome, stream_history}
use Rattle.cc_model.specs.Numbers.{is_among}
use Rattle.cc_model.specs.Objects.{objects}
use Rattle.cc_model.specs.Refusals.{refusal}
use Rattle.cc_model.specs.Queries.{state_of}
use Rattle.cc_model.specs.Setup.{Setup}
use Rattle.cc_model.specs.Stamps.{dirty_table}
use Rattle.cc_effects.specs.Calls.{CallLeft, IsDone, IsPlaced}
use Rattle.cc_effects.proofs.FrontLaws.{legal-tail, placed-of}
use Rattle.cc_own.proofs.CallsKeep.{filed-stream}

legal-call : (u : Setup) (me nth : ℕ) (stream : Option ℕ) (it : Call) (answered : Outcome) (front : List Entry) → IsLegal u (entry.Call me nth stream it answered ∷ front) → IsOutcome u front me stream it answered
unfolding IsLegal IsLegalEntry
legal-call u me nth stream it answered front legal = legal.0

told-outcome : (u : Setup) (me : ℕ) (it : Call) (answered : Outcome) (earlier old new : List Entry) (p : IsPlaced me it answered earlier old new) → IsGoodSoFar u new → IsOutcome u (earlier ++ old) me p.stream it answered
told-outcome u me it answered earlier old new p good =
    let tail : IsLegal u (entry.Call me p.nth p.stream it answered ∷ (earlier ++ old)) = legal-tail u p.later _ (rw p.grew at good.legal) in
    legal-call u me p.nth p.stream it answered (earlier ++ old) tail

-- the state that was told is that of the front of the call
pub told-state : (u : Setup) (me : ℕ) (file : File) (state : FileState) (old new : List Entry) (left : IsDone me (call.Query (query.State file)) (reply.Value (value.State state)) old new) → IsGoodSoFar u new → state ≡ state_of (history (left.earlier ++ old) file.stream)
told-state u me file state old new left good =
    let p = left.placed in
    let front = left.earlier ++ old in
    let here = filed-stream (holds_of (stream_history front p.stream)) me p.stream (call.Query (query.State file)) file refl p.filed in
    let told = told-outcome u me (call.Query (query.State file)) (outcome.Done (reply.Value (value.State state))) left.earlier old new p good in
    let is : reply.Value (value.State state) ≡ reply.Value (value.State (state_of (history front file.stream))) =
    subst (λ (o : Option ℕ). reply.Value (value.State state) ≡ reply.Value (value.State (state_of (stream_history front o)))) here told.1 in
    inner (state_of (history front file.stream)) is
  where
    inner : (x : FileState) → reply.Value (value.State state) ≡ reply.Value (value.State x) → state ≡ x
    inner x same = cc

-- the table is filed under no stream, and is that of the front
pub table-stream : (me handle : ℕ) (r : Reply) (old new : List Entry) (left : IsDone me (call.Query (query.DirtyPages handle)) r old new) → left.placed.stream ≡ None
table-stream me handle r old new left = left.placed.filed

pub told-rows : (u : Setup) (me handle : ℕ) (rows : List DirtyRow) (old new : List Entry) (left : IsDone me (call.Query (query.DirtyPages handle)) (reply.Rows rows) old new) → IsGoodSoFar u new → rows ≡ dirty_table (left.earlier ++ old) handle
told-rows u me handle rows old new left good =
    let told = told-outcome u me (call.Query (query.DirtyPages handle)) (outcome.Done (reply.Rows rows)) left.earlier old new left.placed good in
    inner (dirty_table (left.earlier ++ old) handle) told.1
  where
    inner : (xs : List DirtyRow) → reply.Rows rows ≡ reply.Rows xs → rows ≡ xs
    inner xs same = cc

-- a stream whose object is open has a state
state-unrefused : (u : Setup) (past : List Entry) (h : List Effect) (file : File) → is_among file.object (objects h) ≡ true → refusal u past h (call.Query (query.State file)) ≡ None
unfolding refusal
state-unrefused u past h file open_is = rw open_is refl

pub state-open : (u : Setup) (me : ℕ) (file : File) (old new : List Entry) (left : CallLeft u me (call.Query (query.State file)) (outcome.Failed error.NotCached) old new) → IsGoodSoFar u new →
    ((earlier : List Entry) → IsPlaced me (call.Query (query.State file)) (outcome.Failed error.NotCached) earlier old new → is_among file.object (objects (history (earlier ++ old) file.stream)) ≡ true) → ⊥
state-open u me file old new left good is_open =
    let p = placed-of u me (call.Query (query.State file)) (outcome.Failed error.NotCached) old new left refl in
    let front = p.0 ++ old in
    let here = filed-stream (holds_of (stream_history front p.1.stream)) me p.1.stream (call.Query (query.State file)) file refl p.1.filed in
    let told = told-outcome u me (call.Query (query.State file)) (outcome.Failed error.NotCached) p.0 old new p.1 good in
    let is : refusal u front (history front file.stream) (call.Query (query.State file)) ≡ Some error.NotCached =
    subst (λ (o : Option ℕ). refusal u front (stream_history front o) (call.Query (query.State file)) ≡ Some error.NotCached) here told in
    clash (sym (state-unrefused u front (history front file.stream) file (is_open p.0 p.1)) ∙ is)
  where
    clash : ◌≡◌ {A = Option CcError} None (Some error.NotCached) → ⊥
    clash is = cc is
