-- The calls that the lines of the streams, of a caller and of phases leave, as marks.
use Rattle.std.specs.Prelude.{◌≡◌, ℕ, List, [], ◌∷◌, refl, ◌⊎◌}
use Rattle.std.specs.declared.option.Option.{Option}
use Rattle.std.specs.declared.option.Option.TheVariants.{Some, None}
use Rattle.std.proofs.Common.{inl, inr, sym, arith}
use Rattle.cc_entry.specs.declared.call.Call.TheVariants as call
use Rattle.cc_entry.specs.declared.query.Query.TheVariants as query
use Rattle.cc_entry.specs.declared.error.CcError.{CcError}
use Rattle.cc_entry.specs.declared.reply.Reply.TheVariants as reply
use Rattle.cc_entry.specs.declared.query.Value.TheVariants as value
use Rattle.cc_entry.specs.declared.reply.Outcome.TheVariants as outcome
use Rattle.cc_entry.specs.declared.answer.Answer.TheVariants as answer
use Rattle.cc_entry.specs.declared.answer.LineReply.{LineReply}
use Rattle.cc_entry.specs.declared.place.Request.{Request}
use Rattle.cc_entry.specs.declared.entry.Entry.{Entry}
use Rattle.cc_script.specs.declared.script.StreamLine.{StreamLine}
use Rattle.cc_model.specs.Setup.{Setup}
use Rattle.cc_effects.specs.Calls.{CallLeft}
use Rattle.cc_pieces.specs.Bindings.{Binding}
use Rattle.cc_pieces.specs.Openings.{first_object_of, opening_call, LoggedOpening}
use Rattle.cc_pieces.specs.Runs.{Ran}
use Rattle.cc_pieces.specs.Phases.{PhaseRan, PhasesRan}
use Rattle.cc_worked.specs.Values.{setup, a}
use Rattle.cc_worked.specs.PiecesReads.{first_byte, a_byte}
use Rattle.cc_worked.specs.PiecesRuns.{reads, asks, two_full, two_lines, plan_with}
use Rattle.cc_worked.proofs.Marks.{Mark, Ended, Marked, end_of, marked-idle, marked-then, marked-call, marked-left}

-- the object is initialised, and has its log
abbrev pub opened_marks : ℕ → StreamLine → Option ℕ → List Mark
opened_marks s stream None = Ended (opening_call s stream) (outcome.Done reply.Unit) ∷ []
opened_marks s stream (Some handle) =
    Ended (opening_call s stream) (outcome.Done reply.Unit) ∷ Ended (call.SetLog (first_object_of s) handle) (outcome.Done reply.Unit) ∷ []

given_not_refused : (e : CcError) → answer.Given reply.Unit ≡ answer.Refused e → ⊥
given_not_refused e same = absurd (cc)

pub opening-marked : (u : Setup) (s : ℕ) (stream : StreamLine) (log : Option ℕ) (old new : List Entry) → LoggedOpening u s (opening_call s stream) log (answer.Given reply.Unit) old new → Marked 0 (opened_marks s stream log) old new
opening-marked u s stream None old new left = marked-call u 0 (opening_call s stream) (outcome.Done reply.Unit) old new left refl
opening-marked u s stream (Some handle) old new (inl left) = absurd (given_not_refused left.0 left.1)
opening-marked u s stream (Some handle) old new (inr left) =
    marked-then 0 (Ended (opening_call s stream) (outcome.Done reply.Unit) ∷ []) (Ended (call.SetLog (first_object_of s) handle) (outcome.Done reply.Unit) ∷ []) old left.0 new
    (marked-call u 0 (opening_call s stream) (outcome.Done reply.Unit) old left.0 left.1 refl)
    (marked-call u 0 (call.SetLog (first_object_of s) handle) (outcome.Done reply.Unit) left.0 new left.2 refl)

-- a refused one: the first call was, or the second after it
pub refused-opening : (u : Setup) (s : ℕ) (stream : StreamLine) (handle : ℕ) (e : CcError) (old new : List Entry) → LoggedOpening u s (opening_call s stream) (Some handle) (answer.Refused e) old new → Marked 0 (end_of (opening_call s stream) (outcome.Failed e)) old new ⊎ Marked 0 (Ended (opening_call s stream) (outcome.Done reply.Unit) ∷ end_of (call.SetLog (first_object_of s) handle) (outcome.Failed e)) old new
refused-opening u s stream handle e old new (inl left) =
    let failed : CallLeft u 0 (opening_call s stream) (outcome.Failed e) old new = rw (sym (same_refusal e left.0 left.1)) at left.2 in
    inl (marked-left u 0 (opening_call s stream) (outcome.Failed e) old new failed)
  where
    same_refusal : (f g : CcError) → answer.Refused f ≡ answer.Refused g → f ≡ g
    same_refusal f g same = cc
refused-opening u s stream handle e old new (inr left) =
    inr
    (marked-then 0 (Ended (opening_call s stream) (outcome.Done reply.Unit) ∷ []) (end_of (call.SetLog (first_object_of s) handle) (outcome.Failed e)) old left.0 new
    (marked-call u 0 (opening_call s stream) (outcome.Done reply.Unit) old left.0 left.1 refl)
    (marked-left u 0 (call.SetLog (first_object_of s) handle) (outcome.Failed e) left.0 new left.2))

-- the two lines that read and ask
abbrev pub read_mark : Mark
read_mark = Ended first_byte (outcome.Done a_byte)

abbrev pub state_mark : Mark
state_mark = Ended (call.Query (query.State a)) (outcome.Done (reply.Value (value.State two_full)))

pub read-ran : (limit : ℕ) (bindings : List Binding) (old new : List Entry) → Ran setup limit 1 bindings ((reads, answer.Given a_byte) ∷ []) old new → Marked 1 (read_mark ∷ []) old new
read-ran limit bindings old new left =
    marked-then 1 (read_mark ∷ []) [] old left.0 new (marked-call setup 1 first_byte (outcome.Done a_byte) old left.0 left.1.served refl) (marked-idle 1 left.0 new left.2)

pub state-ran : (limit : ℕ) (bindings : List Binding) (old new : List Entry) → Ran setup limit 1 bindings ((asks, answer.Given (reply.Value (value.State two_full))) ∷ []) old new → Marked 1 (state_mark ∷ []) old new
state-ran limit bindings old new left =
    marked-then 1 (state_mark ∷ []) [] old left.0 new (marked-call setup 1 (call.Query (query.State a)) (outcome.Done (reply.Value (value.State two_full))) old left.0 left.1.served refl) (marked-idle 1 left.0 new left.2)

pub lines-ran : (limit : ℕ) (bindings : List Binding) (old new : List Entry) → Ran setup limit 1 bindings two_lines old new → Marked 1 (read_mark ∷ state_mark ∷ []) old new
lines-ran limit bindings old new left =
    marked-then 1 (read_mark ∷ []) (state_mark ∷ []) old left.0 new (marked-call setup 1 first_byte (outcome.Done a_byte) old left.0 left.1.served refl) (state-ran limit bindings left.0 new left.2)

not_writer : ◌≡◌ {A = ℕ} 1 17 → ⊥
not_writer same = omega (arith, same)

not_worker : ◌≡◌ {A = ℕ} 1 18 → ⊥
not_worker same = omega (arith, same)

pub phase-ran : (ticked stepped : List LineReply) (taken : List Request) (old new : List Entry) → PhaseRan setup (plan_with 0 0) 1 ticked stepped taken old new → Marked 1 (read_mark ∷ []) old new
phase-ran ticked stepped taken old new left = read-ran 4 [] old new (left.callers 1 not_writer not_worker)

pub phases-ran : (ticked stepped : List LineReply) (taken : List Request) (old new : List Entry) → PhasesRan setup (plan_with 0 0) 1 2 ticked stepped taken old new → Marked 1 (read_mark ∷ state_mark ∷ []) old new
phases-ran ticked stepped taken old new left =
    let first = read-ran 4 [] old left.0 (left.3.callers 1 not_writer not_worker) in
    let second = state-ran 4 [] left.0 left.4.0 (left.4.3.callers 1 not_writer not_worker) in
    let both = marked-then 1 (read_mark ∷ []) (state_mark ∷ []) old left.0 left.4.0 first second in
    rw left.4.4.3 both
