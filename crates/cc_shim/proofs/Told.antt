-- What follows of what a call was told.
use Rattle.std.specs.Prelude.{◌≡◌, ℕ, ◌+◌, ◌-◌, ◌/◌, ◌<◌, ◌≤◌, ◌^◌, ◌==◌, Bool, true, false, not, ◌&&◌, nat_lt, List, ◌∷◌, ◌++◌, refl}
use Rattle.std.specs.declared.option.Option.{Option}
use Rattle.std.specs.declared.option.Option.TheVariants.{None}
use Rattle.std.proofs.Common.{subst, arith}
use Rattle.std.proofs.Math.Nat.{div-add-mod, mod-lt}
use Rattle.std.proofs.lemmas.Bool.{eqb-true, ltb-false}
use Rattle.cc_entry.specs.Place.{File}
use Rattle.cc_entry.specs.declared.call.Call.{Call}
use Rattle.cc_entry.specs.declared.call.Call.TheVariants as call
use Rattle.cc_entry.specs.declared.query.Query.TheVariants as query
use Rattle.cc_entry.specs.declared.entry.Entry.{Entry}
use Rattle.cc_entry.specs.declared.entry.Entry.TheVariants as entry
use Rattle.cc_entry.specs.declared.error.CcError.TheVariants as error
use Rattle.cc_entry.specs.declared.place.FileState.{FileState}
use Rattle.cc_entry.specs.declared.reply.Outcome.{Outcome}
use Rattle.cc_entry.specs.declared.reply.Outcome.TheVariants as outcome
use Rattle.cc_entry.specs.declared.reply.Reply.TheVariants as reply
use Rattle.cc_entry.specs.declared.query.Value.TheVariants as value
use Rattle.cc_effects.specs.Calls.{CallLeft}
use Rattle.cc_effects.proofs.FrontLaws.{legal-tail, outcome-defined}
use Rattle.cc_laws.proofs.UnrefusedCalls.{refuse_if-none, unrefused}
use Rattle.cc_laws.proofs.SoundFacts.{size_of-good, valid_of-good}
use Rattle.cc_model.specs.Good.{IsGood}
use Rattle.cc_model.specs.History.{Effect, history}
use Rattle.cc_model.specs.Holds.{holds_of}
use Rattle.cc_model.specs.Legal.{IsLegal, IsLegalEntry, IsOutcome, stream_history}
use Rattle.cc_model.specs.Reasons.{crosses_blocks}
use Rattle.cc_model.specs.Refusals.{refusal}
use Rattle.cc_model.specs.Queries.{state_of}
use Rattle.cc_model.specs.Setup.{Setup}
use Rattle.cc_own.proofs.CallsKeep.{at-front, filed-stream}
use Rattle.cc_calls.proofs.Holding.{so-far}

legal-call : (u : Setup) (me nth : ℕ) (stream : Option ℕ) (it : Call) (answered : Outcome) (front : List Entry) → IsLegal u (entry.Call me nth stream it answered ∷ front) → IsOutcome u front me stream it answered
unfolding IsLegal IsLegalEntry
legal-call u me nth stream it answered front legal = legal.0

-- the sizes that a caller is told lie below 2^63
pub state-small : (u : Setup) (me : ℕ) (file : File) (state : FileState) (old new : List Entry) → CallLeft u me (call.Query (query.State file)) (outcome.Done (reply.Value (value.State state))) old new → IsGood u new → (state.sizes.valid < 2 ^ 63) × (state.sizes.size < 2 ^ 63)
state-small u me file state old new left good =
    let p = left.placed in
    let front = at-front u me (call.Query (query.State file)) (outcome.Done (reply.Value (value.State state))) left.earlier old new p (so-far u new good) in
    let here = filed-stream (holds_of (stream_history (left.earlier ++ old) p.stream)) me p.stream (call.Query (query.State file)) file refl p.filed in
    let tail : IsLegal u (entry.Call me p.nth p.stream (call.Query (query.State file)) (outcome.Done (reply.Value (value.State state))) ∷ (left.earlier ++ old)) = legal-tail u p.later _ (rw p.grew at good.legal) in
    let told = legal-call u me p.nth p.stream (call.Query (query.State file)) (outcome.Done (reply.Value (value.State state))) (left.earlier ++ old) tail in
    let is : reply.Value (value.State state) ≡ reply.Value (value.State (state_of (history (left.earlier ++ old) file.stream))) =
    subst (λ (o : Option ℕ). reply.Value (value.State state) ≡ reply.Value (value.State (state_of (stream_history (left.earlier ++ old) o)))) here told.1 in
    let same : state ≡ state_of (history (left.earlier ++ old) file.stream) = inner _ is in
    let valid = valid_of-good u (left.earlier ++ old) file.stream front in
    let size = size_of-good u (left.earlier ++ old) file.stream front in
    rw same (below _ _ valid size, size)
  where
    inner : (x : FileState) → reply.Value (value.State state) ≡ reply.Value (value.State x) → state ≡ x
    inner x same = cc

    below : (v s : ℕ) → v ≤ s → s < 2 ^ 63 → v < 2 ^ 63
    below v s within small = omega (arith, within, small)

one-block : (at n : ℕ) → crosses_blocks at n ≡ false → n ≤ 262144
one-block at n is = by (nat_lt 0 n) (at / 262144 == ((at + n) - 1) / 262144) refl refl is
  where
    by : (some same : Bool) → nat_lt 0 n ≡ some → (at / 262144 == ((at + n) - 1) / 262144) ≡ same → (some && not same) ≡ false → n ≤ 262144
    by false same none is not_crossed = omega (arith, ltb-false 0 n none)
    by true false some is not_crossed = absurd (cc)
    by true true some is not_crossed =
        let block = eqb-true (at / 262144) (((at + n) - 1) / 262144) is in
        let above : 0 < 262144 = omega arith in
        omega (arith, block, div-add-mod at 262144, div-add-mod ((at + n) - 1) 262144, mod-lt at above, mod-lt ((at + n) - 1) above)

admitted-short : (u : Setup) (past : List Entry) (h : List Effect) (file : File) (at len : ℕ) (exclusive : Bool) → refusal u past h (call.PinRead file at len exclusive) ≡ None → len ≤ 262144
admitted-short u past h file at len exclusive is =
    let fine = unrefused u past h (call.PinRead file at len exclusive) is in
    one-block at len (refuse_if-none (crosses_blocks at len) error.ViewBoundary fine.in_one_block)

-- what was pinned lies in one view block
pub pinned-short : (u : Setup) (me : ℕ) (file : File) (at len id : ℕ) (old made later : List Entry) → CallLeft u me (call.PinRead file at len true) (outcome.Done (reply.Hold id)) old made → IsGood u (later ++ made) → len < 2 ^ 32
pinned-short u me file at len id old made later left good =
    let d = outcome-defined u me (call.PinRead file at len true) (outcome.Done (reply.Hold id)) old made later good left refl in
    omega (arith, admitted-short u _ _ file at len true d.5.0)
