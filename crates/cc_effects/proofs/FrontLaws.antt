-- The entry of a call: where it stands, and what a good journal says of it.
use Rattle.std.specs.Prelude.{◌≡◌, ℕ, true, List, [], ◌∷◌, ◌++◌, refl, ◌⊎◌}
use Rattle.std.specs.declared.option.Option.{Option}
use Rattle.std.proofs.Common.{inl, inr, append_assoc, eq-eqb}
use Rattle.cc_entry.specs.declared.call.Call.{Call}
use Rattle.cc_entry.specs.declared.error.CcError.{CcError}
use Rattle.cc_entry.specs.declared.error.CcError.TheVariants as error
use Rattle.cc_entry.specs.declared.reply.Outcome.{Outcome}
use Rattle.cc_entry.specs.declared.reply.Outcome.TheVariants as outcome
use Rattle.cc_entry.specs.declared.entry.Entry.{Entry}
use Rattle.cc_entry.specs.declared.entry.Entry.TheVariants as entry
use Rattle.cc_model.specs.Setup.{Setup}
use Rattle.cc_model.specs.Passes.{HasSeen, WasPlaced}
use Rattle.cc_model.specs.Legal.{IsLegal, IsLegalEntry, IsOutcome}
use Rattle.cc_model.specs.Allowed.{MayCall, IsAllowedSoFar, IsAllowed}
use Rattle.cc_model.specs.Good.{IsGood}
use Rattle.cc_effects.specs.Calls.{IsPlaced, IsRefused, IsOvertaken, CallLeft, leaves_entry}

-- a call that leaves an entry has placed it
pub placed-of : (u : Setup) (me : ℕ) (it : Call) (answered : Outcome) (old new : List Entry) → CallLeft u me it answered old new → leaves_entry answered ≡ true → (earlier : List Entry) × IsPlaced me it answered earlier old new
placed-of u me it (outcome.Done r) old new left leaves = (left.earlier, left.placed)
placed-of u me it (outcome.Failed (error.JournalFull entries)) old new left leaves = absurd (cc)
placed-of u me it (outcome.Failed error.NoMemory) old new left leaves = absurd (cc)
placed-of u me it (outcome.Failed (error.ReadFault page)) old new left leaves = (left.earlier, left.placed)
placed-of u me it (outcome.Failed (error.WriteFault page)) old new left leaves = (left.earlier, left.placed)
placed-of u me it (outcome.Failed (error.LogFault handle)) old new left leaves = (left.earlier, left.placed)
placed-of u me it (outcome.Failed e) old new left leaves = by e left
  where
    by : (e : CcError) → IsRefused me it e old new ⊎ IsOvertaken u me it e old new → (earlier : List Entry) × IsPlaced me it (outcome.Failed e) earlier old new
    by e (inl is) = (is.earlier, is.placed)
    by e (inr is) = (is.earlier, is.placed)

seen-placed : (me : ℕ) (it : Call) (answered : Outcome) (earlier old new seen : List Entry) → IsPlaced me it answered earlier old new → HasSeen seen old → (nth : ℕ) × (stream : Option ℕ) × WasPlaced me (entry.Call me nth stream it answered) seen new
seen-placed me it answered earlier old new seen p has = (
  p.nth,
  p.stream,
  record {
    later = p.later;
    earlier = earlier ++ has.later;
    grew = rw (append_assoc p.later (entry.Call me p.nth p.stream it answered ∷ (earlier ++ has.later)) seen) (rw (append_assoc earlier has.later seen) (rw has.grew at p.grew));
    is_own = eq-eqb me me refl;
  },
)

-- the entry of a call stands after all that its pass had seen as the call began
pub stands-after-seen : (u : Setup) (me : ℕ) (it : Call) (answered : Outcome) (seen old new : List Entry) → HasSeen seen old → CallLeft u me it answered old new → leaves_entry answered ≡ true → (nth : ℕ) × (stream : Option ℕ) × WasPlaced me (entry.Call me nth stream it answered) seen new
stands-after-seen u me it answered seen old new has left leaves =
    let p = placed-of u me it answered old new left leaves in
    seen-placed me it answered p.0 old new seen p.1 has

-- what stands below a legal journal's newest entries is legal
pub legal-tail : (u : Setup) (later past : List Entry) → IsLegal u (later ++ past) → IsLegal u past
unfolding IsLegal
legal-tail u [] past legal = legal
legal-tail u (e ∷ later) past legal = legal-tail u later past legal.1

legal-call : (u : Setup) (me nth : ℕ) (stream : Option ℕ) (it : Call) (answered : Outcome) (front : List Entry) → IsLegal u (entry.Call me nth stream it answered ∷ front) → IsOutcome u front me stream it answered
unfolding IsLegal IsLegalEntry
legal-call u me nth stream it answered front legal = legal.0

-- in a good journal the outcome of a call is the one that its front defines
pub outcome-defined : (u : Setup) (me : ℕ) (it : Call) (answered : Outcome) (old new newer : List Entry) → IsGood u (newer ++ new) → CallLeft u me it answered old new → leaves_entry answered ≡ true → (nth : ℕ) × (stream : Option ℕ) × (later : List Entry) × (earlier : List Entry) × (new ≡ later ++ (entry.Call me nth stream it answered ∷ (earlier ++ old))) × IsOutcome u (earlier ++ old) me stream it answered
outcome-defined u me it answered old new newer good left leaves =
    let p = placed-of u me it answered old new left leaves in
    let tail : IsLegal u new = legal-tail u newer new good.legal in
    let front : IsLegal u (entry.Call me p.1.nth p.1.stream it answered ∷ (p.0 ++ old)) = legal-tail u p.1.later _ (rw p.1.grew at tail) in
    (p.1.nth, p.1.stream, p.1.later, p.0, p.1.grew, legal-call u me p.1.nth p.1.stream it answered (p.0 ++ old) front)

allowed-tail : (u : Setup) (later past : List Entry) → IsAllowedSoFar u (later ++ past) → IsAllowedSoFar u past
unfolding IsAllowedSoFar
allowed-tail u [] past allowed = allowed
allowed-tail u (e ∷ later) past allowed = allowed-tail u later past allowed.2

allowed-call : (u : Setup) (me nth : ℕ) (stream : Option ℕ) (it : Call) (answered : Outcome) (front : List Entry) → IsAllowedSoFar u (entry.Call me nth stream it answered ∷ front) → MayCall u front me nth stream it answered
unfolding IsAllowedSoFar
allowed-call u me nth stream it answered front allowed = allowed.1

so-far : (u : Setup) (past : List Entry) → IsAllowed u past → IsAllowedSoFar u past
unfolding IsAllowed
so-far u past allowed = allowed.0

-- in a good journal the entry of a call may stand where it does
pub may-stand : (u : Setup) (me : ℕ) (it : Call) (answered : Outcome) (old new newer : List Entry) → IsGood u (newer ++ new) → CallLeft u me it answered old new → leaves_entry answered ≡ true → (nth : ℕ) × (stream : Option ℕ) × (later : List Entry) × (earlier : List Entry) × (new ≡ later ++ (entry.Call me nth stream it answered ∷ (earlier ++ old))) × MayCall u (earlier ++ old) me nth stream it answered
may-stand u me it answered old new newer good left leaves =
    let p = placed-of u me it answered old new left leaves in
    let tail : IsAllowedSoFar u new = allowed-tail u newer new (so-far u (newer ++ new) good.allowed) in
    let front : IsAllowedSoFar u (entry.Call me p.1.nth p.1.stream it answered ∷ (p.0 ++ old)) = allowed-tail u p.1.later _ (rw p.1.grew at tail) in
    (p.1.nth, p.1.stream, p.1.later, p.0, p.1.grew, allowed-call u me p.1.nth p.1.stream it answered (p.0 ++ old) front)
