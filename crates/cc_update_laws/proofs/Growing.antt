-- What a call, an append or others leave stands behind what was there.
use Rattle.std.specs.Prelude.{◌≡◌, ℕ, List, [], ◌∷◌, ◌++◌, refl}
use Rattle.std.proofs.Common.{ap, sym, subst, ◌∙◌, append_assoc}
use Rattle.cc_entry.specs.declared.call.Call.{Call}
use Rattle.cc_entry.specs.declared.entry.Entry.{Entry}
use Rattle.cc_entry.specs.declared.entry.Entry.TheVariants as entry
use Rattle.cc_entry.specs.declared.error.CcError.{CcError}
use Rattle.cc_entry.specs.declared.error.CcError.TheVariants as error
use Rattle.cc_entry.specs.declared.reply.Outcome.{Outcome}
use Rattle.cc_entry.specs.declared.reply.Outcome.TheVariants as outcome
use Rattle.cc_model.specs.Good.{IsGoodSoFar}
use Rattle.cc_model.specs.Setup.{Setup}
use Rattle.cc_effects.specs.Calls.{CallLeft}
use Rattle.cc_effects.specs.LogCalls.{AppendRefused}
use Rattle.cc_effects.specs.Moments.{IsIdle, PlacedOnly}
use Rattle.cc_effects.proofs.FrontLaws.{placed-of}
use Rattle.cc_own.proofs.CallsKeep.{good-tail}

abbrev pub IsGrown : List Entry → List Entry → Type 0
IsGrown old new = (during : List Entry) × (new ≡ during ++ old)

pub grown-none : (past : List Entry) → IsGrown past past
grown-none past = ([], refl)

pub grown-then : (old between new : List Entry) → IsGrown old between → IsGrown between new → IsGrown old new
grown-then old between new first second = (
  second.0 ++ first.0,
  second.1 ∙ (ap (λ (l : List Entry). second.0 ++ l) first.1 ∙ sym (append_assoc second.0 first.0 old)),
)

pub good-grown : (u : Setup) (old new : List Entry) → IsGrown old new → IsGoodSoFar u new → IsGoodSoFar u old
good-grown u old new grown good = good-tail u grown.0 old (subst (λ (l : List Entry). IsGoodSoFar u l) grown.1 good)

-- an entry behind others, and what follows it
pub entry-grown : (e : Entry) (later front new : List Entry) → new ≡ later ++ e ∷ front → IsGrown (e ∷ front) new
entry-grown e later front new is = (later, is)

pub front-grown : (e : Entry) (front : List Entry) → IsGrown front (e ∷ front)
front-grown e front = (e ∷ [], refl)

pub call-grown : (u : Setup) (me : ℕ) (it : Call) (answered : Outcome) (old new : List Entry) → CallLeft u me it answered old new → IsGrown old new
call-grown u me it (outcome.Done r) old new left =
    let p = left.placed in
    (p.later ++ entry.Call me p.nth p.stream it (outcome.Done r) ∷ left.earlier, p.grew ∙ sym (append_assoc p.later (entry.Call me p.nth p.stream it (outcome.Done r) ∷ left.earlier) old))
call-grown u me it (outcome.Failed (error.JournalFull entries)) old new left = (left.during, left.grew)
call-grown u me it (outcome.Failed error.NoMemory) old new left = (left.during, left.grew)
call-grown u me it (outcome.Failed e) old new left =
    let p = placed-of u me it (outcome.Failed e) old new left refl in
    (p.1.later ++ entry.Call me p.1.nth p.1.stream it (outcome.Failed e) ∷ p.0, p.1.grew ∙ sym (append_assoc p.1.later (entry.Call me p.1.nth p.1.stream it (outcome.Failed e) ∷ p.0) old))

pub idle-grown : (me : ℕ) (old new : List Entry) → IsIdle me old new → IsGrown old new
idle-grown me old new idle = (idle.during, idle.grew)

pub only-grown : (me : ℕ) (e : Entry) (old new : List Entry) → PlacedOnly me e old new → IsGrown old new
only-grown me e old new only = (only.later ++ e ∷ only.earlier, only.grew ∙ sym (append_assoc only.later (e ∷ only.earlier) old))

pub refused-grown : (u : Setup) (me handle : ℕ) (e : CcError) (old new : List Entry) → AppendRefused u me handle e old new → IsGrown old new
refused-grown u me handle (error.NoLog missing) old new left = idle-grown me old new left.2
refused-grown u me handle (error.LogFull full) old new left = idle-grown me old new left.2
refused-grown u me handle (error.LogFault failed) old new left = only-grown me (entry.LogFailed me handle) old new left.2.1
refused-grown u me handle (error.JournalFull entries) old new left = idle-grown me old new left
refused-grown u me handle error.NoMemory old new left = idle-grown me old new left
refused-grown u me handle other old new left = absurd left
