-- What a good journal says of the entry of a call, wherever it stands.
use Rattle.std.specs.Prelude.{◌≡◌, ℕ, List, ◌∷◌, ◌++◌}
use Rattle.std.specs.declared.option.Option.{Option}
use Rattle.std.proofs.Common.{subst}
use Rattle.cc_entry.specs.declared.call.Call.{Call}
use Rattle.cc_entry.specs.declared.entry.Entry.{Entry}
use Rattle.cc_entry.specs.declared.entry.Entry.TheVariants as entry
use Rattle.cc_entry.specs.declared.reply.Outcome.{Outcome}
use Rattle.cc_model.specs.Allowed.{IsAllowedSoFar, MayCall}
use Rattle.cc_model.specs.Good.{IsGood, IsGoodSoFar}
use Rattle.cc_model.specs.Legal.{IsLegal, IsLegalEntry, IsOutcome}
use Rattle.cc_model.specs.Setup.{Setup}
use Rattle.cc_own.proofs.CallsKeep.{good-tail}
use Rattle.cc_step.proofs.Placed.{so-far}

may-here : (u : Setup) (me nth : ℕ) (stream : Option ℕ) (it : Call) (ended : Outcome) (front : List Entry) → IsGoodSoFar u (entry.Call me nth stream it ended ∷ front) → MayCall u front me nth stream it ended
unfolding IsAllowedSoFar
may-here u me nth stream it ended front good = good.allowed.1

outcome-here : (u : Setup) (me nth : ℕ) (stream : Option ℕ) (it : Call) (ended : Outcome) (front : List Entry) → IsGoodSoFar u (entry.Call me nth stream it ended ∷ front) → IsOutcome u front me stream it ended
unfolding IsLegal IsLegalEntry
outcome-here u me nth stream it ended front good = good.legal.0

module _ (u : Setup) (me nth : ℕ) (stream : Option ℕ) (it : Call) (ended : Outcome) (later front new : List Entry)
    (grew : new ≡ later ++ (entry.Call me nth stream it ended ∷ front)) (good : IsGood u new) where
  good-front : IsGoodSoFar u (entry.Call me nth stream it ended ∷ front)
  good-front = good-tail u later (entry.Call me nth stream it ended ∷ front) (subst (λ (past : List Entry). IsGoodSoFar u past) grew (so-far u new good))

  -- it may stand there
  pub may-stand : MayCall u front me nth stream it ended
  may-stand = may-here u me nth stream it ended front good-front

  -- and its outcome is the one that its front defines
  pub outcome-is : IsOutcome u front me stream it ended
  outcome-is = outcome-here u me nth stream it ended front good-front
