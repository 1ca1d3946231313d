-- By what the restart of a log was refused, where no more lines are answered.
use Rattle.std.specs.Prelude.{◌≡◌, ℕ, zero, suc, ◌≤◌, ◌==◌, true, false, List, [], ◌∷◌, cond, drop, length, slice_get, refl}
use Rattle.std.specs.declared.option.Option.TheVariants.{Some, None}
use Rattle.std.proofs.Common.{ap, sym, ◌∙◌, arith}
use Rattle.cc_entry.specs.declared.answer.LineReply.{LineReply}
use Rattle.cc_script.specs.declared.script.RestartLine.{RestartLine}
use Rattle.cc_pieces.specs.Restarts.{refusal_told, refused_restart}

module _ (handle : ℕ) where
  -- it has no reply, or there is none
  pub refused-unanswered : (n : ℕ) (restarts : List RestartLine) (replies : List LineReply) → length replies ≤ n → refused_restart handle (drop n restarts) (drop n replies) ≡ None
  refused-unanswered zero [] replies few = refl
  refused-unanswered zero (r ∷ restarts) [] few = refl
  refused-unanswered zero (r ∷ restarts) (p ∷ replies) few = absurd (omega (arith, few))
  refused-unanswered (suc n) [] [] few = refl
  refused-unanswered (suc n) (r ∷ restarts) [] few = by (drop n restarts)
    where
      by : (l : List RestartLine) → refused_restart handle l [] ≡ None
      by [] = refl
      by (x ∷ l) = refl
  refused-unanswered (suc n) [] (p ∷ replies) few = refl
  refused-unanswered (suc n) (r ∷ restarts) (p ∷ replies) few = refused-unanswered n restarts replies (omega (arith, few))
