-- The answers are looked at one by one.
use Rattle.std.specs.Prelude.{◌≡◌, ℕ, List, [], ◌∷◌, ◌++◌, refl}
use Rattle.std.specs.declared.option.Option.{Option}
use Rattle.std.specs.declared.option.Option.TheVariants.{Some, None}
use Rattle.std.proofs.Common.{arith}
use Rattle.cc_entry.specs.declared.answer.LineReply.{LineReply}
use Rattle.cc_entry.specs.declared.place.Request.{Request}
use Rattle.cc_effects.proofs.Stretches.{idle-none}
use Rattle.cc_worked.specs.PiecesReads.{two_pages}
use Rattle.cc_pieces.specs.Answered.{AheadAnswered}
use Rattle.cc_pieces.specs.Phases.{with_request}
use Rattle.cc_worked.specs.Values.{setup}
use Rattle.cc_worked.specs.PiecesWithoutEntry.{dirty, page_of_tick, request}
use Rattle.cc_worked.specs.PiecesLines.{no_request}
use Rattle.cc_worked.proofs.Ticks.{ticked}
use Rattle.cc_worked.proofs.pieces_lines.workers_run_in_their_phase.Goals as goal

pub returns-clause-ticked : goal.returns-clause-ticked
returns-clause-ticked c = (
  page_of_tick ++ dirty,
  refl,
  ticked,
  tt,
  idle-none 17 (page_of_tick ++ dirty),
)

pub returns-clause-of_this_phase : goal.returns-clause-of_this_phase
returns-clause-of_this_phase c left = let same : ◌≡◌ {A = ℕ} 2 1 = left.1 in omega (arith, same)

pub returns-clause-none : goal.returns-clause-none
returns-clause-none c = (two_pages, None, [], refl, refl, idle-none 18 two_pages, tt, (λ none. refl), (refl, idle-none 18 two_pages))

pub returns-clause-none_is_last : goal.returns-clause-none_is_last
returns-clause-none_is_last c left = by left.1 left.5 left.7
  where
    another : ◌≡◌ {A = List LineReply} (no_request ∷ []) [] → ⊥
    another same = absurd (cc)

    by : (request : Option Request) → AheadAnswered setup 18 request no_request.answer two_pages left.0 → (request ≡ None → ◌≡◌ {A = List LineReply} (no_request ∷ []) []) → ⊥
    by None answered last = another (last refl)
    by (Some taken) answered last = absurd answered

-- the step says that there was no request, so it took none, and none came after it
pub returns-clause-none_taken : goal.returns-clause-none_taken
returns-clause-none_taken c left = by left.1 left.2 left.3 left.5 left.8.0
  where
    by : (first : Option Request) (others : List Request) → request ∷ [] ≡ with_request first others → AheadAnswered setup 18 first no_request.answer two_pages left.0 → others ≡ [] → ⊥
    by None others same answered none = absurd (cc)
    by (Some taken) others same answered none = absurd answered
