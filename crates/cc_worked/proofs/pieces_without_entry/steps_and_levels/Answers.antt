-- The page of the request comes in; the levels are those of the size at the one moment.
use Rattle.std.specs.Prelude.{◌≡◌, ℕ, suc, true, [], ◌∷◌, refl}
use Rattle.std.specs.declared.option.Option.TheVariants.{Some}
use Rattle.std.proofs.Common.{arith}
use Rattle.cc_entry.specs.declared.call.Call.TheVariants as call
use Rattle.cc_entry.specs.declared.reply.Reply.TheVariants as reply
use Rattle.cc_model.specs.History.{history}
use Rattle.cc_model.specs.Touches.{size_of}
use Rattle.cc_effects.proofs.Starts.{begins, brings, ends_done}
use Rattle.cc_model.specs.Reasons.{is_open}
use Rattle.cc_effects.proofs.Stretches.{idle-none}
use Rattle.cc_effects.proofs.Licences.{some-here}
use Rattle.cc_worked.specs.Values.{a, page, read_in}
use Rattle.cc_worked.specs.PiecesReads.{two_pages}
use Rattle.cc_worked.specs.PiecesWithoutEntry.{request}
use Rattle.cc_worked.proofs.PiecesOpened.{computed}
use Rattle.cc_worked.proofs.pieces_without_entry.steps_and_levels.Goals as goal

pub returns-clause-served : goal.returns-clause-served
unfolding computed
returns-clause-served c = (
  refl,
  ends_done 18 1 (Some 0) (call.AheadStep request) (reply.Whole true) two_pages (read_in 18 1 ∷ two_pages) (brings 18 (call.AheadStep request) two_pages two_pages (page 1) true (begins 18 (call.AheadStep request) two_pages) refl refl refl) refl (λ during. tt),
)

pub returns-clause-none : goal.returns-clause-none
returns-clause-none c = idle-none 18 two_pages

pub returns-clause-levels : goal.returns-clause-levels
unfolding computed
returns-clause-levels c = record { idle = idle-none 1 two_pages; had = record { moment = two_pages; later = []; since = []; ends = refl; begins = refl; holds = (refl, refl) } }

pub returns-clause-wrong_levels : goal.returns-clause-wrong_levels
unfolding computed
returns-clause-wrong_levels c left =
    let here = some-here (λ moment. (is_open (history moment 0) a ≡ true) × (1 ≡ suc (size_of (history moment 0)))) two_pages left.had in
    let same : ◌≡◌ {A = ℕ} 1 8193 = here.1 in
    omega (arith, same)
