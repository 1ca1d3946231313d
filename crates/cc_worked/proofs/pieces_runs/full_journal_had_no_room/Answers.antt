-- The room at one of the moments.
use Rattle.std.specs.Prelude.{◌≡◌, ℕ, ◌<◌, [], ◌++◌, length, refl}
use Rattle.std.proofs.Common.{arith}
use Rattle.cc_model.specs.Room.{room_in}
use Rattle.cc_effects.proofs.Licences.{some-here}
use Rattle.cc_worked.specs.PiecesReads.{two_pages, page_alone}
use Rattle.cc_worked.specs.PiecesRuns.{of_capacity}
use Rattle.cc_worked.proofs.PiecesOpened.{computed}
use Rattle.cc_worked.proofs.pieces_runs.full_journal_had_no_room.Goals as goal

pub returns-clause-full : goal.returns-clause-full
unfolding computed
returns-clause-full c =
    let few : 3 < 4 = omega arith in
    record { moment = two_pages; later = []; since = []; ends = refl; begins = refl; holds = (refl, few) }

pub returns-clause-meanwhile : goal.returns-clause-meanwhile
unfolding computed
returns-clause-meanwhile c =
    let few : 3 < 4 = omega arith in
    record { moment = page_alone ++ two_pages; later = []; since = page_alone; ends = refl; begins = refl; holds = (refl, few) }

pub returns-clause-noncached : goal.returns-clause-noncached
unfolding computed
returns-clause-noncached c =
    let few : 3 < 4 = omega arith in
    record { moment = two_pages; later = []; since = []; ends = refl; begins = refl; holds = (refl, few) }

pub returns-clause-not_so_many : goal.returns-clause-not_so_many
returns-clause-not_so_many c left =
    let here = some-here (λ moment. (2 ≡ length moment) × (room_in (of_capacity 4) moment 0 < 4)) two_pages left in
    let one : ◌≡◌ {A = ℕ} 2 1 = here.0 in
    omega (arith, one)
