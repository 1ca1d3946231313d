-- The rows of the table, and the count of failures, are computed from the entries.
use Rattle.std.specs.Prelude.{◌≡◌, ℕ, [], ◌∷◌, refl}
use Rattle.std.proofs.Common.{arith}
use Rattle.cc_pieces.specs.Table.{table_of}
use Rattle.cc_effects.specs.Failures.{failures}
use Rattle.cc_worked.specs.PiecesRuns.{stamped_row, unstamped_row}
use Rattle.cc_worked.proofs.PiecesOpened.{computed}
use Rattle.cc_worked.proofs.pieces_runs.table_and_failures_are_read_off.Goals as goal

pub returns-clause-both : goal.returns-clause-both
unfolding computed table_of
returns-clause-both c = refl

pub returns-clause-written : goal.returns-clause-written
unfolding computed table_of
returns-clause-written c = refl

pub returns-clause-none_left_out : goal.returns-clause-none_left_out
unfolding computed table_of
returns-clause-none_left_out c same = other same
  where
    other : stamped_row ∷ unstamped_row ∷ [] ≡ unstamped_row ∷ [] → ⊥
    other rows = absurd (cc)

pub returns-clause-counted : goal.returns-clause-counted
unfolding failures
returns-clause-counted c = refl

pub returns-clause-of_its_stream : goal.returns-clause-of_its_stream
unfolding failures
returns-clause-of_its_stream c = refl

pub returns-clause-no_more : goal.returns-clause-no_more
unfolding failures
returns-clause-no_more c same = let three : ◌≡◌ {A = ℕ} 3 4 = same in omega (arith, three)
