-- The calls of the caller, by their ends, and the idleness of the others.
use Rattle.std.specs.Prelude.{◌≡◌, ℕ, [], ◌∷◌, ◌++◌}
use Rattle.std.specs.declared.option.Option.TheVariants.{None}
use Rattle.std.proofs.Common.{arith, sym}
use Rattle.std.proofs.lemmas.List.{append_cancel_right}
use Rattle.cc_entry.specs.declared.answer.Answer.TheVariants as answer
use Rattle.cc_effects.specs.Moments.{Others}
use Rattle.cc_worked.specs.PiecesReads.{two_pages}
use Rattle.cc_worked.specs.PiecesRuns.{reads_and_asks, asks_and_reads, one_step, stranger_beside}
use Rattle.cc_worked.proofs.PiecesOpened.{neither}
use Rattle.cc_worked.proofs.Marks.{marks, shows}
use Rattle.cc_worked.proofs.RunMarks.{read_mark, state_mark, phase-ran, phases-ran}
use Rattle.cc_worked.proofs.RunsRight.{first-phase, phase-with-steps, two-phases}
use Rattle.cc_worked.proofs.pieces_runs.phases_run_one_after_the_other.Goals as goal

pub returns-clause-ran : goal.returns-clause-ran
returns-clause-ran c = first-phase

pub returns-clause-both : goal.returns-clause-both
returns-clause-both c = two-phases

pub returns-clause-no_request : goal.returns-clause-no_request
returns-clause-no_request c = phase-with-steps

pub returns-clause-not_ended : goal.returns-clause-not_ended
returns-clause-not_ended c left = neither few (λ ended. other ended.1) left.all_steps
  where
    few : ◌≡◌ {A = ℕ} 1 2 → ⊥
    few same = omega (arith, same)

    other : one_step.answer ≡ answer.Stepped None → ⊥
    other same = absurd (cc)

not_writer : ◌≡◌ {A = ℕ} 2 17 → ⊥
not_writer same = omega (arith, same)

not_worker : ◌≡◌ {A = ℕ} 2 18 → ⊥
not_worker same = omega (arith, same)

pub returns-clause-no_stranger : goal.returns-clause-no_stranger
returns-clause-no_stranger c left =
    let idle = left.callers 2 not_writer not_worker in
    let during : stranger_beside ≡ idle.during = append_cancel_right stranger_beside idle.during two_pages idle.grew in
    mine (rw (sym during) at idle.others)
  where
    mine : Others 2 stranger_beside → ⊥
    mine others = absurd (cc others.0)

pub returns-clause-no_later_line : goal.returns-clause-no_later_line
returns-clause-no_later_line c left =
    other (shows 1 (read_mark ∷ []) reads_and_asks two_pages (phase-ran [] [] [] two_pages (reads_and_asks ++ two_pages) left))
  where
    other : marks 1 reads_and_asks ≡ read_mark ∷ [] → ⊥
    other same = absurd (cc)

pub returns-clause-in_order : goal.returns-clause-in_order
returns-clause-in_order c left =
    other (shows 1 (read_mark ∷ state_mark ∷ []) asks_and_reads two_pages (phases-ran [] [] [] two_pages (asks_and_reads ++ two_pages) left))
  where
    other : marks 1 asks_and_reads ≡ read_mark ∷ state_mark ∷ [] → ⊥
    other same = absurd (cc)
