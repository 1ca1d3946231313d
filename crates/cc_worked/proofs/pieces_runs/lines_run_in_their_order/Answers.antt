-- The calls of the caller, by their ends.
use Rattle.std.specs.Prelude.{◌≡◌, true, [], ◌∷◌, ◌++◌, refl}
use Rattle.std.specs.declared.option.Option.TheVariants.{Some}
use Rattle.cc_entry.specs.declared.reply.Outcome.TheVariants as outcome
use Rattle.cc_effects.specs.Calls.{CallLeft}
use Rattle.cc_effects.proofs.Starts.{begins, brings, ends_done}
use Rattle.cc_effects.proofs.Stretches.{idle-none}
use Rattle.cc_worked.specs.Values.{setup, page, read_in}
use Rattle.cc_worked.specs.PiecesReads.{two_pages, first_byte, a_byte, page_comes_in}
use Rattle.cc_worked.specs.PiecesRuns.{two_full, reads_and_asks, asks_and_reads, asks_twice}
use Rattle.cc_worked.proofs.PiecesOpened.{computed}
use Rattle.cc_worked.proofs.Marks.{marks, marked-call, shows}
use Rattle.cc_worked.proofs.RunMarks.{read_mark, state_mark, lines-ran}
use Rattle.cc_worked.proofs.StateAsked.{state-told}
use Rattle.cc_worked.proofs.pieces_runs.lines_run_in_their_order.Goals as goal

its_read : CallLeft setup 1 first_byte (outcome.Done a_byte) two_pages (page_comes_in ++ two_pages)
unfolding computed
its_read =
    ends_done 1 1 (Some 0) first_byte a_byte two_pages (read_in 1 0 ∷ two_pages) (brings 1 first_byte two_pages two_pages (page 0) true (begins 1 first_byte two_pages) refl refl refl) refl (λ during. tt)

pub returns-clause-explained : goal.returns-clause-explained
returns-clause-explained c = record { served = its_read; room = tt }

pub returns-clause-ran : goal.returns-clause-ran
returns-clause-ran c = (
  page_comes_in ++ two_pages,
  record { served = its_read; room = tt },
  (reads_and_asks ++ two_pages, record { served = state-told 2 two_full (page_comes_in ++ two_pages); room = tt }, idle-none 1 (reads_and_asks ++ two_pages)),
)

pub returns-clause-nothing_asked : goal.returns-clause-nothing_asked
returns-clause-nothing_asked c = record { during = reads_and_asks; grew = refl; others = (refl, (refl, (refl, tt))) }

pub returns-clause-by_its_caller : goal.returns-clause-by_its_caller
returns-clause-by_its_caller c left =
    other (shows 2 (read_mark ∷ []) page_comes_in two_pages (marked-call setup 2 first_byte (outcome.Done a_byte) two_pages (page_comes_in ++ two_pages) left.served refl))
  where
    other : marks 2 page_comes_in ≡ read_mark ∷ [] → ⊥
    other same = absurd (cc)

pub returns-clause-in_order : goal.returns-clause-in_order
returns-clause-in_order c left =
    other (shows 1 (read_mark ∷ state_mark ∷ []) asks_and_reads two_pages (lines-ran 32 [] two_pages (asks_and_reads ++ two_pages) left))
  where
    other : marks 1 asks_and_reads ≡ read_mark ∷ state_mark ∷ [] → ⊥
    other same = absurd (cc)

pub returns-clause-each_line : goal.returns-clause-each_line
returns-clause-each_line c left =
    other (shows 1 (read_mark ∷ state_mark ∷ []) page_comes_in two_pages (lines-ran 32 [] two_pages (page_comes_in ++ two_pages) left))
  where
    other : marks 1 page_comes_in ≡ read_mark ∷ state_mark ∷ [] → ⊥
    other same = absurd (cc)

pub returns-clause-no_more : goal.returns-clause-no_more
returns-clause-no_more c left =
    other (shows 1 (read_mark ∷ state_mark ∷ []) asks_twice two_pages (lines-ran 32 [] two_pages (asks_twice ++ two_pages) left))
  where
    other : marks 1 asks_twice ≡ read_mark ∷ state_mark ∷ [] → ⊥
    other same = absurd (cc)
