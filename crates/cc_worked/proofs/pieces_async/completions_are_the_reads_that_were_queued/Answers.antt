-- The entry of the read has the answer of the completion; another answer, or another read, shows another end.
use Rattle.std.specs.Prelude.{◌≡◌, ℕ, true, List, [], ◌∷◌, ◌++◌, refl}
use Rattle.std.specs.declared.option.Option.TheVariants.{Some}
use Rattle.std.proofs.Common.{ap, arith}
use Rattle.cc_entry.specs.declared.call.Call.TheVariants as call
use Rattle.cc_entry.specs.declared.error.CcError.TheVariants as error
use Rattle.cc_entry.specs.declared.reply.Outcome.TheVariants as outcome
use Rattle.cc_effects.proofs.Starts.{begins, brings, ends_done, ends_unread}
use Rattle.cc_effects.proofs.Stretches.{idle-none}
use Rattle.cc_worked.specs.Values.{setup, a, page, read_in}
use Rattle.cc_worked.specs.PiecesReads.{two_pages, first_byte, first_resident, a_byte, fill_fails, page_comes_in, read_without_waiting}
use Rattle.cc_worked.proofs.PiecesOpened.{computed}
use Rattle.cc_worked.proofs.Marks.{Ended, Mark, marks, marked-call, marked-idle, shows}
use Rattle.cc_worked.proofs.pieces_async.completions_are_the_reads_that_were_queued.Goals as goal

pub returns-clause-reads : goal.returns-clause-reads
unfolding computed
returns-clause-reads c =
    ends_done 1 1 (Some 0) first_byte a_byte two_pages (read_in 1 0 ∷ two_pages) (brings 1 first_byte two_pages two_pages (page 0) true (begins 1 first_byte two_pages) refl refl refl) refl (λ during. tt)

pub returns-clause-fails : goal.returns-clause-fails
unfolding computed
returns-clause-fails c = ends_unread 1 1 (Some 0) first_byte (page 0) two_pages two_pages (begins 1 first_byte two_pages) refl refl refl refl refl

pub returns-clause-none : goal.returns-clause-none
returns-clause-none c = idle-none 1 two_pages

pub returns-clause-none_was_queued : goal.returns-clause-none_was_queued
returns-clause-none_was_queued c left = other (shows 1 [] page_comes_in two_pages (marked-idle 1 two_pages (page_comes_in ++ two_pages) left))
  where
    other : marks 1 page_comes_in ≡ [] → ⊥
    other same = absurd (cc)

pub returns-clause-no_other_place : goal.returns-clause-no_other_place
returns-clause-no_other_place c left =
    other (shows 1 (Ended (call.CopyRead a 1 1 true) (outcome.Done a_byte) ∷ []) page_comes_in two_pages
    (marked-call setup 1 (call.CopyRead a 1 1 true) (outcome.Done a_byte) two_pages (page_comes_in ++ two_pages) left refl))
  where
    place_of : List Mark → ℕ
    place_of (Ended (call.CopyRead file at len wait) answered ∷ more) = at
    place_of other = 0

    other : marks 1 page_comes_in ≡ Ended (call.CopyRead a 1 1 true) (outcome.Done a_byte) ∷ [] → ⊥
    other same = let at : ◌≡◌ {A = ℕ} 0 1 = ap place_of same in omega (arith, at)

pub returns-clause-no_other_answer : goal.returns-clause-no_other_answer
returns-clause-no_other_answer c left =
    other (shows 1 (Ended first_byte (outcome.Failed (error.ReadFault 0)) ∷ []) page_comes_in two_pages
    (marked-call setup 1 first_byte (outcome.Failed (error.ReadFault 0)) two_pages (page_comes_in ++ two_pages) left refl))
  where
    other : marks 1 page_comes_in ≡ Ended first_byte (outcome.Failed (error.ReadFault 0)) ∷ [] → ⊥
    other same = absurd (cc)

pub returns-clause-waits : goal.returns-clause-waits
returns-clause-waits c left =
    other (shows 1 (Ended first_byte (outcome.Done a_byte) ∷ []) read_without_waiting first_resident
    (marked-call setup 1 first_byte (outcome.Done a_byte) first_resident (read_without_waiting ++ first_resident) left refl))
  where
    other : marks 1 read_without_waiting ≡ Ended first_byte (outcome.Done a_byte) ∷ [] → ⊥
    other same = absurd (cc)
