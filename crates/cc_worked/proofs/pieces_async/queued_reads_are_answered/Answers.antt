-- The read is done, or is refused since its page is missing; another answer shows another end.
use Rattle.std.specs.Prelude.{◌≡◌, [], ◌∷◌, ◌++◌, refl}
use Rattle.std.specs.declared.option.Option.TheVariants.{Some}
use Rattle.std.proofs.Common.{inl}
use Rattle.cc_entry.specs.declared.error.CcError.TheVariants as error
use Rattle.cc_entry.specs.declared.reply.Outcome.TheVariants as outcome
use Rattle.cc_effects.proofs.Starts.{begins, ends_done, ends_refused}
use Rattle.cc_worked.specs.Values.{setup}
use Rattle.cc_worked.specs.PiecesReads.{two_pages, first_resident, a_byte, no_waiting, read_without_waiting}
use Rattle.cc_worked.specs.PiecesAsync.{page_is_missing}
use Rattle.cc_worked.proofs.PiecesOpened.{computed}
use Rattle.cc_worked.proofs.Marks.{Ended, marks, marked-call, shows}
use Rattle.cc_worked.proofs.pieces_async.queued_reads_are_answered.Goals as goal

pub returns-clause-ready : goal.returns-clause-ready
unfolding computed
returns-clause-ready c = ends_done 1 1 (Some 0) no_waiting a_byte first_resident first_resident (begins 1 no_waiting first_resident) refl (λ during. tt)

pub returns-clause-queued : goal.returns-clause-queued
returns-clause-queued c =
    (0, inl (ends_refused 1 1 (Some 0) no_waiting (error.NotResident 0) two_pages two_pages (begins 1 no_waiting two_pages) refl refl))

pub returns-clause-full : goal.returns-clause-full
returns-clause-full c =
    (0, inl (ends_refused 1 1 (Some 0) no_waiting (error.NotResident 0) two_pages two_pages (begins 1 no_waiting two_pages) refl refl))

pub returns-clause-not_queued : goal.returns-clause-not_queued
returns-clause-not_queued c left =
    other (shows 1 (Ended no_waiting (outcome.Failed (error.NotResident left.0)) ∷ []) read_without_waiting first_resident
    (marked-call setup 1 no_waiting (outcome.Failed (error.NotResident left.0)) first_resident (read_without_waiting ++ first_resident) left.1 refl))
  where
    other : marks 1 read_without_waiting ≡ Ended no_waiting (outcome.Failed (error.NotResident left.0)) ∷ [] → ⊥
    other same = absurd (cc)

pub returns-clause-not_told_missing : goal.returns-clause-not_told_missing
returns-clause-not_told_missing c left = absurd left

pub returns-clause-not_ready : goal.returns-clause-not_ready
returns-clause-not_ready c left =
    other (shows 1 (Ended no_waiting (outcome.Done a_byte) ∷ []) page_is_missing two_pages
    (marked-call setup 1 no_waiting (outcome.Done a_byte) two_pages (page_is_missing ++ two_pages) left refl))
  where
    other : marks 1 page_is_missing ≡ Ended no_waiting (outcome.Done a_byte) ∷ [] → ⊥
    other same = absurd (cc)
