-- The end of the call has its outcome.
use Rattle.std.specs.Prelude.{◌≡◌, true, [], ◌∷◌, ◌++◌, refl}
use Rattle.std.specs.declared.option.Option.TheVariants.{Some}
use Rattle.std.proofs.Common.{inl}
use Rattle.cc_entry.specs.declared.error.CcError.TheVariants as error
use Rattle.cc_entry.specs.declared.reply.Reply.TheVariants as reply
use Rattle.cc_entry.specs.declared.reply.Outcome.TheVariants as outcome
use Rattle.cc_effects.proofs.Starts.{begins, brings, ends_done, ends_refused}
use Rattle.cc_worked.specs.Values.{setup, page, read_in}
use Rattle.cc_worked.specs.PiecesReads.{two_pages, first_byte, a_byte, page_comes_in, past_the_size, write_refused}
use Rattle.cc_worked.proofs.PiecesOpened.{computed}
use Rattle.cc_worked.proofs.Marks.{Ended, marks, marked-call, shows}
use Rattle.cc_worked.proofs.pieces_answered.call_is_answered_as_it_ended.Goals as goal

pub returns-clause-done : goal.returns-clause-done
unfolding computed
returns-clause-done c =
    ends_done 1 1 (Some 0) first_byte a_byte two_pages (read_in 1 0 ∷ two_pages) (brings 1 first_byte two_pages two_pages (page 0) true (begins 1 first_byte two_pages) refl refl refl) refl (λ during. tt)

pub returns-clause-refused : goal.returns-clause-refused
returns-clause-refused c =
    inl (ends_refused 1 1 (Some 0) past_the_size (error.BeyondSize 8192) two_pages two_pages (begins 1 past_the_size two_pages) refl refl)

pub returns-clause-not_done : goal.returns-clause-not_done
returns-clause-not_done c left =
    other (shows 1 (Ended past_the_size (outcome.Done reply.Unit) ∷ []) write_refused two_pages (marked-call setup 1 past_the_size (outcome.Done reply.Unit) two_pages (write_refused ++ two_pages) left refl))
  where
    other : marks 1 write_refused ≡ Ended past_the_size (outcome.Done reply.Unit) ∷ [] → ⊥
    other same = absurd (cc)

pub returns-clause-no_other_reply : goal.returns-clause-no_other_reply
returns-clause-no_other_reply c left =
    other (shows 1 (Ended first_byte (outcome.Done reply.Unit) ∷ []) page_comes_in two_pages (marked-call setup 1 first_byte (outcome.Done reply.Unit) two_pages (page_comes_in ++ two_pages) left refl))
  where
    other : marks 1 page_comes_in ≡ Ended first_byte (outcome.Done reply.Unit) ∷ [] → ⊥
    other same = absurd (cc)
