-- A refusal has the call's entry; want of memory has none.
use Rattle.std.specs.Prelude.{true, [], ◌∷◌, refl}
use Rattle.std.specs.declared.option.Option.TheVariants.{Some}
use Rattle.std.proofs.Common.{inl, inr, arith}
use Rattle.cc_entry.specs.declared.error.CcError.TheVariants as error
use Rattle.cc_entry.specs.declared.reply.Outcome.TheVariants as outcome
use Rattle.cc_entry.specs.declared.entry.Entry.TheVariants as entry
use Rattle.cc_effects.proofs.Starts.{begins, brings, ends_refused, gives_up}
use Rattle.cc_effects.proofs.Licences.{unplaced-licensed}
use Rattle.cc_worked.specs.Values.{setup, page, read_in}
use Rattle.cc_worked.specs.PiecesReads.{two_pages, first_byte, page_comes_in, fill_alone, fill_fails, past_the_size}
use Rattle.cc_worked.proofs.PiecesOpened.{computed}
use Rattle.cc_worked.proofs.pieces_reads.refusals_and_want_of_memory.Goals as goal

pub returns-clause-refused : goal.returns-clause-refused
returns-clause-refused c =
    inl (ends_refused 1 1 (Some 0) past_the_size (error.BeyondSize 8192) two_pages two_pages (begins 1 past_the_size two_pages) refl refl)

pub returns-clause-given_up : goal.returns-clause-given_up
unfolding computed
returns-clause-given_up c =
    gives_up 1 first_byte error.NoMemory two_pages (read_in 1 0 ∷ two_pages) (brings 1 first_byte two_pages two_pages (page 0) true (begins 1 first_byte two_pages) refl refl refl) refl refl

pub returns-clause-no_entry : goal.returns-clause-no_entry
returns-clause-no_entry c left = (unplaced-licensed setup 1 first_byte (outcome.Failed error.NoMemory) page_comes_in two_pages left refl).0 refl

pub returns-clause-full : goal.returns-clause-full
unfolding computed
returns-clause-full c =
    gives_up 1 first_byte (error.JournalFull 2) two_pages (read_in 1 0 ∷ two_pages) (brings 1 first_byte two_pages two_pages (page 0) true (begins 1 first_byte two_pages) refl refl refl) refl refl

pub returns-clause-full_after_fault : goal.returns-clause-full_after_fault
unfolding computed
returns-clause-full_after_fault c = record {
  during = fill_alone;
  grew = refl;
  works = record { each = ((λ is. (refl, record { moment = two_pages; later = []; since = []; ends = refl; begins = refl; holds = record { admitted = refl; reached = refl } })), tt); one_sync = omega arith; whole = refl };
  came = inr (entry.FillFailed 1 (page 0), record { since = []; before = []; split = refl; is_own = refl; quiet = tt; unstopped = refl }, refl);
  listed = refl;
  wants = record { moment = two_pages; later = fill_alone; since = []; ends = refl; begins = refl; holds = refl };
}

pub returns-clause-full_without_entry : goal.returns-clause-full_without_entry
returns-clause-full_without_entry c left = (unplaced-licensed setup 1 first_byte (outcome.Failed (error.JournalFull 3)) page_comes_in two_pages left refl).0 refl

pub returns-clause-no_failed_read : goal.returns-clause-no_failed_read
returns-clause-no_failed_read c left = (unplaced-licensed setup 1 first_byte (outcome.Failed error.NoMemory) fill_fails two_pages left refl).0 refl
