-- The fault is the last entry before the call's own; where another caller closed the file, nothing refused
-- the call as it began.
use Rattle.std.specs.Prelude.{true, [], ◌∷◌, refl}
use Rattle.std.specs.declared.option.Option.TheVariants.{Some, None}
use Rattle.std.proofs.Common.{inr, arith}
use Rattle.cc_entry.specs.declared.call.Call.TheVariants as call
use Rattle.cc_entry.specs.declared.reply.Reply.TheVariants as reply
use Rattle.cc_entry.specs.declared.query.Value.TheVariants as value
use Rattle.cc_entry.specs.declared.error.CcError.TheVariants as error
use Rattle.cc_entry.specs.declared.reply.Outcome.TheVariants as outcome
use Rattle.cc_entry.specs.declared.entry.Entry.{Entry}
use Rattle.cc_entry.specs.declared.entry.Entry.TheVariants as entry
use Rattle.cc_model.specs.Faults.{ReadFailed}
use Rattle.cc_effects.proofs.Starts.{begins, ends_unread}
use Rattle.cc_effects.proofs.Licences.{licensed, read-fault-shown}
use Rattle.cc_worked.specs.Values.{setup, a, page, answers}
use Rattle.cc_worked.specs.PiecesReads.{two_pages, first_resident, one_valid, first_byte, fill_fails, fault_alone, fill_of_another_fails, second_byte, zeros_fail}
use Rattle.cc_worked.proofs.PiecesOpened.{computed, neither, not_so}
use Rattle.cc_worked.proofs.pieces_reads.read_fault_has_its_entry.Goals as goal

pub returns-clause-told : goal.returns-clause-told
unfolding computed
returns-clause-told c =
    ends_unread 1 1 (Some 0) first_byte (page 0) two_pages two_pages (begins 1 first_byte two_pages) refl refl refl refl refl

closing : Entry
closing = answers 2 1 (call.Uninitialise a None) (reply.Value (value.Flag true))

pub returns-clause-overtaken : goal.returns-clause-overtaken
unfolding computed closing
returns-clause-overtaken c = inr (record {
  earlier = entry.FillFailed 1 (page 0) ∷ closing ∷ [];
  placed = record {
    nth = 1;
    stream = Some 0;
    later = [];
    grew = refl;
    quiet = tt;
    filed = refl;
    works = record {
      each = ((λ is. (refl, record { moment = two_pages; later = closing ∷ []; since = []; ends = refl; begins = refl; holds = record { admitted = refl; reached = refl } })), ((λ is. absurd (not_so is)), tt));
      one_sync = omega arith;
      whole = refl;
    };
  };
  listed = refl;
  stop = entry.FillFailed 1 (page 0);
  stopped = record { since = []; before = closing ∷ []; split = refl; is_own = refl; quiet = tt; unstopped = refl };
  fault = ReadFailed 0;
  shown = refl;
  admitted = record { moment = two_pages; later = closing ∷ []; since = []; ends = refl; begins = refl; holds = refl };
})

pub returns-clause-not_alone : goal.returns-clause-not_alone
returns-clause-not_alone c left = not_so (read-fault-shown setup 1 first_byte 0 fault_alone two_pages left)

pub returns-clause-not_of_another : goal.returns-clause-not_of_another
returns-clause-not_of_another c left = not_so (read-fault-shown setup 1 first_byte 0 fill_of_another_fails two_pages left)

pub returns-clause-not_of_a_resident_page : goal.returns-clause-not_of_a_resident_page
unfolding computed
returns-clause-not_of_a_resident_page c left =
    neither (λ is. is) (λ may. not_so may.0) ((licensed setup 1 first_byte (outcome.Failed (error.ReadFault 0)) fill_fails first_resident left refl).1.0 refl)

pub returns-clause-not_of_zeros : goal.returns-clause-not_of_zeros
unfolding computed
returns-clause-not_of_zeros c left =
    neither (λ is. is) (λ may. not_so may.0) ((licensed setup 1 second_byte (outcome.Failed (error.ReadFault 1)) zeros_fail one_valid left refl).1.0 refl)
