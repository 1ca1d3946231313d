-- What lines of queued reads leave, by their answers. Each stretch has its newest entry first, and stands on a past.
use Rattle.std.specs.Prelude.{List, [], ◌∷◌, Ok, Err}
use Rattle.cc_entry.specs.declared.answer.Answer.{Answer}
use Rattle.cc_entry.specs.declared.answer.AsyncDone.{AsyncDone}
use Rattle.cc_entry.specs.declared.answer.AsyncId.{AsyncId}
use Rattle.cc_entry.specs.declared.entry.Entry.{Entry}
use Rattle.cc_entry.specs.declared.error.CcError.TheVariants as error
use Rattle.cc_effects.specs.Moments.{Between}
use Rattle.cc_pieces.specs.Answered.{CompletionAnswered, StartAnswered}
use Rattle.cc_worked.specs.Values.{setup, a, refused}
use Rattle.cc_worked.specs.PiecesReads.{no_waiting}

-- a read of the first byte that may be queued, and the completion of one
abbrev pub StartLine : Answer → Between
StartLine = StartAnswered setup 1 a 0 1

abbrev pub CompleteLine : Answer → Between
CompleteLine = CompletionAnswered setup 1

-- the page of the read is missing
abbrev pub page_is_missing : List Entry
page_is_missing = refused 1 1 no_waiting (error.NotResident 0) ∷ []

-- the first read that the second caller queued
abbrev pub its_number : AsyncId
its_number = record { pass = 2; n = 1 }

-- it answers the first byte; and it does not, since its page was not read
abbrev pub it_reads : AsyncDone
it_reads = record { id = its_number; file = a; at = 0; len = 1; answer = Ok (90 ∷ []) }

abbrev pub it_fails : AsyncDone
it_fails = record { id = its_number; file = a; at = 0; len = 1; answer = Err (error.ReadFault 0) }

-- wrong: another byte was asked for
abbrev pub of_another_place : AsyncDone
of_another_place = record { id = its_number; file = a; at = 1; len = 1; answer = Ok (90 ∷ []) }
