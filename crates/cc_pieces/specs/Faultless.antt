-- A run without a fault: no entry of a failure stands, and no answer tells one.
use Rattle.std.specs.Prelude.{◌≡◌, nat_lt, Bool, true, false, List, Result, Ok, Err}
use Rattle.std.specs.declared.option.Option.TheVariants.{Some}
use Rattle.std.specs.List.{list_any}
use Rattle.cc_entry.specs.declared.answer.Answer.{Answer}
use Rattle.cc_entry.specs.declared.answer.Answer.TheVariants as answer
use Rattle.cc_entry.specs.declared.answer.LineReply.{LineReply}
use Rattle.cc_entry.specs.declared.entry.Entry.{Entry}
use Rattle.cc_entry.specs.declared.entry.Entry.TheVariants as entry
use Rattle.cc_entry.specs.declared.error.CcError.{CcError}
use Rattle.cc_model.specs.Allowed.{is_fault}
use Rattle.cc_model.specs.Faults.{is_failed}

-- whether an entry shows that a disk or a log failed
abbrev pub shows_fault : Entry → Bool
shows_fault (entry.FillFailed pass page) = true
shows_fault (entry.WriteEnd pass page how) = is_failed how
shows_fault (entry.Sync pass stream how) = is_failed how
shows_fault (entry.LogFailed pass handle) = true
shows_fault (entry.Record pass stream size valid how) = is_failed how
shows_fault (entry.RecordFailed pass stream) = true
shows_fault other = false

-- whether a queued read that was completed tells a fault
abbrev pub is_faulty : {T : Type 0} → Result T CcError → Bool
is_faulty (Ok done) = false
is_faulty (Err e) = is_fault e

-- Whether an answer tells that a disk or a log failed: ReadFault, WriteFault, LogFault, that a tick failed to write a page, or
-- that the event faulted.
abbrev pub tells_fault : Answer → Bool
tells_fault (answer.Refused e) = is_fault e
tells_fault (answer.NcRefused done cause) = is_fault cause
tells_fault (answer.Completed (Some done)) = is_faulty done.answer
tells_fault (answer.Ticked tick) = nat_lt 0 tick.failed
tells_fault answer.Faulted = true
tells_fault other = false

-- no entry of a failure stands in a journal, and no answer of its run tells one
pub record IsFaultless (replies : List LineReply) (past : List Entry) : Type 0 where
  pub entries : list_any shows_fault past ≡ false
  pub answers : list_any (λ reply. tells_fault reply.answer) replies ≡ false
