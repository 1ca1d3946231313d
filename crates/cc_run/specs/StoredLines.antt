-- What the line of a stored stream of a run found of its record.
use Rattle.std.specs.Prelude.{◌≡◌, ℕ, ◌^◌, ◌⊎◌, List, Ok, Err}
use Rattle.std.specs.declared.option.Option.{Option}
use Rattle.std.specs.declared.option.Option.TheVariants.{Some}
use Rattle.cc_entry.specs.declared.answer.Answer.{Answer}
use Rattle.cc_entry.specs.declared.answer.Answer.TheVariants as answer
use Rattle.cc_entry.specs.declared.entry.Entry.{Entry}
use Rattle.cc_entry.specs.declared.error.CcError.{CcError}
use Rattle.cc_format.specs.Spelling.{IsReadAs}
use Rattle.cc_format.specs.declared.record.StreamRecord.{StreamRecord}
use Rattle.cc_model.specs.Passes.{HasSeen}
use Rattle.cc_model.specs.Setup.{Setup}
use Rattle.cc_pieces.specs.Openings.{RecordedOpening}
use Rattle.cc_records.specs.Left.{LoadLeft}
use Rattle.cc_script.specs.declared.script.StreamLine.{StreamLine}

-- The record was read as what its page spelled at first, where the disk told its pages, and the other calls of the line followed.
pub record OpensAsSpelled (u : Setup) (s : ℕ) (stream : StreamLine) (told : Answer) (old new : List Entry) : Type 0 where
  pub read : Option StreamRecord
  pub spelled : (pages : ℕ → List ℕ) → u.opening s ≡ Some pages → IsReadAs (pages (2 ^ 51)) read
  pub loaded : List Entry
  pub load : LoadLeft 0 s (Ok read) old loaded
  pub opened : RecordedOpening u s stream read told loaded new

-- The line of a stored stream, whose number is `s`, stands between two moments of the run. The read of the record was refused, which
-- is told, or it was read so.
pub record StoredLine (u : Setup) (s : ℕ) (stream : StreamLine) (told : Answer) (past : List Entry) : Type 0 where
  pub old : List Entry
  pub new : List Entry
  pub since : HasSeen new past
  pub left :
      ((e : CcError) × (told ≡ answer.Refused e) × LoadLeft {A = Option StreamRecord} 0 s (Err e) old new)
      ⊎ OpensAsSpelled u s stream told old new
