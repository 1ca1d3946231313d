-- What the program leaves where its script is sure to be found, and neither a disk, nor a log, nor the sink failed.
use Rattle.std.specs.Prelude.{◌≡◌, ℕ, List, reverse, Some}
use Rattle.std.specs.declared.option.Option.{Option}
use Rattle.cc_entry.specs.declared.answer.LineReply.{LineReply}
use Rattle.cc_entry.specs.declared.entry.Entry.{Entry}
use Rattle.cc_model.specs.Setup.{Setup}
use Rattle.cc_script.specs.declared.script.Script.{Script}
use Rattle.cc_pieces.specs.Faultless.{IsFaultless}
use Rattle.cc_faultless_laws.specs.Tabled.{AreByTable}
use Rattle.cc_program.specs.Complete.{EndsWith}
use Rattle.cc_program.specs.Ends.{Input, ProgramOutput, IsTextPut, printed_by}
use Rattle.cc_command.specs.Words.{command_of}

-- The program ended with status 0, or 6 for want of memory. At 0 the script was run, and its text was put whole. Whatever the status,
-- no entry of a failure stands, no answer tells one, and each call that has an entry was answered by the table.
pub record IsComplete (u : Setup) (i : Input) (o : ProgramOutput) (script : Script) (made : Option Script) (replies told : List LineReply)
    (journal : List Entry) (status : ℕ) : Type 0 where
  pub ends : EndsWith status 0
  pub run : status ≡ 0 → made ≡ Some script
  pub whole : status ≡ 0 → IsTextPut o (printed_by (command_of i.words) script replies journal)
  pub no_fault : IsFaultless told (reverse journal)
  pub by_table : AreByTable u (reverse journal)
