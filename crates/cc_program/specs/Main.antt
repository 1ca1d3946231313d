-- How the program ends: what a run left, or why none was made, and which statuses are sure to come.
use Rattle.std.specs.Prelude.{◌≡◌, ℕ, false, List}
use Rattle.std.specs.declared.option.Option.{Option}
use Rattle.cc_entry.specs.declared.answer.LineReply.{LineReply}
use Rattle.cc_entry.specs.declared.entry.Entry.{Entry}
use Rattle.cc_script.specs.declared.script.Script.{Script}
use Rattle.cc_command.specs.Words.{is_command}
use Rattle.cc_command.specs.Taken.{WasTaken}
use Rattle.cc_program.specs.Ends.{Input, ProgramOutput, ProgramIsEnded, TookNoMore}
use Rattle.cc_program.specs.Complete.{EndsWith, SyntaxAlways, TooLongAlways, TooLongTold, TooFewAlways, Completes}

-- The program came to its end, with this status, over what went into it and came out of it.
pub record HasMain (i : Input) (o : ProgramOutput) (script : Option Script) (replies : List LineReply) (journal : List Entry)
    (status : ℕ) : Type 0 where
  -- with a run, or without one: what is given back, what was printed, and the cause of the status
  pub ended : ProgramIsEnded i o script replies journal status
  -- the statuses that are sure to come, but for want of memory
  pub usage : is_command i.words ≡ false → EndsWith status 1
  pub syntax : SyntaxAlways i status
  pub too_long : TooLongAlways i status
  pub too_long_told : TooLongTold i status
  pub too_few : TooFewAlways i status
  pub complete : Completes i o status
  -- what was taken of the source: the front of what it told, and at most one byte more than a script may have
  pub given : WasTaken i.left i.left_after i.given i.given_after
  pub bounded : TookNoMore i
