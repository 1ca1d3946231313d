-- What explains the answers of a script that was run, by its mode.
use Rattle.std.specs.Prelude.{List}
use Rattle.cc_entry.specs.declared.answer.LineReply.{LineReply}
use Rattle.cc_entry.specs.declared.entry.Entry.{Entry}
use Rattle.cc_entry.specs.declared.place.Request.{Request}
use Rattle.cc_model.specs.Setup.{Setup}
use Rattle.cc_pieces.specs.Explained.{Answered, GivenToRun, IsExplained}
use Rattle.cc_pieces.specs.Steps.{IsSteppedThrough}
use Rattle.cc_script.specs.declared.script.Mode.{Mode}
use Rattle.cc_script.specs.declared.script.Mode.TheVariants as mode
use Rattle.cc_script.specs.declared.script.Script.{Script}

-- what a script gives a run
abbrev pub given_of : Script → GivenToRun
given_of script = record {
  restarts = script.restarts;
  streams = script.streams;
  lines = script.lines;
  phases = script.phases;
  ticks = script.ticks;
  aheads = script.aheads;
}

-- the answers of a run: those of its lines, of its ticks and of its read-ahead steps
abbrev pub run_answered : List LineReply → List LineReply → List LineReply → Answered
run_answered replies ticked stepped = record { replies = replies; ticked = ticked; stepped = stepped }

-- A past explains what a script was answered: in a run, by what each caller's lines left between two moments, and by these
-- requests that the read-ahead worker took; in steps, by one event a line.
abbrev pub IsExplainedBy : Mode → Setup → Script → Answered → List Request → List Entry → Type 0
IsExplainedBy mode.Run u script told taken past = IsExplained u (given_of script) told taken past
IsExplainedBy mode.Steps u script told taken past = IsSteppedThrough u script.streams script.lines told.replies past
