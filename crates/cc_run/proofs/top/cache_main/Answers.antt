-- The end of the program, from how it was conducted: each status that is sure to come follows from what was told.
use Rattle.std.specs.Prelude.{ℕ, List, IfSome}
use Rattle.std.specs.declared.option.Option.{Option}
use Rattle.std.specs.declared.option.Option.TheVariants.{Some, None}
use Rattle.std.proofs.Common.{ap}
use Rattle.cc_entry.specs.declared.answer.LineReply.{LineReply}
use Rattle.cc_entry.specs.declared.entry.Entry.{Entry}
use Rattle.cc_program.specs.Ends.{Input, ProgramOutput, IsAsked, ProgramIsEnded}
use Rattle.cc_script.specs.declared.script.Script.{Script}
use Rattle.cc_run.proofs.Statuses.{words-always, syntax-always, too_long-always, too_long-told, too_few-always, complete}
use Rattle.cc_run.proofs.top.cache_main.Goals as goal

pub returns-clause-ended : goal.returns-clause-ended
returns-clause-ended g c =
    let it = c.conduct-status.ensures.ended in
    let given = c.conduct-status.ensures.given in
    record {
      ended = it;
      usage = words-always _ _ _ _ _ _ it;
      syntax = syntax-always _ _ _ _ _ _ it given;
      too_long = too_long-always _ _ _ _ _ _ it (λ wrong. ap g.S.Source.given (c.conduct-status.ensures.untouched wrong));
      too_long_told = too_long-told _ _ _ _ _ _ it given;
      too_few = too_few-always _ _ _ _ _ _ it given;
      complete = complete _ _ _ _ _ _ it given;
      given = given;
      bounded = c.conduct-status.ensures.bounded;
    }

-- the script that was run is the one that the words ask for
asked-of : (i : Input) (o : ProgramOutput) (script : Option Script) (replies : List LineReply) (journal : List Entry) (status : ℕ) → ProgramIsEnded i o script replies journal status → IfSome script (IsAsked i)
asked-of i o None replies journal status ended = tt
asked-of i o (Some script) replies journal status ended = ended.asked

-- the five clauses as one, with that
pub returns-clause-clauses : goal.returns-clause-clauses
returns-clause-clauses g c =
    let it = c.conduct-status.ensures in
    record {
      restarted = it.restarted;
      good = it.good;
      explained = it.explained;
      disks = it.disks;
      logs = it.logs;
      asked = asked-of _ _ _ _ _ _ it.ended;
    }
