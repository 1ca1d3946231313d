-- A query that names a file is of that file's stream; one that names none is of no stream.
use Rattle.std.specs.Prelude.{◌<◌, Option, IfSome, is_some}
use Rattle.std.proofs.Common.{ap, sym, ◌∙◌, subst}
use Rattle.cc_entry.specs.Place.{File}
use Rattle.cc_calls.proofs.queries.ask.Goals as goal

pub ask_stream-requires : goal.ask_stream-requires
ask_stream-requires g c =
    let is = sym c.file.ensures ∙ c.in-Some.is in
    record {
      can = record {
        known = subst (λ (named : Option File). IfSome named (λ file. file.stream < (g.T.Turns.standing c.args.turns.now).streams)) is c.requires.can.known;
        free = c.requires.can.free;
        none = c.requires.can.none;
      };
      file = is;
    }

pub returns-in-Some : goal.returns-in-Some
returns-in-Some g c = record { ends = c.ask_stream.ensures }

pub ask_journal-requires : goal.ask_journal-requires
ask_journal-requires g c = record {
  can = record { free = c.requires.can.free; none = c.requires.can.none };
  streamless = ap is_some (sym c.file.ensures ∙ c.in-None.is);
}

pub returns-in-None : goal.returns-in-None
returns-in-None g c = record { ends = c.ask_journal.ensures }
