-- What kept the script from being there is the cause for the words that ask for it.
use Rattle.std.specs.Prelude.{map, string_bytes}
use Rattle.cc_run.proofs.top.prepare.Goals as goal

pub returns-in-Err-clause-cause : goal.returns-in-Err-clause-cause
returns-in-Err-clause-cause g c =
    c.in-Err.ensures.cause (map string_bytes c.args.words.now) c.args.disks c.args.logs c.args.posts c.in_ok-command.ensures.ok
