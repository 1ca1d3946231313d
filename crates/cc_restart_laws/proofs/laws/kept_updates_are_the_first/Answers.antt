use Rattle.cc_restart_laws.proofs.Kept.{kept-durable, kept-first}
use Rattle.cc_restart_laws.proofs.laws.kept_updates_are_the_first.Goals as goal

pub returns-clause-first : goal.returns-clause-first
returns-clause-first c = kept-first

pub returns-clause-durable : goal.returns-clause-durable
returns-clause-durable c = kept-durable
