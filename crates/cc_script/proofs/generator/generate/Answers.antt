use Rattle.std.proofs.Common.{refl}
use Rattle.cc_script.specs.Generator.{generated}
use Rattle.cc_script.proofs.Generated.{generated_within, generated_of_steps}
use Rattle.cc_script.proofs.generator.generate.Goals as goal

pub returns-clause-script : goal.returns-clause-script
unfolding generated
returns-clause-script c = rw (c.new.ensures, c.in_ok-streams.ensures, c.in_ok-lines.ensures) refl

pub returns-clause-within : goal.returns-clause-within
unfolding generated
returns-clause-within c = rw (c.new.ensures, c.in_ok-streams.ensures, c.in_ok-lines.ensures) (generated_within c.args.n)

pub returns-clause-of_mode : goal.returns-clause-of_mode
unfolding generated
returns-clause-of_mode c = rw (c.new.ensures, c.in_ok-streams.ensures, c.in_ok-lines.ensures) (generated_of_steps c.args.n)
