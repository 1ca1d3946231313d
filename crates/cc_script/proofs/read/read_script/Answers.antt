use Rattle.cc_script.proofs.Within.{reads-within, reads-of_mode}
use Rattle.cc_script.proofs.read.read_script.Goals as goal

pub returns-clause-within : goal.returns-clause-within
returns-clause-within c = reads-within c.args.mode c.args.bytes.now c.read_lines.result c.read_lines.ensures

pub returns-clause-of_mode : goal.returns-clause-of_mode
returns-clause-of_mode c = reads-of_mode c.args.mode c.args.bytes.now c.read_lines.result c.read_lines.ensures
