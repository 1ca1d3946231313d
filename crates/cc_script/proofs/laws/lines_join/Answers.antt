use Rattle.cc_script.proofs.Joined.{lines_join, lines_whole}
use Rattle.cc_script.proofs.laws.lines_join.Goals as goal

pub returns-clause-join : goal.returns-clause-join
returns-clause-join c = lines_join

pub returns-clause-whole : goal.returns-clause-whole
returns-clause-whole c = lines_whole
