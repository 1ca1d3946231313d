use Rattle.cc_print.proofs.Counted.{ok_printed, refused_printed}
use Rattle.cc_print.proofs.laws.summaries_count_texts.Goals as goal

pub returns-clause-ok : goal.returns-clause-ok
returns-clause-ok c = ok_printed

pub returns-clause-refused : goal.returns-clause-refused
returns-clause-refused c = refused_printed
