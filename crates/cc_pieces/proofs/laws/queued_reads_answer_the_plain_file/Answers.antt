use Rattle.cc_pieces.proofs.PlainReads.{completed-plain, ready-plain}
use Rattle.cc_pieces.proofs.laws.queued_reads_answer_the_plain_file.Goals as goal

pub returns-clause-ready : goal.returns-clause-ready
returns-clause-ready c = ready-plain

pub returns-clause-completed : goal.returns-clause-completed
returns-clause-completed c = completed-plain
