use Rattle.cc_pieces.proofs.PlainReads.{read-plain}
use Rattle.cc_pieces.proofs.laws.reads_answer_the_plain_file.Goals as goal

pub returns : goal.returns
returns c = read-plain
