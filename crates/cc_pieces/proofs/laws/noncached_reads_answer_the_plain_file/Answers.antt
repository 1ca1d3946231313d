use Rattle.cc_pieces.proofs.PlainPages.{noncached-plain}
use Rattle.cc_pieces.proofs.laws.noncached_reads_answer_the_plain_file.Goals as goal

pub returns : goal.returns
returns c = noncached-plain
