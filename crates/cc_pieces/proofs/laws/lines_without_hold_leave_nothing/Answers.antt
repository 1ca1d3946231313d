use Rattle.cc_pieces.proofs.Words.{no-pin-write}
use Rattle.cc_pieces.proofs.laws.lines_without_hold_leave_nothing.Goals as goal

pub returns-clause-read : goal.returns-clause-read
returns-clause-read c = λ u me word at len told old new line. line

pub returns-clause-write : goal.returns-clause-write
returns-clause-write c = no-pin-write
