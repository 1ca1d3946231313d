-- The hold is spent, whatever the flush answers.
use Rattle.cc_worked.proofs.RepinEnds.{flushed-through, not-flushed}
use Rattle.cc_worked.proofs.pieces_noncached.repin_ends_whatever_comes.Goals as goal

pub returns-clause-done : goal.returns-clause-done
returns-clause-done c = flushed-through

pub returns-clause-no_memory : goal.returns-clause-no_memory
returns-clause-no_memory c = not-flushed
