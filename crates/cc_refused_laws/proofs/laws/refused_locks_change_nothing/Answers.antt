use Rattle.cc_refused_laws.proofs.Entries.{keeps-locked, keeps-unlocked, keeps-tested}
use Rattle.cc_refused_laws.proofs.laws.refused_locks_change_nothing.Goals as goal

pub returns-clause-lock : goal.returns-clause-lock
returns-clause-lock c = keeps-locked

pub returns-clause-unlock : goal.returns-clause-unlock
returns-clause-unlock c = keeps-unlocked

pub returns-clause-test : goal.returns-clause-test
returns-clause-test c = keeps-tested
