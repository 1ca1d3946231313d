use Rattle.cc_journal.proofs.GoodEntries.{MayBePushed-good}
use Rattle.cc_journal.proofs.laws.good_entries_may_be_pushed.Goals as goal

pub returns : goal.returns
returns c = MayBePushed-good
