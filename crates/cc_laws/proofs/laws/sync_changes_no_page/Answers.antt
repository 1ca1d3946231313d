use Rattle.cc_laws.proofs.KeptLaws.{SameBook-synced, SameSettings-synced, SameImages-synced}
use Rattle.cc_laws.proofs.laws.sync_changes_no_page.Goals as goal

pub returns-clause-book : goal.returns-clause-book
returns-clause-book c = SameBook-synced

pub returns-clause-settings : goal.returns-clause-settings
returns-clause-settings c = SameSettings-synced

pub returns-clause-images : goal.returns-clause-images
returns-clause-images c = SameImages-synced
