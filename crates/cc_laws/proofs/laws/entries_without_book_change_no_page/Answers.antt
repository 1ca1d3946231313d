use Rattle.cc_laws.proofs.KeptLaws.{SameBook-bookless, SameSettings-bookless, SameImages-bookless}
use Rattle.cc_laws.proofs.laws.entries_without_book_change_no_page.Goals as goal

pub returns-clause-book : goal.returns-clause-book
returns-clause-book c = SameBook-bookless

pub returns-clause-settings : goal.returns-clause-settings
returns-clause-settings c = SameSettings-bookless

pub returns-clause-images : goal.returns-clause-images
returns-clause-images c = SameImages-bookless
