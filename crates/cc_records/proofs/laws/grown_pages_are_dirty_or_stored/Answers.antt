use Rattle.cc_records.proofs.StoredPages.{stored-good}
use Rattle.cc_records.proofs.laws.grown_pages_are_dirty_or_stored.Goals as goal

pub returns : goal.returns
returns c = stored-good
