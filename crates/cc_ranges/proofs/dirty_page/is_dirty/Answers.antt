use Rattle.cc_model.specs.History.{history}
use Rattle.cc_ranges.proofs.DirtyNext.{dirty-next, clean-next}
use Rattle.cc_ranges.proofs.dirty_page.is_dirty.Goals as goal

pub returns-in-Some : goal.returns-in-Some
returns-in-Some g c = dirty-next (history c.args.journal.now.entries c.args.stream) c.args.page c.in-Some.next c.in-Some.ensures.next

pub returns-in-None : goal.returns-in-None
returns-in-None g c = clean-next (history c.args.journal.now.entries c.args.stream) c.args.page c.in-None.ensures.next
