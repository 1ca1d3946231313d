-- Each clause is one lemma of `DiscardLaws`, or the step of the sizes by a discard.
use Rattle.cc_laws.proofs.SizeSteps.{sizes-discards}
use Rattle.cc_laws.proofs.DiscardLaws.{is_dirty-discarded, is_resident-discarded, unwritten-discard_apart, is_resident-discard_apart, byte_of-discard_apart}
use Rattle.cc_laws.proofs.discards.discards_drop_their_pages.Goals as goal

pub returns-clause-clean : goal.returns-clause-clean
returns-clause-clean c = is_dirty-discarded

pub returns-clause-absent : goal.returns-clause-absent
returns-clause-absent c = is_resident-discarded

pub returns-clause-other_touches : goal.returns-clause-other_touches
returns-clause-other_touches c = unwritten-discard_apart

pub returns-clause-other_residents : goal.returns-clause-other_residents
returns-clause-other_residents c = is_resident-discard_apart

pub returns-clause-other_bytes : goal.returns-clause-other_bytes
returns-clause-other_bytes c = λ pages pass call reply h span. byte_of-discard_apart pass call reply h span pages

pub returns-clause-sizes : goal.returns-clause-sizes
returns-clause-sizes c = λ pass call reply h span is. sizes-discards pass call reply h is
