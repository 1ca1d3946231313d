use Rattle.cc_refused_laws.proofs.Events.{refused-nothing, faulted-keeps, wanting-keeps}
use Rattle.cc_refused_laws.proofs.laws.refused_events_change_nothing.Goals as goal

pub returns-clause-refused : goal.returns-clause-refused
returns-clause-refused g c = refused-nothing

pub returns-clause-faulted : goal.returns-clause-faulted
returns-clause-faulted g c = faulted-keeps

pub returns-clause-wanting : goal.returns-clause-wanting
returns-clause-wanting g c = wanting-keeps
