use Rattle.cc_event_lines.proofs.Happened.{has-happened}
use Rattle.cc_event_lines.proofs.happening.happen.Goals as goal

pub returns : goal.returns
returns g c = has-happened _ _ _ _ _ c.journal-journal.ensures.rests c.step.ensures.stepped
