use Rattle.std.proofs.Common.{subst, ◌∙◌}
use Rattle.cc_event_lines.specs.Routines.{IsQuiet}
use Rattle.cc_event_lines.proofs.RoutineSteps.{stand-new}
use Rattle.cc_event_lines.proofs.run.run_on.Goals as goal

pub step_lines-requires-clause-routines : goal.step_lines-requires-clause-routines
step_lines-requires-clause-routines g c =
    let fresh = c.requires.fresh.journal_is in
    stand-new g.Q.PostRoutine.posted c.open_streams.new.world.journal.entries c.open_streams.new.world.journal.queue
    c.args.routines
    (subst (λ past. IsQuiet past c.open_streams.new.world.journal.entries) fresh.empty.0 c.open_streams.ensures.went.quiet)
    (c.open_streams.ensures.went.queue ∙ fresh.empty.2) c.requires.routines
