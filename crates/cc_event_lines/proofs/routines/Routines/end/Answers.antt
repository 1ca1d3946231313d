use Rattle.std.proofs.Common.{ap, length, sym, ◌∙◌}
use Rattle.cc_event_lines.specs.Routines.{all_back}
use Rattle.cc_event_lines.proofs.Lists.{all_back-one, same-rest}
use Rattle.cc_event_lines.proofs.RoutineEnds.{length-back}
use Rattle.cc_event_lines.proofs.routines.Routines.end.Goals as goal

pub loop-id-preserved : goal.loop-id-preserved
loop-id-preserved g c = (
  ap (all_back c.pop.new.self.items) (ap (λ r. r.slots) c.put_back.ensures)
      ∙ (sym (all_back-one c.pop.new.self.items (c.in-Some.id, c.in-Some.routine) c.loop-id.routines.slots)
      ∙ (ap (λ backs. all_back backs c.loop-id.routines.slots) (sym c.in-Some.ensures.items) ∙ c.loop-id.invariant.0)),
  same-rest c.args.self c.loop-id.routines c.put_back.new.self _ c.put_back.ensures c.loop-id.invariant.1,
  ap (λ r. length r.slots) c.put_back.ensures ∙ (length-back c.in-Some.id c.in-Some.routine c.loop-id.routines.slots ∙ c.loop-id.invariant.2),
)
