use Rattle.std.specs.Prelude.{◌++◌, reverse}
use Rattle.std.proofs.Common.{arith}
use Rattle.cc_event_lines.specs.Routines.{here}
use Rattle.cc_event_lines.proofs.Lists.{popped-none, popped-some}
use Rattle.cc_event_lines.proofs.routines.Routines.into_vec.Goals as goal

pub loop-routine-preserved-in-Some-routine : goal.loop-routine-preserved-in-Some-routine
loop-routine-preserved-in-Some-routine g c = (
  popped-some c.loop-routine.slots.items c.pop.new.self.items c.loop-routine.routines.items c.push_reserved.new.self.items (here c.self.inside.slots.items) (reverse c.self.inside.unused.items) c.in-Some.field-0 c.in-Some-routine.routine
      c.in-Some.ensures.items c.push_reserved.ensures.items c.in-Some-routine.is c.loop-routine.invariant.0,
  omega (arith, c.in-Some.ensures.len, c.push_reserved.ensures.len, c.push_reserved.ensures.capacity, c.loop-routine.invariant.1),
)

pub loop-routine-preserved : goal.loop-routine-preserved
loop-routine-preserved g c = (
  popped-none c.loop-routine.slots.items c.pop.new.self.items c.loop-routine.routines.items (here c.self.inside.slots.items ++ reverse c.self.inside.unused.items) c.in-Some.field-0
      c.in-Some.ensures.items c.in_default-routine.is c.loop-routine.invariant.0,
  omega (arith, c.in-Some.ensures.len, c.loop-routine.invariant.1),
)
