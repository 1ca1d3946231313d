use Rattle.std.proofs.Common.{◌≡◌, ◌+◌, ◌≤◌, ◌++◌, reverse, vec_capacity, vec_len}
use Rattle.cc_event_lines.specs.Routines.{here}
use Rattle.cc_event_lines.proofs.routines.Routines.into_vec.Given as goal

abbrev pub invariant-loop-routine : goal.invariant-loop-routine
invariant-loop-routine g l =
    (here l.slots.items ++ reverse l.routines.items ≡ here l.initial.slots.items ++ reverse l.initial.routines.items)
    × (vec_len l.slots + vec_len l.routines ≤ vec_capacity l.routines)

abbrev pub decreases-loop-routine : goal.decreases-loop-routine
decreases-loop-routine g l = vec_len l.slots
