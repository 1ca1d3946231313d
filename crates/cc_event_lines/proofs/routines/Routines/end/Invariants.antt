use Rattle.std.proofs.Common.{◌≡◌, length, vec_len}
use Rattle.cc_event_lines.specs.Routines.{all_back}
use Rattle.cc_event_lines.proofs.routines.Routines.end.Given as goal

abbrev pub invariant-loop-id : goal.invariant-loop-id
invariant-loop-id g l =
    (all_back l.queued.items l.routines.slots ≡ all_back l.initial.queued.items l.initial.routines.slots)
    × (l.routines ≡ record l.initial.routines { slots = l.routines.slots })
    × (length l.routines.slots ≡ length l.initial.routines.slots)

abbrev pub decreases-loop-id : goal.decreases-loop-id
decreases-loop-id g l = vec_len l.queued
