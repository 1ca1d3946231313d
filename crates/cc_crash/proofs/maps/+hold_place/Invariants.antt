use Rattle.std.proofs.Common.{◌≡◌, ◌≤◌, length}
use Rattle.cc_model.specs.Holds.{holds_of}
use Rattle.cc_crash.specs.Effects.{effects}
use Rattle.cc_events.specs.Holdings.{place_in}
use Rattle.cc_crash.proofs.maps.+hold_place.Given as goal

abbrev pub decreases-hold_place : goal.decreases-hold_place
decreases-hold_place l = length l.journal.now

-- the place after the whole is that after what is left
abbrev pub invariant-loop-last : goal.invariant-loop-last
invariant-loop-last l = record {
  fewer : length l.left ≤ length l.fn.journal;
  place : place_in (holds_of (effects l.fn.journal l.stream)) l.hold ≡ place_in (holds_of (effects l.left l.stream)) l.hold;
}

abbrev pub decreases-loop-last : goal.decreases-loop-last
decreases-loop-last l = length l.left
