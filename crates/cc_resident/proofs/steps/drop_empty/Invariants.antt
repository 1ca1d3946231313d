use Rattle.cc_resident.specs.Residents.{blocks, has_pages}
use Rattle.cc_resident.specs.Changes.{KeepsFrames}
use Rattle.cc_resident.proofs.Spans.{Dropped}
use Rattle.cc_resident.proofs.steps.drop_empty.Given as goal

abbrev pub invariant-loop-place : goal.invariant-loop-place
invariant-loop-place l =
    record {
      keeps : KeepsFrames l.initial.views l.views;
      dropped : Dropped (has_pages l.initial.views) (blocks l.initial.views) (blocks l.views) l.place;
    }

abbrev pub decreases-loop-place : goal.decreases-loop-place
decreases-loop-place l = l.place
