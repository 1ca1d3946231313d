use Rattle.std.proofs.Common.{◌≡◌, ◌&&◌}
use Rattle.cc_entry.specs.Pages.{block_of}
use Rattle.cc_resident.specs.Residents.{blocks}
use Rattle.cc_resident.specs.Changes.{Clears, is_number_between}
use Rattle.cc_resident.proofs.Spans.{in_front}
use Rattle.cc_resident.proofs.steps.clear_span.Given as goal

abbrev pub invariant-loop-place : goal.invariant-loop-place
invariant-loop-place l =
    record {
      clears : Clears l.initial.views l.views (λ p. in_front l.place (blocks l.initial.views) (block_of p) && is_number_between l.from l.to p);
      blocks : blocks l.views ≡ blocks l.initial.views;
    }
