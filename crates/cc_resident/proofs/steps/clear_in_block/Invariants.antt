use Rattle.std.proofs.Common.{◌≡◌, ◌*◌, ◌&&◌}
use Rattle.cc_resident.specs.Residents.{blocks}
use Rattle.cc_resident.specs.Changes.{Clears, is_number_between}
use Rattle.cc_resident.proofs.steps.clear_in_block.Given as goal

abbrev pub invariant-loop-page : goal.invariant-loop-page
invariant-loop-page l =
    record {
      clears : Clears l.initial.views l.views (λ p. is_number_between (64 * l.block) l.page p && is_number_between l.from l.to p);
      blocks : blocks l.views ≡ blocks l.initial.views;
    }
