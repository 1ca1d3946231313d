use Rattle.std.proofs.Common.{◌≡◌, ◌*◌, ◌/◌, ◌&&◌}
use Rattle.cc_resident.specs.Residents.{blocks}
use Rattle.cc_resident.specs.Changes.{Zeroes, is_number_between}
use Rattle.cc_resident.proofs.resident.ResidentPages.zero_in_block.Given as goal

abbrev pub invariant-loop-page : goal.invariant-loop-page
invariant-loop-page l =
    record {
      bytes : Zeroes l.initial.self l.self (λ i. is_number_between (64 * l.block) l.page (i / 4096) && is_number_between l.from l.to i);
      blocks : blocks l.self ≡ blocks l.initial.self;
      quota : l.self.quota ≡ l.initial.self.quota;
      size : l.self.size ≡ l.initial.self.size;
    }
