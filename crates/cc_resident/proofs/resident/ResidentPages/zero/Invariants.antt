use Rattle.std.proofs.Common.{◌≡◌, ◌/◌, ◌&&◌}
use Rattle.cc_entry.specs.Pages.{block_of}
use Rattle.cc_resident.specs.Residents.{blocks}
use Rattle.cc_resident.specs.Changes.{Zeroes, is_number_between}
use Rattle.cc_resident.proofs.Spans.{in_front}
use Rattle.cc_resident.proofs.resident.ResidentPages.zero.Given as goal

abbrev pub invariant-loop-place : goal.invariant-loop-place
invariant-loop-place l =
    record {
      bytes : Zeroes l.initial.self l.self (λ i. in_front l.place (blocks l.initial.self) (block_of (i / 4096)) && is_number_between l.from l.to i);
      blocks : blocks l.self ≡ blocks l.initial.self;
      quota : l.self.quota ≡ l.initial.self.quota;
      size : l.self.size ≡ l.initial.self.size;
    }
