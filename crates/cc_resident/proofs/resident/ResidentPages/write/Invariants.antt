use Rattle.std.proofs.Common.{◌≡◌, ◌≤◌, ◌-◌, length, slice_index}
use Rattle.cc_entry.specs.Pages.{whole_range}
use Rattle.cc_resident.specs.Residents.{blocks}
use Rattle.cc_resident.specs.Changes.{CoversRange}
use Rattle.cc_resident.proofs.resident.ResidentPages.write.Given as goal

abbrev pub invariant-loop-done : goal.invariant-loop-done
invariant-loop-done l =
    record {
      covers : CoversRange l.initial.self l.self (whole_range l.at l.done) (λ i. slice_index l.bytes (i - l.at));
      within : l.done ≤ length l.bytes;
      blocks : blocks l.self ≡ blocks l.initial.self;
      quota : l.self.quota ≡ l.initial.self.quota;
      size : l.self.size ≡ l.initial.self.size;
    }

abbrev pub decreases-loop-done : goal.decreases-loop-done
decreases-loop-done l = length l.bytes - l.done
