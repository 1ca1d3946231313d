use Rattle.std.proofs.Common.{◌≡◌, ◌-◌, ◌/◌}
use Rattle.std.specs.List.{range_with_len}
use Rattle.cc_resident.specs.Residents.{blocks, used}
use Rattle.cc_resident.specs.Changes.{KeepsFrames}
use Rattle.cc_resident.proofs.resident.ResidentPages.use_range.Given as goal

abbrev pub invariant-loop-block : goal.invariant-loop-block
invariant-loop-block l =
    record {
      keeps : KeepsFrames l.initial.self l.self;
      blocks : blocks l.self ≡ used (range_with_len (l.from / 262144) (l.block - l.from / 262144)) (blocks l.initial.self);
    }
