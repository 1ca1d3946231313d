use Rattle.std.proofs.Common.{◌≡◌, ℕ, ◌≤◌, ◌<◌, ◌*◌, false}
use Rattle.cc_resident.specs.Residents.{is_shared}
use Rattle.cc_resident.specs.Changes.{SameBytes, StaysOwned, OwnsBetween}
use Rattle.cc_resident.proofs.steps.own_in_block.Given as goal

abbrev pub invariant-loop-page : goal.invariant-loop-page
invariant-loop-page l =
    record {
      owned : (p : ℕ) → 64 * l.block ≤ p → l.from ≤ p → p < l.page → is_shared l.views p ≡ false;
      bytes : SameBytes l.initial.views l.views;
      stays : StaysOwned l.initial.views l.views;
      only : OwnsBetween l.initial.views l.views l.from l.to;
    }
