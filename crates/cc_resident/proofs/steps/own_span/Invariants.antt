use Rattle.std.proofs.Common.{◌≡◌, ℕ, ◌≤◌, ◌<◌, true, false}
use Rattle.cc_entry.specs.Pages.{block_of}
use Rattle.cc_resident.specs.Residents.{blocks, is_shared}
use Rattle.cc_resident.specs.Changes.{SameBytes, StaysOwned, OwnsBetween}
use Rattle.cc_resident.proofs.Spans.{in_front}
use Rattle.cc_resident.proofs.steps.own_span.Given as goal

abbrev pub invariant-loop-place : goal.invariant-loop-place
invariant-loop-place l =
    record {
      owned : (p : ℕ) → in_front l.place (blocks l.initial.views) (block_of p) ≡ true → l.from ≤ p → p < l.to → is_shared l.views p ≡ false;
      bytes : SameBytes l.initial.views l.views;
      stays : StaysOwned l.initial.views l.views;
      only : OwnsBetween l.initial.views l.views l.from l.to;
    }
