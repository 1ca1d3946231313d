-- The classes one after the other, from the shortest locks to the longest.
use Rattle.std.proofs.Common.{◌≡◌, ◌+◌, ◌*◌, ◌^◌, ◌≤◌, ◌⊎◌, inl, inr, sym, ◌∙◌, subst, arith}
use Rattle.std.proofs.lemmas.Bool.{cases_lt}
use Rattle.cc_locks.specs.Place.{lesser_id, CoversClass}
use Rattle.cc_locks.proofs.Classes.{IsLeastBelow, IsLeastBelow-start, IsLeastBelow-next, IsLeastBelow-end, Covers-start, Covers-next, doubled}
use Rattle.cc_locks.proofs.index.LockIndex.least.Goals as goal

pub loop-class-init : goal.loop-class-init
loop-class-init c = record { below = IsLeastBelow-start c.args.asked.now c.args.self.now; covers = Covers-start }

pub loop-class-preserved : goal.loop-class-preserved
loop-class-preserved c =
    record {
      below = subst (IsLeastBelow c.args.asked.now c.args.self.now (c.loop-class.class + 1)) (sym c.lesser-found.ensures)
          (IsLeastBelow-next c.args.asked.now c.args.self.now c.loop-class.class c.loop-class.found c.least_of_class.result c.loop-class.invariant.below c.least_of_class.ensures);
      covers = Covers-next c.loop-class.class c.loop-class.reach c.saturating_add-reach.result c.loop-class.invariant.covers
          (doubled c.loop-class.reach c.saturating_mul.result c.saturating_add-reach.result c.saturating_mul.ensures c.saturating_add-reach.ensures);
    }

pub returns : goal.returns
returns c = IsLeastBelow-end c.args.asked.now c.args.self.now c.loop-class.found (subst (λ k. IsLeastBelow c.args.asked.now c.args.self.now k c.loop-class.found) (omega arith) c.loop-class.invariant.below)
