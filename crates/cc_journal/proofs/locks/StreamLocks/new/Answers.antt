-- The streams' numbers come in order, and none has a lock.
use Rattle.std.proofs.Common.{◌≡◌, ◌∙◌, subst, refl, arith}
use Rattle.std.specs.Prelude.{IfSome}
use Rattle.cc_journal.proofs.LockSteps.{AreFresh, fresh_more, fresh_numbered, fresh_stands}
use Rattle.cc_journal.proofs.locks.StreamLocks.new.Goals as goal

pub loop-number-init : goal.loop-number-init
loop-number-init c = record {
  fresh = record { count_is = rw c.in_ok-each.ensures.items refl; each = λ s d below. absurd (omega (arith, below)) };
  room = omega (arith, c.in_ok-each.ensures.capacity);
}

pub push_reserved-requires : goal.push_reserved-requires
push_reserved-requires c =
    omega (arith, c.loop-number.invariant.fresh.count_is, c.loop-number.each.ok.0, c.loop-number-test.true, c.loop-number.invariant.room)

pub loop-number-preserved : goal.loop-number-preserved
loop-number-preserved c = record {
  fresh = rw c.push_reserved.ensures.items
      (fresh_more c.loop-number.number c.loop-number.each.items _
      (c.new-in-loop-number.ensures.stream ∙ subst (λ o. IfSome o (λ stream. stream ≡ c.loop-number.number)) c.unwrap-stream.ensures c.new.ensures.number) c.new-in-loop-number.ensures.none c.loop-number.invariant.fresh);
  room = rw c.push_reserved.ensures.capacity c.loop-number.invariant.room;
}

pub invariant_of-result : goal.invariant_of-result
invariant_of-result c = fresh_numbered c.loop-number.each.items
    (subst (λ n. AreFresh n c.loop-number.each.items) (omega (arith, c.loop-number.auto.number-end, c.loop-number-test.false)) c.loop-number.invariant.fresh)

pub returns : goal.returns
returns c = record {
  stands = fresh_stands c.loop-number.each.items
      (subst (λ n. AreFresh n c.loop-number.each.items) (omega (arith, c.loop-number.auto.number-end, c.loop-number-test.false)) c.loop-number.invariant.fresh);
}
