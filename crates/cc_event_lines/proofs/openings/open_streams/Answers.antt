-- Each stream has a disk, and is set up behind the streams before, with room for its reply.
use Rattle.std.proofs.Common.{arith, rules, length, subst, sym, ◌<◌, ◌∙◌}
use Rattle.cc_event_lines.proofs.StreamSteps.{none-yet, one-further, streams-went}
use Rattle.cc_event_lines.proofs.openings.open_streams.Goals as goal

pub open_stream-answer-requires-clause-known : goal.open_stream-answer-requires-clause-known
open_stream-answer-requires-clause-known g c =
    subst (λ begun. c.loop-number.number < length begun.disks) (sym c.loop-number.invariant.so_far.begun) (omega (arith, c.loop-number-test.true, c.requires.known))

pub loop-number-init : goal.loop-number-init
loop-number-init g c = record { so_far = none-yet _ _ _ _; counted = omega arith; capacity = search rules }

pub loop-number-preserved : goal.loop-number-preserved
loop-number-preserved g c = record {
  so_far = one-further _ c.args.streams.now c.loop-number.number _ _ _ _ _ _ c.index-streams-number.result c.open_stream-answer.result c.loop-number-test.true c.index-streams-number.is c.push_reserved.ensures.items c.loop-number.invariant.so_far c.open_stream-answer.ensures;
  counted = omega (arith, c.push_reserved.ensures.len, c.loop-number.invariant.counted);
  capacity = c.push_reserved.ensures.capacity ∙ c.loop-number.invariant.capacity;
}

pub returns-clause-went : goal.returns-clause-went
returns-clause-went g c =
    streams-went _ c.args.streams.now c.loop-number.number _ _ _ _ c.loop-number-test.false c.loop-number.auto.number-end c.loop-number.invariant.so_far
