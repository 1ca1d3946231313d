-- The flush begins with the disk of a stream at rest; what it left holds still after the turn is given.
use Rattle.std.specs.Prelude.{ℕ}
use Rattle.std.proofs.Common.{sym, subst}
use Rattle.cc_turns.specs.Standing.{Standing}
use Rattle.cc_writes.specs.Fetch.{CanCall}
use Rattle.cc_calls.specs.Flushes.{HasDisk}
use Rattle.cc_calls.proofs.FlushHeld.{device_taken, flush_given, none_first}
use Rattle.cc_calls.proofs.flushes.flush.Goals as goal

pub flush_held-answer-requires-clause-disk : goal.flush_held-answer-requires-clause-disk
flush_held-answer-requires-clause-disk g c =
    let w = g.T.Turns.standing c.args.turns.now in
    let v = g.T.Turns.standing c.take_device-disk.new.self in
    subst (λ (n : ℕ). HasDisk g.T.Disk.Told.told g.T.Disk.Told.faults v n c.take_device-disk.result) c.stream-stream.ensures
    (device_taken g.T.Disk.Told.told g.T.Disk.Told.faults w v c.stream-stream.result
    (subst (λ (n : ℕ). CanCall w n) (sym c.stream-stream.ensures) c.requires.can) c.take_device-disk.ensures.took c.take_device-disk.result
    c.take_device-disk.ensures.opening c.take_device-disk.ensures.stands c.take_device-disk.ensures.at_rest)

pub flush_held-answer-requires-clause-none : goal.flush_held-answer-requires-clause-none
flush_held-answer-requires-clause-none g c =
    let w = g.T.Turns.standing c.args.turns.now in
    let v = g.T.Turns.standing c.take_device-disk.new.self in
    none_first g.T.Disk.Told.told g.T.Disk.Told.faults w v c.stream-stream.result
    (subst (λ (n : ℕ). CanCall w n) (sym c.stream-stream.ensures) c.requires.can) c.take_device-disk.ensures.took

pub returns : goal.returns
returns g c =
    let w = g.T.Turns.standing c.args.turns.now in
    let v = g.T.Turns.standing c.take_device-disk.new.self in
    record {
      ends =
          flush_given g.T.Disk.Told.told g.T.Disk.Told.faults w v c.stream-stream.result
          (subst (λ (n : ℕ). CanCall w n) (sym c.stream-stream.ensures) c.requires.can) c.take_device-disk.ensures.took
          (g.T.Turns.standing c.flush_held-answer.new.turns) (g.T.Turns.standing c.give_device.new.self)
          c.flush_held-answer.ensures.went c.give_device.ensures
          c.args.file c.args.span c.flush_held-answer.result c.flush_held-answer.ensures.ends;
    }
