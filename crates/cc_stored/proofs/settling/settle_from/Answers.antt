-- What the settling leaves with the turn of the disk taken and given round it.
use Rattle.std.specs.Prelude.{ℕ}
use Rattle.std.proofs.Common.{subst}
use Rattle.cc_turns.specs.Takes.{Takes, with_device}
use Rattle.cc_stored.proofs.Settled.{stated}
use Rattle.cc_stored.proofs.settling.settle_from.Goals as goal

pub returns : goal.returns
returns g c =
    let w = g.T.Turns.standing c.args.turns.now in
    let v = g.T.Turns.standing c.take_device-disk.new.self in
    let y = g.T.Turns.standing c.settle_held-told.new.turns in
    let z = g.T.Turns.standing c.give_device.new.self in
    record {
      ends =
          stated w v y z c.args.file c.args.state c.settle_held-told.result c.with_lengths.result c.requires.can
          (subst (λ (n : ℕ). Takes (with_device n) w v) c.stream-stream.ensures c.take_device-disk.ensures.took)
          c.settle_held-told.ensures.went c.give_device.ensures c.with_lengths.ensures
          c.settle_held-told.ensures.good c.settle_held-told.ensures.left c.settle_held-told.ensures.full;
    }
