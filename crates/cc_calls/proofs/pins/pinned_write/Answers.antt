use Rattle.std.specs.Prelude.{refl}
use Rattle.cc_entry.specs.Kinds.{is_pin}
use Rattle.cc_entry.specs.declared.call.Call.TheVariants as call
use Rattle.cc_calls.proofs.Using.{use-none}
use Rattle.cc_calls.proofs.pins.pinned_write.Goals as goal

pub returns-in_err-bytes : goal.returns-in_err-bytes
returns-in_err-bytes g c = record {
  ends =
      use-none (g.T.Turns.standing c.args.turns.now) c.args.hold.now.file.stream is_pin c.args.hold.now (call.PinnedWrite c.args.hold.now.id c.args.at c.args.piece.now)
      c.from_residual.result c.requires.can refl c.requires.holding c.from_residual.ensures.1;
}

pub returns : goal.returns
returns g c = record { ends = rw (← c.hold.view_is, ← c.in_ok-bytes.ensures) (c.write_hold.ensures.ends is_pin (rw (← c.hold.view_is) at c.requires.holding)) }
