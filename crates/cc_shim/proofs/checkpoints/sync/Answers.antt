-- A flush of an empty span of the stream's first object.
use Rattle.std.specs.Prelude.{◌≡◌}
use Rattle.std.proofs.Common.{subst}
use Rattle.std.specs.declared.option.Option.TheVariants.{Some}
use Rattle.cc_entry.specs.Place.{Range}
use Rattle.cc_pieces.specs.Checkpoints.{first_object}
use Rattle.cc_calls.specs.Flushes.{FlushEnds}
use Rattle.cc_shim.proofs.Checkpointing.{same-file, same-range, synced}
use Rattle.cc_shim.proofs.checkpoints.sync.Goals as goal

pub returns : goal.returns
returns g c =
    let w = g.T.Turns.standing c.args.turns.now in
    let v = g.T.Turns.standing c.flush-answer.new.turns in
    let is : c.unwrap-file.result ≡ first_object c.args.stream = same-file c.unwrap-file.result c.args.stream (rw c.unwrap-file.ensures at c.new.ensures.stream) (rw c.unwrap-file.ensures at c.new.ensures.object) in
    let empty : c.unwrap-span.result ≡ record { from = 0; to = 0 } = same-range c.unwrap-span.result 0 0 (rw c.unwrap-span.ensures at c.new-2.ensures.start) (rw c.unwrap-span.ensures at c.new-2.ensures.end) in
    record {
      ends =
          synced w v c.args.stream c.unwrap-file.result c.flush-answer.result is c.note_others.ensures.few
          (subst (λ (r : Range). FlushEnds w v c.unwrap-file.result (Some r) c.flush-answer.result) empty c.flush-answer.ensures.ends);
    }
