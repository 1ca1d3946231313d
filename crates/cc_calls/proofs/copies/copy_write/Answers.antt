use Rattle.std.specs.Prelude.{refl}
use Rattle.cc_entry.specs.declared.call.Call.TheVariants as call
use Rattle.cc_calls.proofs.Copying.{change-done, change-none}
use Rattle.cc_calls.proofs.copies.copy_write.Goals as goal

pub returns-in_err-bytes : goal.returns-in_err-bytes
returns-in_err-bytes g c = record {
  ends =
      change-none (g.T.Turns.standing c.args.turns.now) c.args.file.stream (call.CopyWrite c.args.file c.args.at c.args.piece.now)
      c.from_residual.result c.requires.can refl refl c.from_residual.ensures.1;
}

pub returns : goal.returns
returns g c = record {
  ends =
      change-done (g.T.Turns.standing c.args.turns.now) (g.T.Turns.standing c.call_paged.new.turns) _ c.in_ok-call_paged.field-0 _ _ refl
      (rw (c.in_ok-call_paged.was, c.in_ok-bytes.ensures) at c.call_paged.ensures);
}
