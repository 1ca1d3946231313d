use Rattle.std.specs.Prelude.{refl}
use Rattle.cc_calls.proofs.Copying.{change-done}
use Rattle.cc_calls.proofs.copies.zero_data.Goals as goal

pub returns : goal.returns
returns g c = record {
  ends =
      change-done (g.T.Turns.standing c.args.turns.now) (g.T.Turns.standing c.call_paged.new.turns) _ c.in_ok-call_paged.field-0 _ _ refl
      (rw c.in_ok-call_paged.was at c.call_paged.ensures);
}
