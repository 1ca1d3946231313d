use Rattle.std.proofs.Common.{refl}
use Rattle.cc_turns.specs.Takes.{with_book}
use Rattle.cc_keep.proofs.Kept.{keeps-taken}
use Rattle.cc_keep.proofs.keeping.KeepingTurns.take_book.Goals as goal

pub invariant_of-self : goal.invariant_of-self
invariant_of-self g c = record {
  keeps =
      keeps-taken c.args.self.now.device_turns c.args.self.now.stream (g.T.Turns.standing c.args.self.now.begun.value) (g.T.Turns.standing c.args.self.now.turns.now)
      (g.T.Turns.standing c.take_book.new.self) (with_book c.args.stream) c.take_book.ensures.took refl refl refl c.args.self.now.keeps;
}
