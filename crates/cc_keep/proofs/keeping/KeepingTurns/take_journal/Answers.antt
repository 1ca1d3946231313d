use Rattle.std.proofs.Common.{refl}
use Rattle.cc_turns.specs.Takes.{with_journal}
use Rattle.cc_keep.proofs.Kept.{keeps-taken}
use Rattle.cc_keep.proofs.keeping.KeepingTurns.take_journal.Goals as goal

pub invariant_of-self : goal.invariant_of-self
invariant_of-self g c = record {
  keeps =
      keeps-taken c.args.self.now.device_turns c.args.self.now.stream (g.T.Turns.standing c.args.self.now.begun.value) (g.T.Turns.standing c.args.self.now.turns.now)
      (g.T.Turns.standing c.take_journal.new.self) with_journal c.take_journal.ensures.took refl refl refl c.args.self.now.keeps;
}
