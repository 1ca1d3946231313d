use Rattle.cc_keep.proofs.Kept.{keeps-given}
use Rattle.cc_keep.proofs.keeping.KeepingTurns.give_journal.Goals as goal

pub invariant_of-self : goal.invariant_of-self
invariant_of-self g c = record {
  keeps =
      keeps-given c.args.self.now.device_turns c.args.self.now.stream c.args.self.now.turns.ghost_name (g.T.Turns.standing c.args.self.now.begun.value)
      (g.T.Turns.standing c.args.self.now.begun.value) (g.T.Turns.standing c.args.self.now.turns.now) (g.T.Turns.standing c.give_journal.new.self)
      c.args.journal c.give_journal.ensures c.requires.adds c.args.self.now.keeps;
}
