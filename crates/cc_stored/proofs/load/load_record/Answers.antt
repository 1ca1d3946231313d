use Rattle.cc_stored.proofs.Unread.{loaded}
use Rattle.cc_stored.proofs.load.load_record.Goals as goal

pub returns : goal.returns
returns g c = record {
  ends =
      loaded (g.T.Turns.standing c.args.turns.now) (g.T.Turns.standing c.take_device-disk.new.self) (g.T.Turns.standing c.load_held-loaded.new.turns) (g.T.Turns.standing c.give_device.new.self)
      c.args.stream c.load_held-loaded.result c.requires.can c.take_device-disk.ensures.took c.load_held-loaded.ensures.went c.give_device.ensures
      c.load_held-loaded.ensures.good c.load_held-loaded.ensures.left c.load_held-loaded.ensures.full c.load_held-loaded.ensures.read;
}
