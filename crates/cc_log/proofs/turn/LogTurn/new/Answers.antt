use Rattle.cc_log.proofs.Turns.{Stands-opened}
use Rattle.cc_log.proofs.turn.LogTurn.new.Goals as goal

pub returns-clause-stands : goal.returns-clause-stands
returns-clause-stands g c = Stands-opened g.L.LogFile.told c.args.handle c.args.file
