-- With the book kept nothing came between; with it given, the book that is taken again stands still for its stream.
use Rattle.std.specs.Prelude.{refl}
use Rattle.cc_writes.proofs.Carrying.{beside-none, carried-so, taken-again}
use Rattle.cc_writes.proofs.transfers.carry.Goals as goal

pub returns-then-keeps-clause-grows : goal.returns-then-keeps-clause-grows
returns-then-keeps-clause-grows g c = beside-none (g.T.Turns.standing c.args.turns.now) c.args.page.stream c.args.keeps

pub returns-then-keeps-clause-carried : goal.returns-then-keeps-clause-carried
returns-then-keeps-clause-carried g c =
    carried-so g.T.Disk.Told.told g.T.Disk.Told.faults c.args.page c.page.result c.args.bytes.now c.args.bytes.now c.transfer-how.result c.args.disk.now c.transfer-how.new.disk
    c.page.ensures.same refl c.transfer-how.ensures.ended

pub returns-clause-book : goal.returns-clause-book
returns-clause-book g c =
    taken-again (g.T.Turns.standing c.args.turns.now) (g.T.Turns.standing c.give_book.new.self) (g.T.Turns.standing c.take_book.new.self) c.args.page.stream c.stream-stream.result
    c.args.book c.take_book.result c.requires.book c.give_book.ensures c.stream-stream.ensures c.take_book.ensures.took c.take_book.ensures.stream c.take_book.ensures.stands

pub returns-clause-carried : goal.returns-clause-carried
returns-clause-carried g c =
    carried-so g.T.Disk.Told.told g.T.Disk.Told.faults c.args.page c.page-2.result c.args.bytes.now c.args.bytes.now c.transfer-ended.result c.args.disk.now c.transfer-ended.new.disk
    c.page-2.ensures.same refl c.transfer-ended.ensures.ended
