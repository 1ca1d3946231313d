-- One visit that places nothing: it adds none, so all that stood, and a call under way, stand behind it.
use Rattle.cc_writes.proofs.Releasing.{adds_none, book_released, rest_released, disk_released, way_released}
use Rattle.cc_writes.proofs.release.release_at.Goals as goal

pub give_journal-requires-clause-adds : goal.give_journal-requires-clause-adds
give_journal-requires-clause-adds g c =
    adds_none g.T.Post.PostRoutine.posted (g.T.Turns.standing c.args.turns.now) (g.T.Turns.standing c.take_journal-journal.new.self)
    c.take_journal-journal.result c.release.new.self c.take_journal-journal.ensures.took c.take_journal-journal.ensures.stands c.release.ensures

pub returns-clause-book : goal.returns-clause-book
returns-clause-book g c =
    book_released g.T.Post.PostRoutine.posted (g.T.Turns.standing c.args.turns.now) (g.T.Turns.standing c.take_journal-journal.new.self)
    c.take_journal-journal.result c.release.new.self c.take_journal-journal.ensures.took c.take_journal-journal.ensures.stands c.release.ensures
    (g.T.Turns.standing c.give_journal.new.self) c.give_journal.ensures c.requires.free

pub returns-clause-rest : goal.returns-clause-rest
returns-clause-rest g c =
    rest_released g.T.Post.PostRoutine.posted (g.T.Turns.standing c.args.turns.now) (g.T.Turns.standing c.take_journal-journal.new.self)
    c.take_journal-journal.result c.release.new.self c.take_journal-journal.ensures.took c.take_journal-journal.ensures.stands c.release.ensures
    (g.T.Turns.standing c.give_journal.new.self) c.give_journal.ensures c.requires.free

pub returns-clause-disk : goal.returns-clause-disk
returns-clause-disk g c =
    disk_released g.T.Post.PostRoutine.posted (g.T.Turns.standing c.args.turns.now) (g.T.Turns.standing c.take_journal-journal.new.self)
    c.take_journal-journal.result c.release.new.self c.take_journal-journal.ensures.took c.take_journal-journal.ensures.stands c.release.ensures
    (g.T.Turns.standing c.give_journal.new.self) c.give_journal.ensures c.requires.free

pub returns-clause-left : goal.returns-clause-left
returns-clause-left g c =
    way_released g.T.Post.PostRoutine.posted (g.T.Turns.standing c.args.turns.now) (g.T.Turns.standing c.take_journal-journal.new.self)
    c.take_journal-journal.result c.release.new.self c.take_journal-journal.ensures.took c.take_journal-journal.ensures.stands c.release.ensures
    (g.T.Turns.standing c.give_journal.new.self) c.give_journal.ensures c.requires.free
