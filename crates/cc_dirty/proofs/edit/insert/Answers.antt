use Rattle.cc_dirty.proofs.Rows.{row_of-insert, KeepsOthers-insert, Sound-insert}
use Rattle.cc_dirty.proofs.edit.insert.Goals as goal

pub returns-clause-row : goal.returns-clause-row
returns-clause-row c = rw c.insert.ensures.rows (row_of-insert c.args.rows.now.rows c.args.place c.requires.sound c.args.row c.requires.split c.requires.within)

pub returns-clause-others : goal.returns-clause-others
returns-clause-others c = rw c.insert.ensures.rows (KeepsOthers-insert c.args.rows.now.rows c.args.place c.requires.sound c.args.row c.requires.split)

pub returns-clause-sound : goal.returns-clause-sound
returns-clause-sound c = rw c.insert.ensures.rows (Sound-insert c.args.rows.now.rows c.args.place c.requires.sound c.args.row c.requires.split c.requires.absent c.requires.touched c.requires.numbered)
