use Rattle.cc_dirty.proofs.Rows.{row_of-set, KeepsOthers-set, Sound-set}
use Rattle.cc_dirty.proofs.edit.replace.Goals as goal

pub returns-clause-row : goal.returns-clause-row
returns-clause-row c = rw c.set.ensures.rows (row_of-set c.args.rows.now.rows c.args.place c.requires.sound c.args.row c.requires.split c.requires.at)

pub returns-clause-others : goal.returns-clause-others
returns-clause-others c = rw c.set.ensures.rows (KeepsOthers-set c.args.rows.now.rows c.args.place c.requires.sound c.args.row c.requires.split c.requires.at)

pub returns-clause-sound : goal.returns-clause-sound
returns-clause-sound c = rw c.set.ensures.rows (Sound-set c.args.rows.now.rows c.args.place c.requires.sound c.args.row c.requires.split c.requires.at c.requires.touched c.requires.numbered)
