use Rattle.cc_dirty.proofs.Rows.{row_of-remove, KeepsOthers-remove, Sound-remove}
use Rattle.cc_dirty.proofs.edit.remove.Goals as goal

pub returns-clause-row : goal.returns-clause-row
returns-clause-row c = rw c.remove.ensures.rows (row_of-remove c.args.rows.now.rows c.args.place c.requires.sound c.args.page c.requires.split c.requires.at)

pub returns-clause-others : goal.returns-clause-others
returns-clause-others c = rw c.remove.ensures.rows (KeepsOthers-remove c.args.rows.now.rows c.args.place c.requires.sound c.args.page c.requires.split c.requires.at)

pub returns-clause-sound : goal.returns-clause-sound
returns-clause-sound c = rw c.remove.ensures.rows (Sound-remove c.args.rows.now.rows c.args.place c.requires.sound c.args.page c.requires.split c.requires.at)
