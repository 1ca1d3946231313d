use Rattle.std.proofs.lemmas.List.{drop-set-add}
use Rattle.cc_dirty.proofs.live.LiveRows.set.Goals as goal

pub returns-clause-rows : goal.returns-clause-rows
returns-clause-rows c = rw (← c.self.view_is) (drop-set-add c.self.inside.first c.self.inside.places.items c.args.place c.args.row)
