use Rattle.std.proofs.Common.{◌∙◌}
use Rattle.cc_script.proofs.NamesFound.{found}
use Rattle.cc_script.proofs.hold_word.HoldNames.place_of.Goals as goal

pub returns : goal.returns
returns c = rw (← c.self.view_is) (c.get_index_of.ensures.index ∙ found c.args.word.now c.self.inside.words.keys)
