use Rattle.std.proofs.Common.{◌∙◌, ap}
use Rattle.cc_script.specs.HoldNames.{words_as_bytes}
use Rattle.cc_script.proofs.NamesFound.{bound_last}
use Rattle.cc_script.proofs.hold_word.HoldNames.insert.Goals as goal
use Rattle.cc_script.proofs.hold_word.HoldNames.insert.Goals.{in-Ok, in-Err}

pub returns : goal.returns
returns c =
    rw (← c.self.view_is) (elim c.match-insert_full.branch [
      | in-Ok w ↦ rw w.result-is (ap words_as_bytes w.in-Ok.ensures.keys ∙ bound_last c.self.inside.words.keys c.args.word (rw c.self.view_is c.requires))
      | in-Err w ↦ rw w.result-is tt
    ])
