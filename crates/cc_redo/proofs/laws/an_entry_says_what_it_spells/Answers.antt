use Rattle.cc_redo.proofs.SaidSpells.{said-spells}
use Rattle.cc_redo.proofs.Spelled.{said-spelled}
use Rattle.cc_redo.proofs.laws.an_entry_says_what_it_spells.Goals as goal

pub returns-clause-read : goal.returns-clause-read
returns-clause-read c = said-spelled

pub returns-clause-spelled : goal.returns-clause-spelled
returns-clause-spelled c = said-spells
