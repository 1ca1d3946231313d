use Rattle.cc_script.proofs.Spelled.{words_spell}
use Rattle.cc_script.proofs.FileWords.{files_spell}
use Rattle.cc_script.proofs.laws.words_spell.Goals as goal

pub returns-clause-bytes : goal.returns-clause-bytes
returns-clause-bytes c = words_spell

pub returns-clause-files : goal.returns-clause-files
returns-clause-files c = files_spell
