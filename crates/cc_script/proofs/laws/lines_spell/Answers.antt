use Rattle.cc_script.proofs.LineWords.{streams_spell, reads_spell, settings_spell}
use Rattle.cc_script.proofs.laws.lines_spell.Goals as goal

pub returns-clause-streams : goal.returns-clause-streams
returns-clause-streams c = streams_spell

pub returns-clause-reads : goal.returns-clause-reads
returns-clause-reads c = reads_spell

pub returns-clause-settings : goal.returns-clause-settings
returns-clause-settings c = settings_spell
