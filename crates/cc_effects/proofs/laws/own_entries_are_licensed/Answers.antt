use Rattle.cc_effects.proofs.Licences.{licensed, unplaced-licensed, has-entry}
use Rattle.cc_effects.proofs.laws.own_entries_are_licensed.Goals as goal

pub returns-clause-licensed : goal.returns-clause-licensed
returns-clause-licensed c = licensed

pub returns-clause-unplaced : goal.returns-clause-unplaced
returns-clause-unplaced c = unplaced-licensed

pub returns-clause-has_entry : goal.returns-clause-has_entry
returns-clause-has_entry c = has-entry
