use Rattle.cc_pieces.proofs.Words.{named, of-its-kind, named-pin}
use Rattle.cc_pieces.proofs.laws.words_name_holds.Goals as goal

pub returns-clause-made : goal.returns-clause-made
returns-clause-made c = named

pub returns-clause-of_its_kind : goal.returns-clause-of_its_kind
returns-clause-of_its_kind c = of-its-kind

pub returns-clause-pinned : goal.returns-clause-pinned
returns-clause-pinned c = named-pin
