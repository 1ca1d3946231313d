use Rattle.cc_format.proofs.Numbers.{spelled_once}
use Rattle.cc_format.proofs.laws.a_page_spells_one_record.Goals as goal

pub returns : goal.returns
returns c = spelled_once
