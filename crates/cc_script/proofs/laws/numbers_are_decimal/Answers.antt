use Rattle.cc_script.proofs.Numbers.{decimal-number_of, number_of-decimal}
use Rattle.cc_script.proofs.laws.numbers_are_decimal.Goals as goal

pub returns : goal.returns
returns c = λ word n. (decimal-number_of word n, λ h. rw h.1 (number_of-decimal n h.0))
