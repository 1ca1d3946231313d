use Rattle.std.proofs.Common.{◌≡◌, drop}
use Rattle.cc_script.specs.Words.{number_onto}
use Rattle.cc_command.proofs.words.digits_value.Given as goal

abbrev pub invariant-loop-digit : goal.invariant-loop-digit
invariant-loop-digit l = number_onto 0 l.digits ≡ number_onto l.n (drop l.digit-index l.digits)
