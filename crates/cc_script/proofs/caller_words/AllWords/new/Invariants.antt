use Rattle.std.proofs.Common.{◌≡◌, ◌≤◌, replicate}
use Rattle.std.specs.Prelude.{vec_capacity}
use Rattle.cc_script.specs.Grammar.{no_words}
use Rattle.cc_script.proofs.caller_words.AllWords.new.Given as goal

abbrev pub invariant-loop : goal.invariant-loop
invariant-loop l = (l.items.items ≡ replicate l.counter no_words) × (vec_capacity l.items ≡ 17) × (l.counter ≤ 17)
