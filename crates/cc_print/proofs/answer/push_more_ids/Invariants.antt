use Rattle.std.proofs.Common.{◌≡◌, ◌++◌, take, string_bytes}
use Rattle.cc_print.specs.Answers.{more_ids}
use Rattle.cc_print.proofs.answer.push_more_ids.Given as goal

abbrev pub invariant-loop-id : goal.invariant-loop-id
invariant-loop-id l = string_bytes l.text ≡ string_bytes l.initial.text ++ more_ids (take l.id-index l.ids)
