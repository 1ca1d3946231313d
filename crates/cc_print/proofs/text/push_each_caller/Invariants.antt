use Rattle.std.proofs.Common.{◌≡◌, ◌++◌, take, string_bytes}
use Rattle.cc_print.specs.Text.{each_caller}
use Rattle.cc_print.proofs.text.push_each_caller.Given as goal

abbrev pub invariant-loop-caller : goal.invariant-loop-caller
invariant-loop-caller l = string_bytes l.text ≡ string_bytes l.initial.text ++ each_caller l.streams l.lines l.replies (take l.caller-index l.callers)
