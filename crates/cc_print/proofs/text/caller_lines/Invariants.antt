use Rattle.std.proofs.Common.{◌≡◌, take, string_bytes}
use Rattle.cc_print.specs.Text.{caller_lines}
use Rattle.cc_print.proofs.text.caller_lines.Given as goal

abbrev pub invariant-loop-action : goal.invariant-loop-action
invariant-loop-action l = string_bytes l.text ≡ caller_lines l.streams (take l.action-index l.lines) l.replies l.caller
