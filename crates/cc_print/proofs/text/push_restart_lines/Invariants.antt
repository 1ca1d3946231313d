use Rattle.std.proofs.Common.{◌≡◌, ◌++◌, take, flat_map, string_bytes}
use Rattle.cc_print.specs.Text.{reply_line}
use Rattle.cc_print.proofs.text.push_restart_lines.Given as goal

abbrev pub invariant-loop-restart : goal.invariant-loop-restart
invariant-loop-restart l = string_bytes l.text ≡ string_bytes l.initial.text ++ flat_map (λ restart. reply_line l.streams l.replies restart.line) (take l.restart-index l.restarts)
