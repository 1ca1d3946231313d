use Rattle.std.proofs.Common.{◌≡◌, ◌++◌, take, flat_map, string_bytes}
use Rattle.cc_print.specs.Text.{reply_line}
use Rattle.cc_print.proofs.text.push_stream_lines.Given as goal

abbrev pub invariant-loop-stream : goal.invariant-loop-stream
invariant-loop-stream l = string_bytes l.text ≡ string_bytes l.initial.text ++ flat_map (λ stream. reply_line l.streams l.replies stream.line) (take l.stream-index l.streams)
