-- It is told of a full journal where there is no room for the two places of a transfer, and no more is asked at once.
use Rattle.std.specs.Prelude.{Err}
use Rattle.std.specs.declared.option.Option.TheVariants.{None}
use Rattle.std.proofs.Common.{arith}
use Rattle.cc_entry.specs.declared.call.Call.TheVariants as call
use Rattle.cc_entry.specs.declared.place.FileState.{FileState}
use Rattle.cc_calls.proofs.Paging.{writing-within}
use Rattle.cc_lines.proofs.WordLines.{full-less}
use Rattle.cc_lines.proofs.settle_line.settle_stream.Goals as goal

pub returns-in-Err-clause-full : goal.returns-in-Err-clause-full
returns-in-Err-clause-full g c =
    full-less 2 3 (g.T.Turns.standing c.settle.new.turns) c.in-Err.error (omega arith)
    (writing-within {A = FileState} (call.Flush c.args.file None) (g.T.Turns.standing c.settle.new.turns) (Err c.in-Err.error) c.in-Err.ensures.ends.full)
