-- What was served ends the line: where it ends with a full journal, its end is a moment at which that was so.
use Rattle.cc_lines.proofs.FullLines.{full-line}
use Rattle.cc_lines.proofs.line.serve_at.Goals as goal

pub returns : goal.returns
returns g c =
    let w = g.T.Turns.standing c.args.turns.now in
    let v = g.T.Turns.standing c.serve_any-answer.new.turns in
    let line = c.serve_any-answer.ensures in
    let left = line.served c.requires.can.bounds c.requires.can.bindings c.requires.can.stand c.requires.can.right in
    record {
      served = line.served;
      full = (line.full, full-line w v line.goes_on c.note_others.ensures.few c.requires.can.bindings c.args.action.now c.serve_any-answer.result left.0 line.full);
      goes_on = line.goes_on;
      good = line.good;
      room = line.room;
      placed = line.placed;
    }
