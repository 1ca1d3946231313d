-- The part was held, read and let go, or could not be held.
use Rattle.cc_entry.specs.Kinds.{is_map}
use Rattle.cc_pieces.specs.Shim.{mapped_path}
use Rattle.cc_shim.proofs.Going.{two-asked}
use Rattle.cc_shim.proofs.PartReads.{part-made, part-unmade}
use Rattle.cc_shim.proofs.parts.read_mapped.Goals as goal

pub returns-in-Ok : goal.returns-in-Ok
returns-in-Ok g c =
    let w = g.T.Turns.standing c.args.turns.now in
    let v = g.T.Turns.standing c.map_data.new.turns in
    record {
      ends =
          part-made w v (mapped_path c.args.file) is_map c.args.file c.args.part two-asked (g.T.Turns.standing c.mapped_read-answer.new.turns) (g.T.Turns.standing c.unmap.new.turns) c.in-Ok.map c.mapped_read-answer.result c.args.out.now c.mapped_read-answer.new.out
          (rw (c.from-from.ensures.same, c.to.ensures.same) at c.in-Ok.ensures.ends)
          c.note_others.ensures.few
          (rw (c.from-from.ensures.same, c.requires.fits) at c.mapped_read-answer.ensures.ends)
          c.unmap.ensures.ends;
    }

pub returns-in-Err : goal.returns-in-Err
returns-in-Err g c =
    let w = g.T.Turns.standing c.args.turns.now in
    let v = g.T.Turns.standing c.map_data.new.turns in
    record { ends = part-unmade w v (mapped_path c.args.file) is_map c.args.file c.args.part two-asked c.in-Err.error c.args.out.now c.note_others-in-Err.ensures.few (rw (c.from-from.ensures.same, c.to.ensures.same) at c.in-Err.ensures.ends) }
