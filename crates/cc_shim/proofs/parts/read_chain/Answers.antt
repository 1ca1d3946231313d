-- The part was held, read and let go, or could not be held.
use Rattle.cc_entry.specs.Kinds.{is_read_chain}
use Rattle.cc_pieces.specs.Shim.{descriptor_path}
use Rattle.cc_shim.proofs.Going.{two-asked}
use Rattle.cc_shim.proofs.PartReads.{part-made, part-unmade}
use Rattle.cc_shim.proofs.parts.read_chain.Goals as goal

pub returns-in-Ok : goal.returns-in-Ok
returns-in-Ok g c =
    let w = g.T.Turns.standing c.args.turns.now in
    let v = g.T.Turns.standing c.mdl_read.new.turns in
    record {
      ends =
          part-made w v (descriptor_path c.args.file) is_read_chain c.args.file c.args.part two-asked (g.T.Turns.standing c.mdl_bytes-answer.new.turns) (g.T.Turns.standing c.mdl_read_complete.new.turns) c.in-Ok.chain c.mdl_bytes-answer.result c.args.out.now c.mdl_bytes-answer.new.out
          (rw (c.from-from.ensures.same, c.to.ensures.same) at c.in-Ok.ensures.ends)
          c.note_others.ensures.few
          (rw (c.from-from.ensures.same, c.requires.fits) at c.mdl_bytes-answer.ensures.ends)
          c.mdl_read_complete.ensures.ends;
    }

pub returns-in-Err : goal.returns-in-Err
returns-in-Err g c =
    let w = g.T.Turns.standing c.args.turns.now in
    let v = g.T.Turns.standing c.mdl_read.new.turns in
    record { ends = part-unmade w v (descriptor_path c.args.file) is_read_chain c.args.file c.args.part two-asked c.in-Err.error c.args.out.now c.note_others-in-Err.ensures.few (rw (c.from-from.ensures.same, c.to.ensures.same) at c.in-Err.ensures.ends) }
