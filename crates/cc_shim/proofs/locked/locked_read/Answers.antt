-- The state was not told, or the read went on by it.
use Rattle.std.specs.Prelude.{false, length, refl}
use Rattle.cc_pieces.specs.Locks.{read_refused, tested_range}
use Rattle.cc_pieces.specs.Shim.{ReadTested, misaligned_for, too_long_for}
use Rattle.cc_shim.specs.Reads.{read_in}
use Rattle.cc_shim.proofs.LockedCalls.{locked-told, locked-untold}
use Rattle.cc_shim.proofs.locked.locked_read.Goals as goal

pub returns-in-Ok : goal.returns-in-Ok
returns-in-Ok g c =
    let w = g.T.Turns.standing c.args.turns.now in
    let v = g.T.Turns.standing c.file_state.new.turns in
    let x = g.T.Turns.standing c.read_found.new.turns in
    record {
      ends = record {
        ends =
            locked-told c.args.file (tested_range c.args.at (length c.args.out.now)) false (λ u me. ReadTested u me c.args.file c.args.path c.args.at (length c.args.out.now) (too_long_for c.args.path (length c.args.out.now)) (misaligned_for c.args.path c.args.at (length c.args.out.now))) w v x (λ state. read_refused c.args.path c.args.at (length c.args.out.now) state) c.in-Ok.field-0
            (read_in c.read_found.result c.read_found.new.out) c.in-Ok.ensures.ends c.read_found.ensures.ends.ends;
        rest = c.read_found.ensures.ends.rest;
      };
    }

pub returns-in-Err : goal.returns-in-Err
returns-in-Err g c =
    let w = g.T.Turns.standing c.args.turns.now in
    let v = g.T.Turns.standing c.file_state.new.turns in
    record {
      ends = record {
        ends =
            locked-untold c.args.file (tested_range c.args.at (length c.args.out.now)) false (λ u me. ReadTested u me c.args.file c.args.path c.args.at (length c.args.out.now) (too_long_for c.args.path (length c.args.out.now)) (misaligned_for c.args.path c.args.at (length c.args.out.now))) w v (λ state. read_refused c.args.path c.args.at (length c.args.out.now) state) c.in-Err.error
            c.note_others.ensures.few c.in-Err.ensures.ends;
        rest = refl;
      };
    }
