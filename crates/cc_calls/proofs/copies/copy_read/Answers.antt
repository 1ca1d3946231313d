-- What the paged call told is a count of bytes, by its reply, so no other answer is reached; or it failed.
use Rattle.cc_calls.proofs.Copying.{read-done, read-failed, read-told}
use Rattle.cc_calls.proofs.copies.copy_read.Goals as goal

pub returns-in-Bytes : goal.returns-in-Bytes
returns-in-Bytes g c = record {
  ends =
      read-done (g.T.Turns.standing c.args.turns.now) (g.T.Turns.standing c.call_paged.new.turns) c.args.file c.args.at c.args.wait
      c.args.out.now c.call_paged.new.out c.in-Bytes.read (rw (c.in-Ok.is, c.in-Bytes.is) at c.call_paged.ensures);
}

pub unreachable-requires : goal.unreachable-requires
unreachable-requires g c =
    read-told (g.T.Turns.standing c.args.turns.now) (g.T.Turns.standing c.call_paged.new.turns) c.args.file c.args.at c.args.wait
    c.args.out.now c.call_paged.new.out c.in-Ok.told c.in_default.not-Bytes (rw c.in-Ok.is at c.call_paged.ensures)

pub returns-in-Err : goal.returns-in-Err
returns-in-Err g c = record {
  ends =
      read-failed (g.T.Turns.standing c.args.turns.now) (g.T.Turns.standing c.call_paged.new.turns) c.args.file c.args.at c.args.wait
      c.args.out.now c.call_paged.new.out c.in-Err.error (rw c.in-Err.is at c.call_paged.ensures);
}
