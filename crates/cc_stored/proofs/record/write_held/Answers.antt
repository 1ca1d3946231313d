-- The page spells the record, and the disk stands for the past with its entry.
use Rattle.std.proofs.Common.{ap}
use Rattle.cc_turns.specs.Standing.{TurnsHeld}
use Rattle.cc_stored.proofs.Written.{written-stands}
use Rattle.cc_stored.proofs.record.write_held.Goals as goal

pub returns-clause-stands : goal.returns-clause-stands
returns-clause-stands g c =
    let w = g.T.Turns.standing c.args.turns.now in
    let x = g.T.Turns.standing c.place_held.new.turns in
    written-stands g.T.Disk.Told.told g.T.Disk.Told.faults w x c.args.stream c.args.size c.args.valid c.write_record.new.out c.write_page.result c.end_of-how.result c.args.disk.now c.write_page.new.self
    (ap (λ (h : TurnsHeld). h.device) c.requires.held) c.place_held.ensures.went c.write_record.ensures.spelled
    c.write_page.ensures.wrote c.write_page.ensures.failed c.write_page.ensures.no_memory c.write_page.ensures.counted
    c.end_of-how.ensures (rw c.me-pass.ensures at c.place_held.ensures.placed) c.requires.stands
