-- Where the sync fails behind a record that was written, that is told.
use Rattle.std.specs.Prelude.{ℕ, Err}
use Rattle.std.proofs.Common.{ap, subst}
use Rattle.cc_turns.specs.Standing.{Standing}
use Rattle.cc_stored.specs.Settle.{SyncLeft}
use Rattle.cc_stored.proofs.Written.{unsynced}
use Rattle.cc_stored.proofs.record.record_held.Goals as goal

pub returns-in-Err-sync_one-clause-left : goal.returns-in-Err-sync_one-clause-left
returns-in-Err-sync_one-clause-left g c =
    let w = g.T.Turns.standing c.args.turns.now in
    let v = g.T.Turns.standing c.write_one.new.turns in
    let z = g.T.Turns.standing c.sync_one.new.turns in
    unsynced w.number c.args.stream c.args.first c.in-Ok.lengths c.in-Err-sync_one.error w.seen v.seen z.seen c.in-Ok.ensures.left
    (subst (λ (n : ℕ). SyncLeft n c.args.stream (Err c.in-Err-sync_one.error) v.seen z.seen) (ap (λ (a : Standing). a.number) c.write_one.ensures.went.same) c.in-Err-sync_one.ensures.left)
