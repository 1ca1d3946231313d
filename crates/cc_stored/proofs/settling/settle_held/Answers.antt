-- The disk stands while others go on before the flush; behind it what was valid before may be told.
use Rattle.std.specs.Prelude.{ℕ}
use Rattle.std.proofs.Common.{ap, sym, ◌∙◌, subst}
use Rattle.cc_model.specs.History.{history}
use Rattle.cc_model.specs.Touches.{valid_of}
use Rattle.cc_stored.specs.Settle.{TellsAfter}
use Rattle.cc_stored.proofs.Written.{disk-on}
use Rattle.cc_stored.proofs.settling.settle_held.Goals as goal

pub flush_kept-requires-clause-disk : goal.flush_kept-requires-clause-disk
flush_kept-requires-clause-disk g c =
    let w = g.T.Turns.standing c.args.turns.now in
    let v = g.T.Turns.standing c.valid_now-first.new.turns in
    disk-on g.T.Disk.Told.told g.T.Disk.Told.faults w.in_flight c.args.file.stream w v c.args.disk.now c.requires.disk c.valid_now-first.ensures.went c.valid_now-first.ensures.grows

pub record_held-requires-clause-tells : goal.record_held-requires-clause-tells
record_held-requires-clause-tells g c =
    let v = g.T.Turns.standing c.valid_now-first.new.turns in
    let y = g.T.Turns.standing c.flush_kept.new.turns in
    let first_is = c.valid_now-first.ensures.valid ∙ ap (λ (n : ℕ). valid_of (history v.seen n)) c.stream-stream.ensures in
    subst (λ (n : ℕ). TellsAfter y n c.valid_now-first.result) (sym c.stream-stream.ensures)
    (subst (λ (m : ℕ). TellsAfter y c.args.file.stream m) (sym first_is) c.in-Ok.ensures.tells)
