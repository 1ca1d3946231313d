use Rattle.std.proofs.Common.{ℕ, List, Option, Err, sym, subst}
use Rattle.cc_entry.specs.declared.entry.Entry.{Entry}
use Rattle.cc_entry.specs.declared.entry.Entry.TheVariants as entry
use Rattle.cc_traits.specs.Log.{Log}
use Rattle.cc_log.specs.Turn.{LogTurnState, Stands, past_flushed}
use Rattle.cc_log.proofs.Turns.{Stands-flushed, Stands-stopped}
use Rattle.cc_log.proofs.turn.LogTurn.flush.Goals as goal

pub returns-in-Ok-clause-stands : goal.returns-in-Ok-clause-stands
returns-in-Ok-clause-stands g c =
    let was : LogTurnState g.row.L.Denot = record { handle = c.self.inside.handle; floor = c.self.inside.floor; flushed = c.self.inside.flushed; file = c.self.inside.file } in
    (rw (sym c.self.view_is, c.max-self-inside.ensures, c.max-self-inside-in-Ok.ensures, c.number-in-Ok.ensures.same, c.number-in-Ok-2.ensures.same) (λ begun past pass stood.
    Stands-flushed g.L.LogFile.told begun past pass c.args.to was c.flush.new.self stood (rw (sym c.number.ensures.same) c.in-Ok.ensures.flushed)))

pub returns-in-Err-clause-stands : goal.returns-in-Err-clause-stands
returns-in-Err-clause-stands g c =
    let was : LogTurnState g.row.L.Denot = record { handle = c.self.inside.handle; floor = c.self.inside.floor; flushed = c.self.inside.flushed; file = c.self.inside.file } in
    subst (λ (old : LogTurnState g.row.L.Denot). (begun : Option Log) (past : List Entry) (pass : ℕ) → Stands g.L.LogFile.told begun past old → Stands g.L.LogFile.told begun (past_flushed pass old.handle c.args.to (Err c.refusal.result) past) (record was { file = c.flush.new.self })) c.self.view_is
    (λ begun past pass stood.
    Stands-stopped {T = Unit {0}} (λ done. entry.Flushed pass c.self.inside.handle c.args.to) g.L.LogFile.told begun past pass was c.flush.new.self c.in-Err.stop c.refusal.result c.refusal.ensures stood c.in-Err.ensures.failed c.in-Err.ensures.no_memory)
