use Rattle.std.proofs.Common.{ℕ, List, Option, Err, sym, subst}
use Rattle.cc_entry.specs.declared.entry.Entry.{Entry}
use Rattle.cc_entry.specs.declared.entry.Entry.TheVariants as entry
use Rattle.cc_traits.specs.Log.{Log}
use Rattle.cc_log.specs.Turn.{LogTurnState, Stands, past_appended}
use Rattle.cc_log.proofs.Turns.{Stands-appended, Stands-stopped}
use Rattle.cc_log.proofs.turn.LogTurn.append.Goals as goal

pub returns-in-Ok-clause-stands : goal.returns-in-Ok-clause-stands
returns-in-Ok-clause-stands g c =
    let was : LogTurnState g.row.L.Denot = record { handle = c.self.inside.handle; floor = c.self.inside.floor; flushed = c.self.inside.flushed; file = c.self.inside.file } in
    (rw (sym c.self.view_is, c.number-self-inside.ensures.same) (λ begun past pass stood.
    Stands-appended g.L.LogFile.told begun past pass c.in-Some.lsn c.args.bytes.now was c.append.new.self stood c.in-Some.ensures.number (rw (sym c.number.ensures.same) c.in-Ok.ensures.appended)))

pub returns-in-Err-clause-stands : goal.returns-in-Err-clause-stands
returns-in-Err-clause-stands g c =
    let was : LogTurnState g.row.L.Denot = record { handle = c.self.inside.handle; floor = c.self.inside.floor; flushed = c.self.inside.flushed; file = c.self.inside.file } in
    subst (λ (old : LogTurnState g.row.L.Denot). (begun : Option Log) (past : List Entry) (pass : ℕ) → Stands g.L.LogFile.told begun past old → Stands g.L.LogFile.told begun (past_appended pass old.handle c.args.bytes.now (Err c.refusal.result) past) (record was { file = c.append.new.self })) c.self.view_is
    (λ begun past pass stood.
    Stands-stopped (λ (lsn : ℕ). entry.Append pass c.self.inside.handle lsn c.args.bytes.now) g.L.LogFile.told begun past pass was c.append.new.self c.in-Err.stop c.refusal.result c.refusal.ensures stood c.in-Err.ensures.failed c.in-Err.ensures.no_memory)
