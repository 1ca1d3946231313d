-- Behind the restarts the desk acts as pass 0 anew, and opens the streams.
use Rattle.std.proofs.Common.{sym, subst}
use Rattle.cc_turns.specs.Desk.{standing_of}
use Rattle.cc_run.specs.Desks.{PassIsReady}
use Rattle.cc_run.proofs.Begins.{begun-so, run-over}
use Rattle.cc_run.proofs.run.begin_run.Goals as goal

pub open_streams-requires-clause-ready : goal.open_streams-requires-clause-ready
open_streams-requires-clause-ready g c =
    subst (λ d. PassIsReady (standing_of g.D.Told.told g.D.Told.faults g.L.LogFile.told g.L.LogFile.faults d)) (sym c.act_as.ensures)
    (record { free = c.end_restarts.ensures.ready.free; at_rest = c.end_restarts.ensures.ready.at_rest })

pub returns-clause-begun : goal.returns-clause-begun
returns-clause-begun g c = (
  c.end_restarts.new.desk.last.entries,
  begun-so g.D.Told.told g.D.Told.faults g.L.LogFile.told g.L.LogFile.faults c.args.desk.now c.end_restarts.new.desk c.act_as.new.self c.open_streams.new.desk c.act_as.ensures c.end_restarts.ensures.run
      c.args.script.now c.args.ended.now c.end_restarts.new.replies.items c.args.replies.now.items c.open_streams.new.replies.items
      c.requires.empty c.requires.none c.requires.ended c.end_restarts.ensures.ended c.end_restarts.ensures.alone
      (rw (c.as_slice.ensures, c.as_slice-2.ensures.same, c.deref.ensures.value) at c.open_streams.ensures.opened) c.open_streams.ensures.alone,
)

pub returns-clause-run : goal.returns-clause-run
returns-clause-run g c =
    run-over g.D.Told.told g.D.Told.faults g.L.LogFile.told g.L.LogFile.faults c.args.desk.now c.end_restarts.new.desk c.act_as.new.self c.open_streams.new.desk c.act_as.ensures c.end_restarts.ensures.run c.open_streams.ensures.run
