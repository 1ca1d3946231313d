-- A script of steps has no restart, so none is told.
use Rattle.std.specs.Prelude.{reverse}
use Rattle.cc_program.specs.Setups.{setup_of}
use Rattle.cc_run.proofs.RestartsMade.{no-restarts, none-told}
use Rattle.cc_run.proofs.modes.run_restarted.Goals as goal

pub returns-in-Run-clause-ran : goal.returns-in-Run-clause-ran
returns-in-Run-clause-ran g c = rw (c.in-Run.is) c.run_script.ensures.ran

pub returns-in-Steps-clause-ran : goal.returns-in-Steps-clause-ran
returns-in-Steps-clause-ran g c = rw (c.in-Steps.is) c.step_script.ensures.ran

pub returns-in-Steps-clause-told : goal.returns-in-Steps-clause-told
returns-in-Steps-clause-told g c =
    none-told (setup_of g.D.Told.told g.D.Told.faults c.args.script.now c.args.disks.items c.args.logs.items) c.args.script.now.restarts c.args.ended.now
    c.step_script.result (λ ran. ran.replies.items) (λ ran. reverse ran.journal.items)
    (no-restarts c.args.mode c.args.script.now c.in-Steps.is c.requires.of_mode) c.requires.ended
