-- A run behind its restarts: over what they left it is a run, and where no count of faults rose it shows no failure and tells none.
use Rattle.std.proofs.Common.{◌∙◌, ap, arith, length}
use Rattle.std.proofs.lemmas.List.{with_items_is}
use Rattle.cc_turns.specs.Desk.{tells_of}
use Rattle.cc_run.proofs.Faultless.{behind-without-fault, ran-behind}
use Rattle.cc_run.proofs.RestartsMade.{begun-enough, ends-of}
use Rattle.cc_run.proofs.RunSteps.{enough-disks, enough-logs}
use Rattle.cc_run.proofs.modes.run_in_mode.Goals as goal

pub restart_script-requires-clause-handles : goal.restart_script-requires-clause-handles
restart_script-requires-clause-handles g c =
    rw c.deref_mut.ensures.value (enough-logs (length c.args.disks.items) (length c.args.logs.items) (length c.args.posts.items) c.args.script.now c.requires.enough)

pub restart_script-requires-clause-enough : goal.restart_script-requires-clause-enough
restart_script-requires-clause-enough g c =
    rw c.deref_mut-2.ensures.value (enough-disks (length c.args.disks.items) (length c.args.logs.items) (length c.args.posts.items) c.args.script.now c.requires.enough)

-- there are as many disks and logs behind the restarts
pub run_restarted-requires-clause-enough : goal.run_restarted-requires-clause-enough
run_restarted-requires-clause-enough g c κs within =
    let disks-are = with_items_is c.args.disks c.restart_script.new.disks (omega (arith, c.restart_script.auto.disks, c.deref_mut-2.ensures.len)) in
    let logs-are = with_items_is c.args.logs c.restart_script.new.logs (omega (arith, c.restart_script.auto.logs, c.deref_mut.ensures.len)) in
    rw (disks-are, logs-are) (begun-enough g.D.Told.told g.D.Told.faults g.L.LogFile.told g.L.LogFile.faults c.args.script.now c.in-Ok.ended.items
    c.args.disks.items c.restart_script.new.disks c.args.logs.items c.restart_script.new.logs
    (rw (c.deref_mut.ensures.value, c.deref_mut-2.ensures.value) at c.in-Ok.ensures.restarted) (length c.args.posts.items) c.requires.enough)

pub run_restarted-requires-clause-ended : goal.run_restarted-requires-clause-ended
run_restarted-requires-clause-ended g c κs within =
    rw c.deref.ensures.value (ends-of g.D.Told.told g.D.Told.faults g.L.LogFile.told g.L.LogFile.faults c.args.script.now c.in-Ok.ended.items
    c.args.disks.items c.restart_script.new.disks c.args.logs.items c.restart_script.new.logs
    (rw (c.deref_mut.ensures.value, c.deref_mut-2.ensures.value) at c.in-Ok.ensures.restarted))

pub returns-in-Ok-run_restarted-clause-faultless : goal.returns-in-Ok-run_restarted-clause-faultless
returns-in-Ok-run_restarted-clause-faultless g c =
    let disks-are = with_items_is c.args.disks c.restart_script.new.disks (omega (arith, c.restart_script.auto.disks, c.deref_mut-2.ensures.len)) in
    let logs-are = with_items_is c.args.logs c.restart_script.new.logs (omega (arith, c.restart_script.auto.logs, c.deref_mut.ensures.len)) in
    let tells = tells_of g.D.Told.told g.D.Told.faults g.L.LogFile.told g.L.LogFile.faults g.Q.PostRoutine.posted in
    behind-without-fault tells c.args.mode c.args.script.now c.args.disks.items c.args.logs.items c.args.posts.items
    (record { disks_begun = c.of-disks_begun.result; logs_begun = c.of-logs_begun.result; ran = c.in-Ok-run_restarted.ran }) c.requires.within c.requires.enough
    (ran-behind tells c.args.mode c.args.script.now c.in-Ok.ended.items c.args.disks.items c.restart_script.new.disks c.args.logs.items c.restart_script.new.logs c.args.posts.items
    (record { disks_begun = c.of-disks_begun.result; logs_begun = c.of-logs_begun.result; ran = c.in-Ok-run_restarted.ran })
    (ap (λ v. v.items) c.of-disks_begun.ensures ∙ disks-are) (ap (λ v. v.items) c.of-logs_begun.ensures ∙ logs-are)
    (rw (c.deref_mut.ensures.value, c.deref_mut-2.ensures.value) at c.in-Ok.ensures.restarted)
    (rw (disks-are, logs-are) at c.in-Ok-run_restarted.ensures.ran) (rw (disks-are, logs-are, c.deref.ensures.value) at c.in-Ok-run_restarted.ensures.told))
