use Rattle.std.specs.Prelude.{◌⊎◌}
use Rattle.std.proofs.Common.{inl, inr}
use Rattle.cc_restart_laws.specs.Updates.{IsUpdated}
use Rattle.cc_program.specs.Runs.{given_of}
use Rattle.cc_traits.specs.Disk.{page_of}
use Rattle.cc_run_laws.proofs.ScriptRan.{explained, good, opens, ran-updated, setup, within}
use Rattle.cc_run_laws.proofs.scripts.scripts_of_updates_are_redone.Goals as goal

-- by one of two
either : {A B C : Type 0} → A ⊎ B → (A → C) → (B → C) → C
either (inl a) f g = f a
either (inr b) f g = g b

pub returns-clause-updates : goal.returns-clause-updates
returns-clause-updates g c = λ call clauses s log line read opening left begun after leaves had done none.
    let u = setup g.D.Told.told g.D.Told.faults g.L.LogFile.told g.L.LogFile.faults call clauses s log line read opening left begun after leaves.its.script leaves.its.ran leaves.its.named leaves.its.mode_is had in
    let is = explained g.D.Told.told g.D.Told.faults g.L.LogFile.told g.L.LogFile.faults call clauses s log line read opening left begun after leaves.its.script leaves.its.ran leaves.its.named leaves.its.mode_is had in
    let so_far = good g.D.Told.told g.D.Told.faults g.L.LogFile.told g.L.LogFile.faults call clauses s log line read opening left begun after leaves.its.script leaves.its.ran leaves.its.named leaves.its.mode_is had in
    let tells = opens g.D.Told.told g.D.Told.faults g.L.LogFile.told g.L.LogFile.faults call clauses s log line read opening left begun after leaves.its.script leaves.its.ran leaves.its.named leaves.its.mode_is had in
    let updated : IsUpdated s log call.past = c.scripts_of_updates_keep_the_form.ensures.updates u (given_of leaves.its.script) call.told call.taken call.past is so_far s log line leaves.opening leaves.its.named leaves.opening_at leaves.its.logged done leaves.updates none in
    ran-updated g.D.Told.told g.D.Told.faults g.L.LogFile.told g.L.LogFile.faults call clauses s log line read opening left begun after leaves.its.script leaves.its.ran leaves.its.named leaves.its.mode_is had updated
    (c.streams_open_with_their_numbers.ensures.done u (given_of leaves.its.script) call.told call.taken call.past is so_far s log updated line leaves.opening leaves.its.named leaves.opening_at read (page_of opening) tells had.reads had.stored done)

pub returns-clause-checkpoints : goal.returns-clause-checkpoints
returns-clause-checkpoints g c = λ call clauses s log line read opening left begun after leaves had done right.
    let u = setup g.D.Told.told g.D.Told.faults g.L.LogFile.told g.L.LogFile.faults call clauses s log line read opening left begun after leaves.its.script leaves.its.ran leaves.its.named leaves.its.mode_is had in
    let is = explained g.D.Told.told g.D.Told.faults g.L.LogFile.told g.L.LogFile.faults call clauses s log line read opening left begun after leaves.its.script leaves.its.ran leaves.its.named leaves.its.mode_is had in
    let so_far = good g.D.Told.told g.D.Told.faults g.L.LogFile.told g.L.LogFile.faults call clauses s log line read opening left begun after leaves.its.script leaves.its.ran leaves.its.named leaves.its.mode_is had in
    let tells = opens g.D.Told.told g.D.Told.faults g.L.LogFile.told g.L.LogFile.faults call clauses s log line read opening left begun after leaves.its.script leaves.its.ran leaves.its.named leaves.its.mode_is had in
    let kept_apart = within g.D.Told.told g.D.Told.faults g.L.LogFile.told g.L.LogFile.faults call clauses s log line read opening left begun after leaves.its.script leaves.its.ran leaves.its.named leaves.its.mode_is had in
    let updated : IsUpdated s log call.past = either right.stamped
    (λ stamped. c.scripts_of_updates_keep_the_form.ensures.set_dirty u (given_of leaves.its.script) call.told call.taken call.past is so_far s log line leaves.opening leaves.its.named leaves.opening_at leaves.its.logged done leaves.updates kept_apart.apart stamped right.known)
    (λ unwanting. c.scripts_of_updates_keep_the_form.ensures.checkpoints u (given_of leaves.its.script) call.told call.taken call.past is so_far s log line leaves.opening leaves.its.named leaves.opening_at leaves.its.logged done leaves.updates kept_apart.apart unwanting right.known) in
    ran-updated g.D.Told.told g.D.Told.faults g.L.LogFile.told g.L.LogFile.faults call clauses s log line read opening left begun after leaves.its.script leaves.its.ran leaves.its.named leaves.its.mode_is had updated
    (c.streams_open_with_their_numbers.ensures.done u (given_of leaves.its.script) call.told call.taken call.past is so_far s log updated line leaves.opening leaves.its.named leaves.opening_at read (page_of opening) tells had.reads had.stored done)

pub returns-clause-kept : goal.returns-clause-kept
returns-clause-kept g c = λ call clauses s log line read opening left begun after leaves had closed are none.
    let u = setup g.D.Told.told g.D.Told.faults g.L.LogFile.told g.L.LogFile.faults call clauses s log line read opening left begun after leaves.its.script leaves.its.ran leaves.its.named leaves.its.mode_is had in
    let is = explained g.D.Told.told g.D.Told.faults g.L.LogFile.told g.L.LogFile.faults call clauses s log line read opening left begun after leaves.its.script leaves.its.ran leaves.its.named leaves.its.mode_is had in
    let so_far = good g.D.Told.told g.D.Told.faults g.L.LogFile.told g.L.LogFile.faults call clauses s log line read opening left begun after leaves.its.script leaves.its.ran leaves.its.named leaves.its.mode_is had in
    let tells = opens g.D.Told.told g.D.Told.faults g.L.LogFile.told g.L.LogFile.faults call clauses s log line read opening left begun after leaves.its.script leaves.its.ran leaves.its.named leaves.its.mode_is had in
    let kept_apart = within g.D.Told.told g.D.Told.faults g.L.LogFile.told g.L.LogFile.faults call clauses s log line read opening left begun after leaves.its.script leaves.its.ran leaves.its.named leaves.its.mode_is had in
    let updated : IsUpdated s log call.past = either none
    (λ no_checkpoint. c.scripts_of_updates_keep_the_form.ensures.kept u (given_of leaves.its.script) call.told call.taken call.past is so_far s log line leaves.its.named leaves.its.logged leaves.updates no_checkpoint closed)
    (λ never. c.scripts_of_updates_keep_the_form.ensures.unopened u (given_of leaves.its.script) call.told call.taken call.past is so_far s log line leaves.its.named leaves.its.logged leaves.updates kept_apart.apart closed never) in
    ran-updated g.D.Told.told g.D.Told.faults g.L.LogFile.told g.L.LogFile.faults call clauses s log line read opening left begun after leaves.its.script leaves.its.ran leaves.its.named leaves.its.mode_is had updated
    (c.streams_open_with_their_numbers.ensures.kept u (given_of leaves.its.script) call.told call.taken call.past is so_far s log updated line leaves.opening leaves.its.named leaves.opening_at read (page_of opening) tells had.reads had.stored closed are)
