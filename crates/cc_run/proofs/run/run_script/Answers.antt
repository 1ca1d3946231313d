-- The first disks and logs are the run's; behind the run they go back in front of the others, where there is room.
use Rattle.std.proofs.Common.{◌++◌, ◌∙◌, length, take, drop, reverse, refl, ap, subst, arith}
use Rattle.std.proofs.lemmas.List.{length-take, length-append, length-reverse, take-append-drop}
use Rattle.std.specs.Prelude.{slice_get}
use Rattle.cc_journal.specs.Capacity.{IsWithinCapacity}
use Rattle.cc_model.specs.Good.{IsGood}
use Rattle.cc_pieces.specs.Explained.{IsExplained}
use Rattle.cc_turns.specs.Desk.{disk_at_first, log_at_first}
use Rattle.cc_program.specs.Disks.{DisksStand}
use Rattle.cc_program.specs.Runs.{given_of, run_answered}
use Rattle.cc_program.specs.Logs.{LogsStand}
use Rattle.cc_run.specs.Places.{taken_at}
use Rattle.cc_program.specs.Restarting.{RestartsTold}
use Rattle.cc_run.proofs.RowSteps.{reverse_twice}
use Rattle.cc_run.proofs.RunSteps.{setup-is, enough-disks, enough-posts}
use Rattle.cc_run.proofs.DiskSteps.{disks-left}
use Rattle.cc_run.proofs.LogSteps.{logs-left}
use Rattle.cc_run.proofs.run.run_script.Goals as goal

pub invariant_of-setup-clause-few_disks : goal.invariant_of-setup-clause-few_disks
invariant_of-setup-clause-few_disks g c =
    omega (arith, c.in-Ok-first_of.disks.ok.0, ap length c.in-Ok-first_of.ensures.first, length-take 16 c.args.disks.items)

pub invariant_of-setup-clause-few_logs : goal.invariant_of-setup-clause-few_logs
invariant_of-setup-clause-few_logs g c =
    omega (arith, c.in-Ok-first_of-2.logs.ok.0, ap length c.in-Ok-first_of-2.ensures.first, length-take 4 c.args.logs.items)

pub run_on-replies-requires-clause-enough : goal.run_on-replies-requires-clause-enough
run_on-replies-requires-clause-enough g c κs within =
    let begun = ap (λ b. length b.disks) c.in-Ok-new-2.ensures.fresh.begun_is in
    let few = c.requires.within.few_streams in
    let enough = enough-disks (length c.args.disks.items) (length c.args.logs.items) (length c.args.posts.items) c.args.script.now c.requires.enough in
    omega (arith, begun, ap length c.in-Ok-first_of.ensures.first, length-take 16 c.args.disks.items, few, enough)

pub run_on-replies-requires-clause-recorded : goal.run_on-replies-requires-clause-recorded
run_on-replies-requires-clause-recorded g c κs within =
    omega (arith, ap (λ b. b.capacity) c.in-Ok-new-2.ensures.fresh.begun_is, c.requires.within.header.most_journal)

pub run_on-replies-requires-clause-deferring : goal.run_on-replies-requires-clause-deferring
run_on-replies-requires-clause-deferring g c κs within =
    enough-posts (length c.args.disks.items) (length c.args.logs.items) (length c.args.posts.items) c.args.script.now c.requires.enough

pub put_back-requires-in-Ok-new-2 : goal.put_back-requires-in-Ok-new-2
put_back-requires-in-Ok-new-2 g c =
    let begun = ap (λ b. length b.disks) c.in-Ok-new-2.ensures.fresh.begun_is in
    omega (
      arith,
      begun,
      ap length c.in-Ok-first_of.ensures.first,
      ap length c.in-Ok-first_of.ensures.left,
      length-reverse (drop 16 c.args.disks.items),
      length-append (take 16 c.args.disks.items) (drop 16 c.args.disks.items),
      ap length (take-append-drop 16 c.args.disks.items),
      c.run_on-replies.ensures.disks.counted,
      c.in-Ok-first_of.ensures.room,
    )

pub put_back-requires-in-Ok-new-2-2 : goal.put_back-requires-in-Ok-new-2-2
put_back-requires-in-Ok-new-2-2 g c =
    let begun = ap (λ b. length b.logs) c.in-Ok-new-2.ensures.fresh.begun_is in
    omega (
      arith,
      begun,
      ap length c.in-Ok-first_of-2.ensures.first,
      ap length c.in-Ok-first_of-2.ensures.left,
      length-reverse (drop 4 c.args.logs.items),
      length-append (take 4 c.args.logs.items) (drop 4 c.args.logs.items),
      ap length (take-append-drop 4 c.args.logs.items),
      c.run_on-replies.ensures.logs.counted,
      c.in-Ok-first_of-2.ensures.room,
    )

-- the run stands for a past, and all of it came back before what it did not take
pub returns-in-Ok-new-2-clause-ran : goal.returns-in-Ok-new-2-clause-ran
returns-in-Ok-new-2-clause-ran g c =
    let past = reverse c.run_on-replies.result.journal.items in
    let setup = setup-is g.D.Told.told g.D.Told.faults g.L.LogFile.told g.L.LogFile.faults c.in-Ok-new-2.desk _ c.args.script.now c.args.disks.items c.args.logs.items c.in-Ok-new-2.ensures.fresh.begun_is c.in-Ok-first_of.ensures.first c.in-Ok-first_of-2.ensures.first refl refl in
    let disks = ap (λ b. b.disks) c.in-Ok-new-2.ensures.fresh.begun_is ∙ c.in-Ok-first_of.ensures.first in
    let logs = ap (λ b. b.logs) c.in-Ok-new-2.ensures.fresh.begun_is ∙ c.in-Ok-first_of-2.ensures.first in
    record {
      good = subst (λ u. IsGood u past) setup c.run_on-replies.ensures.good;
      within = subst (λ n. IsWithinCapacity n past) (ap (λ b. b.capacity) c.in-Ok-new-2.ensures.fresh.begun_is) c.run_on-replies.ensures.within;
      explained = subst (λ u. IsExplained u (given_of c.args.script.now) (run_answered c.run_on-replies.result.replies.items c.run_on-replies.result.ticks.items c.run_on-replies.result.aheads.items) (taken_at c.run_on-replies.result.places.items) past) setup c.run_on-replies.ensures.explained;
      queued = c.run_on-replies.ensures.queued;
      async_queued = c.run_on-replies.ensures.async_queued;
      ticked = c.run_on-replies.ensures.ticked;
      table = c.run_on-replies.ensures.table;
      disks_left =
          disks-left g.D.Told.told g.D.Told.faults past c.args.disks.items c.run_on-replies.result.disks.items _
          (subst (λ ds. DisksStand g.D.Told.told g.D.Told.faults (λ s. disk_at_first g.D.Told.told g.D.Told.faults (slice_get ds s)) (length ds) past c.run_on-replies.result.disks.items) disks c.run_on-replies.ensures.disks)
          (c.put_back-in-Ok-new-2.ensures ∙ ap (λ l. c.run_on-replies.result.disks.items ++ l) (ap reverse c.in-Ok-first_of.ensures.left ∙ reverse_twice (drop 16 c.args.disks.items)));
      logs_left =
          logs-left g.L.LogFile.told g.L.LogFile.faults past c.args.logs.items c.run_on-replies.result.logs.items _
          (subst (λ ls. LogsStand g.L.LogFile.told g.L.LogFile.faults (λ handle. log_at_first g.L.LogFile.told g.L.LogFile.faults (slice_get ls handle)) (length ls) past c.run_on-replies.result.logs.items) logs c.run_on-replies.ensures.logs)
          (c.put_back-in-Ok-new-2-2.ensures ∙ ap (λ l. c.run_on-replies.result.logs.items ++ l) (ap reverse c.in-Ok-first_of-2.ensures.left ∙ reverse_twice (drop 4 c.args.logs.items)));
      posts_left = c.run_on-replies.ensures.posts;
    }

-- where memory is wanting, what was taken goes back in front of the others
pub put_back-requires : goal.put_back-requires
put_back-requires g c =
    omega (
      arith,
      ap length c.in-Ok-first_of.ensures.first,
      ap length c.in-Ok-first_of.ensures.left,
      length-reverse (drop 16 c.args.disks.items),
      length-append (take 16 c.args.disks.items) (drop 16 c.args.disks.items),
      ap length (take-append-drop 16 c.args.disks.items),
      c.in-Ok-first_of.ensures.room,
    )

pub put_back-requires-in-Err : goal.put_back-requires-in-Err
put_back-requires-in-Err g c =
    omega (
      arith,
      ap (λ s. length s.disks.items) c.in-Err.ensures.err.0,
      ap length c.in-Ok-first_of.ensures.first,
      ap length c.in-Ok-first_of.ensures.left,
      length-reverse (drop 16 c.args.disks.items),
      length-append (take 16 c.args.disks.items) (drop 16 c.args.disks.items),
      ap length (take-append-drop 16 c.args.disks.items),
      c.in-Ok-first_of.ensures.room,
    )

pub returns-in-Err-clause-kept : goal.returns-in-Err-clause-kept
returns-in-Err-clause-kept g c =
    c.put_back-in-Err.ensures
    ∙ (ap (λ s. s.disks.items ++ reverse c.first_of.new.row.items) c.in-Err.ensures.err.0
    ∙ (ap (λ l. l ++ reverse c.first_of.new.row.items) c.in-Ok-first_of.ensures.first
    ∙ (ap (λ l. take 16 c.args.disks.items ++ l) (ap reverse c.in-Ok-first_of.ensures.left ∙ reverse_twice (drop 16 c.args.disks.items))
    ∙ take-append-drop 16 c.args.disks.items)))

pub returns-in_default-first_of-2-clause-kept : goal.returns-in_default-first_of-2-clause-kept
returns-in_default-first_of-2-clause-kept g c =
    c.put_back.ensures
    ∙ (ap (λ l. l ++ reverse c.first_of.new.row.items) c.in-Ok-first_of.ensures.first
    ∙ (ap (λ l. take 16 c.args.disks.items ++ l) (ap reverse c.in-Ok-first_of.ensures.left ∙ reverse_twice (drop 16 c.args.disks.items))
    ∙ take-append-drop 16 c.args.disks.items))

pub returns-in-Err-clause-logs_kept : goal.returns-in-Err-clause-logs_kept
returns-in-Err-clause-logs_kept g c =
    c.put_back-in-Err-2.ensures
    ∙ (ap (λ s. s.logs.items ++ reverse c.first_of-2.new.row.items) c.in-Err.ensures.err.0
    ∙ (ap (λ l. l ++ reverse c.first_of-2.new.row.items) c.in-Ok-first_of-2.ensures.first
    ∙ (ap (λ l. take 4 c.args.logs.items ++ l) (ap reverse c.in-Ok-first_of-2.ensures.left ∙ reverse_twice (drop 4 c.args.logs.items))
    ∙ take-append-drop 4 c.args.logs.items)))

-- the restarts are told over the setup of the script
pub returns-in-Ok-new-2-clause-told : goal.returns-in-Ok-new-2-clause-told
returns-in-Ok-new-2-clause-told g c =
    let past = reverse c.run_on-replies.result.journal.items in
    let setup = setup-is g.D.Told.told g.D.Told.faults g.L.LogFile.told g.L.LogFile.faults c.in-Ok-new-2.desk _ c.args.script.now c.args.disks.items c.args.logs.items c.in-Ok-new-2.ensures.fresh.begun_is c.in-Ok-first_of.ensures.first c.in-Ok-first_of-2.ensures.first refl refl in
    subst (λ u. RestartsTold u c.args.ended.now c.run_on-replies.result.replies.items past) setup c.run_on-replies.ensures.told
