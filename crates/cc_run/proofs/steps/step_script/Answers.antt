-- The first disks and logs are the World's; behind it they go back in front of the others, where there is room.
use Rattle.std.proofs.Common.{ℕ, ◌<◌, ◌^◌, ◌≡◌, ◌++◌, ◌∙◌, length, take, drop, reverse, sym, ap, subst, arith}
use Rattle.std.proofs.lemmas.List.{length-take, length-append, length-reverse, take-append-drop}
use Rattle.std.specs.Prelude.{map, slice_get}
use Rattle.cc_journal.specs.Capacity.{IsWithinCapacity}
use Rattle.cc_journal.specs.Rows.{Follows}
use Rattle.cc_model.specs.Good.{IsGood}
use Rattle.cc_pieces.specs.Steps.{IsSteppedThrough, RoutinesLeft, deferrals_by}
use Rattle.cc_pieces.specs.Table.{table_of}
use Rattle.cc_turns.specs.Desk.{disk_at_first, log_at_first, tells_of}
use Rattle.cc_turns.specs.Slots.{setup_in as made_setup}
use Rattle.cc_program.specs.Disks.{DisksStand}
use Rattle.cc_program.specs.Logs.{LogsStand}
use Rattle.cc_run.specs.Rows.{printed_row}
use Rattle.cc_run.proofs.DirtyRows.{rows-table}
use Rattle.cc_run.proofs.Lists.{if_some-ok}
use Rattle.cc_run.proofs.RowSteps.{reverse_twice}
use Rattle.cc_run.proofs.RunSteps.{enough-disks, enough-posts}
use Rattle.cc_run.proofs.WorldEnds.{disks-ended, logs-ended, world-setup-is}
use Rattle.cc_run.proofs.DiskSteps.{disks-left}
use Rattle.cc_run.proofs.LogSteps.{logs-left}
use Rattle.cc_run.proofs.steps.step_script.Goals as goal

pub invariant_of-setup-clause-few_disks : goal.invariant_of-setup-clause-few_disks
invariant_of-setup-clause-few_disks g c =
    omega (arith, c.in-Ok.disks.ok.0, ap length c.in-Ok.ensures.first, length-take 16 c.args.disks.items)

pub invariant_of-setup-clause-few_logs : goal.invariant_of-setup-clause-few_logs
invariant_of-setup-clause-few_logs g c =
    omega (arith, c.in-Ok-first_of.logs.ok.0, ap length c.in-Ok-first_of.ensures.first, length-take 4 c.args.logs.items)

pub run_steps-requires-clause-disks : goal.run_steps-requires-clause-disks
run_steps-requires-clause-disks g c =
    let few = c.requires.within.few_streams in
    let enough = enough-disks (length c.args.disks.items) (length c.args.logs.items) (length c.args.posts.items) c.args.script.now c.requires.enough in
    omega (arith, ap length c.in-Ok.ensures.first, length-take 16 c.args.disks.items, few, enough)

pub end-replies-requires : goal.end-replies-requires
end-replies-requires g c =
    subst (λ (n : ℕ). n < 2 ^ 32) (sym (ap (λ b. b.capacity) c.in-Ok-run_steps.ensures.begun)) (omega (arith, c.requires.within.header.most_journal))

pub run_steps-requires-clause-recorded : goal.run_steps-requires-clause-recorded
run_steps-requires-clause-recorded g c = omega (arith, c.requires.within.header.most_journal)

pub run_steps-requires-clause-posts : goal.run_steps-requires-clause-posts
run_steps-requires-clause-posts g c =
    enough-posts (length c.args.disks.items) (length c.args.logs.items) (length c.args.posts.items) c.args.script.now c.requires.enough

pub put_back-requires-in-Ok-run_steps : goal.put_back-requires-in-Ok-run_steps
put_back-requires-in-Ok-run_steps g c =
    omega (
      arith,
      ap (λ b. length b.disks) c.in-Ok-run_steps.ensures.begun,
      ap length c.in-Ok.ensures.first,
      ap length c.in-Ok.ensures.left,
      length-reverse (drop 16 c.args.disks.items),
      length-append (take 16 c.args.disks.items) (drop 16 c.args.disks.items),
      ap length (take-append-drop 16 c.args.disks.items),
      c.end-replies.ensures.disks.counted,
      c.in-Ok.ensures.room,
    )

pub put_back-requires-in-Ok-run_steps-2 : goal.put_back-requires-in-Ok-run_steps-2
put_back-requires-in-Ok-run_steps-2 g c =
    omega (
      arith,
      ap (λ b. length b.logs) c.in-Ok-run_steps.ensures.begun,
      ap length c.in-Ok-first_of.ensures.first,
      ap length c.in-Ok-first_of.ensures.left,
      length-reverse (drop 4 c.args.logs.items),
      length-append (take 4 c.args.logs.items) (drop 4 c.args.logs.items),
      ap length (take-append-drop 4 c.args.logs.items),
      c.end-replies.ensures.logs.counted,
      c.in-Ok-first_of.ensures.room,
    )

-- what the World gives back stands for its journal, and came back before what it did not take
pub returns-in-Ok-run_steps-clause-ran : goal.returns-in-Ok-run_steps-clause-ran
returns-in-Ok-run_steps-clause-ran g c =
    let past = reverse c.end-replies.result.journal.items in
    let world = c.in-Ok-run_steps.ran.world in
    let is : past ≡ world.journal.entries = c.end-replies.ensures.journal in
    let begun = c.in-Ok-run_steps.ensures.begun in
    let disks = ap (λ b. b.disks) begun ∙ c.in-Ok.ensures.first in
    let logs = ap (λ b. b.logs) begun ∙ c.in-Ok-first_of.ensures.first in
    let setup = world-setup-is g.D.Told.told g.D.Told.faults g.L.LogFile.told g.L.LogFile.faults g.Q.PostRoutine.posted world.begun c.args.script.now c.args.disks.items c.args.logs.items disks logs (ap (λ b. b.capacity) begun) (ap (λ b. b.threshold) begun) in
    let follows : Follows world.journal.entries c.rows.result.now = rw (ap (λ j. j.entries) c.journal.ensures) at (rw (← c.rows.ensures.rows) at c.dirty.ensures.follows) in
    let table : map printed_row c.rows.result.now ≡ table_of world.journal.entries = rows-table _ _ follows c.rows.ensures.sound in
    record {
      good = rw is (subst (λ u. IsGood u world.journal.entries) setup c.end-replies.ensures.good);
      within = rw is (subst (λ n. IsWithinCapacity n world.journal.entries) (ap (λ b. b.capacity) begun) c.end-replies.ensures.within);
      explained =
          rw (is, c.end-replies.ensures.replies) (subst (λ u. IsSteppedThrough u c.args.script.now.streams c.args.script.now.lines c.in-Ok-run_steps.ran.replies world.journal.entries)
          (ap (made_setup (tells_of g.D.Told.told g.D.Told.faults g.L.LogFile.told g.L.LogFile.faults g.Q.PostRoutine.posted)) (sym begun) ∙ setup) c.in-Ok-run_steps.ensures.explained);
      queued = (c.new-in-Ok-run_steps-2.ensures.items, c.new-in-Ok-run_steps.ensures.items);
      async_queued = c.new-in-Ok-run_steps-3.ensures.items;
      ticked = ap length c.new.ensures.items;
      table = rw is (if_some-ok c.printed_rows.result c.ok-table.result c.ok-table.ensures.value (λ printed rows. rows ∙ table) c.printed_rows.ensures);
      disks_left =
          disks-left g.D.Told.told g.D.Told.faults past c.args.disks.items c.end-replies.result.disks.items _
          (rw is (subst (λ ds. DisksStand g.D.Told.told g.D.Told.faults (λ s. disk_at_first g.D.Told.told g.D.Told.faults (slice_get ds s)) (length ds) world.journal.entries c.end-replies.result.disks.items) disks
          (disks-ended g.D.Told.told g.D.Told.faults g.L.LogFile.told g.L.LogFile.faults g.Q.PostRoutine.posted world c.end-replies.result.disks.items c.end-replies.ensures.disks)))
          (c.put_back-in-Ok-run_steps.ensures ∙ ap (λ l. c.end-replies.result.disks.items ++ l) (ap reverse c.in-Ok.ensures.left ∙ reverse_twice (drop 16 c.args.disks.items)));
      logs_left =
          logs-left g.L.LogFile.told g.L.LogFile.faults past c.args.logs.items c.end-replies.result.logs.items _
          (rw is (subst (λ ls. LogsStand g.L.LogFile.told g.L.LogFile.faults (λ handle. log_at_first g.L.LogFile.told g.L.LogFile.faults (slice_get ls handle)) (length ls) world.journal.entries c.end-replies.result.logs.items) logs
          (logs-ended g.D.Told.told g.D.Told.faults g.L.LogFile.told g.L.LogFile.faults g.Q.PostRoutine.posted world c.end-replies.result.logs.items c.end-replies.ensures.logs)))
          (c.put_back-in-Ok-run_steps-2.ensures ∙ ap (λ l. c.end-replies.result.logs.items ++ l) (ap reverse c.in-Ok-first_of.ensures.left ∙ reverse_twice (drop 4 c.args.logs.items)));
      posts_left =
          subst (λ rs. RoutinesLeft g.Q.PostRoutine.posted (deferrals_by c.args.script.now.streams c.args.script.now.lines (drop (length rs) c.end-replies.result.replies.items)) past c.args.posts.items c.end-replies.result.posts.items) (sym c.requires.of_mode.restarts)
          (rw (is, c.end-replies.ensures.replies)
          (subst (λ ps. RoutinesLeft g.Q.PostRoutine.posted (deferrals_by c.args.script.now.streams c.args.script.now.lines c.in-Ok-run_steps.ran.replies) world.journal.entries ps c.end-replies.result.posts.items) c.in-Ok-run_steps.ensures.posts
          (subst (λ deferrals. RoutinesLeft g.Q.PostRoutine.posted deferrals world.journal.entries c.in-Ok-run_steps.ran.posts c.end-replies.result.posts.items) c.in-Ok-run_steps.ensures.deferrals c.end-replies.ensures.posts)));
    }

pub returns-in-Err-clause-kept : goal.returns-in-Err-clause-kept
returns-in-Err-clause-kept g c =
    c.put_back-in-Err.ensures
    ∙ (ap (λ s. s.disks.items ++ reverse c.first_of.new.row.items) c.in-Err.ensures.kept.0
    ∙ (ap (λ l. l ++ reverse c.first_of.new.row.items) c.in-Ok.ensures.first
    ∙ (ap (λ l. take 16 c.args.disks.items ++ l) (ap reverse c.in-Ok.ensures.left ∙ reverse_twice (drop 16 c.args.disks.items))
    ∙ take-append-drop 16 c.args.disks.items)))

pub returns-in-Err-clause-logs_kept : goal.returns-in-Err-clause-logs_kept
returns-in-Err-clause-logs_kept g c =
    c.put_back-in-Err-2.ensures
    ∙ (ap (λ s. s.logs.items ++ reverse c.first_of-2.new.row.items) c.in-Err.ensures.kept.0
    ∙ (ap (λ l. l ++ reverse c.first_of-2.new.row.items) c.in-Ok-first_of.ensures.first
    ∙ (ap (λ l. take 4 c.args.logs.items ++ l) (ap reverse c.in-Ok-first_of.ensures.left ∙ reverse_twice (drop 4 c.args.logs.items))
    ∙ take-append-drop 4 c.args.logs.items)))
