-- What a conducted run left where none was made: nothing happened, and disks, logs and routines are as they were handed in.
use Rattle.std.proofs.Common.{refl, ◌≡◌, length, ap, arith, inl, inr, ⊎_elim}
use Rattle.cc_run.proofs.DiskSteps.{disks-kept, good-none}
use Rattle.cc_run.proofs.Faultless.{faultless-none}
use Rattle.cc_run.proofs.LogSteps.{logs-kept}
use Rattle.cc_run.proofs.PostSteps.{posts-kept}
use Rattle.cc_run.proofs.top.conduct.Goals as goal

pub returns-in-Err-clause-good : goal.returns-in-Err-clause-good
returns-in-Err-clause-good g c = λ u _. good-none u c.refused.result.journal.items c.refused.ensures.journal

pub returns-in-Err-clause-disks : goal.returns-in-Err-clause-disks
returns-in-Err-clause-disks g c =
    rw (c.refused.ensures.journal, c.refused.ensures.disks, c.refused.ensures.disks_begun) (disks-kept g.D.Told.told g.D.Told.faults c.args.disks.items)

pub returns-in-Err-clause-logs : goal.returns-in-Err-clause-logs
returns-in-Err-clause-logs g c =
    rw (c.refused.ensures.journal, c.refused.ensures.logs, c.refused.ensures.logs_begun) (logs-kept g.L.LogFile.told g.L.LogFile.faults c.args.logs.items)

pub returns-in-Err-clause-posts : goal.returns-in-Err-clause-posts
returns-in-Err-clause-posts g c =
    rw (c.refused.ensures.script, c.refused.ensures.posts) (posts-kept g.Q.PostRoutine.posted _ _ c.args.posts.items refl c.requires.posts)

pub returns-in-Err-run_in_mode-clause-good : goal.returns-in-Err-run_in_mode-clause-good
returns-in-Err-run_in_mode-clause-good g c = λ u _. good-none u c.refused-in-Err-run_in_mode.result.journal.items c.refused-in-Err-run_in_mode.ensures.journal

pub returns-in-Err-run_in_mode-clause-disks : goal.returns-in-Err-run_in_mode-clause-disks
returns-in-Err-run_in_mode-clause-disks g c =
    rw (c.refused-in-Err-run_in_mode.ensures.journal, c.refused-in-Err-run_in_mode.ensures.disks, c.refused-in-Err-run_in_mode.ensures.disks_begun)
    (disks-kept g.D.Told.told g.D.Told.faults _)

pub returns-in-Err-run_in_mode-clause-logs : goal.returns-in-Err-run_in_mode-clause-logs
returns-in-Err-run_in_mode-clause-logs g c =
    rw (c.refused-in-Err-run_in_mode.ensures.journal, c.refused-in-Err-run_in_mode.ensures.logs, c.refused-in-Err-run_in_mode.ensures.logs_begun)
    (logs-kept g.L.LogFile.told g.L.LogFile.faults _)

pub returns-in-Err-run_in_mode-clause-posts : goal.returns-in-Err-run_in_mode-clause-posts
returns-in-Err-run_in_mode-clause-posts g c =
    rw (c.refused-in-Err-run_in_mode.ensures.script, c.refused-in-Err-run_in_mode.ensures.posts, c.in-Err-run_in_mode.ensures.posts_kept)
    (posts-kept g.Q.PostRoutine.posted _ _ c.args.posts.items refl c.requires.posts)

pub returns-in-Err-clause-faultless : goal.returns-in-Err-clause-faultless
returns-in-Err-clause-faultless g c =
    faultless-none g.D.Told.faults g.L.LogFile.faults c.args.disks.items _ c.args.logs.items _ c.refused.result.replies.items c.refused.result.ticks.items c.refused.result.aheads.items c.refused.result.journal.items
    c.refused.ensures.replies c.refused.ensures.ticks c.refused.ensures.aheads c.refused.ensures.journal

pub returns-in-Err-run_in_mode-clause-faultless : goal.returns-in-Err-run_in_mode-clause-faultless
returns-in-Err-run_in_mode-clause-faultless g c =
    faultless-none g.D.Told.faults g.L.LogFile.faults c.args.disks.items _ c.args.logs.items _ c.refused-in-Err-run_in_mode.result.replies.items
    c.refused-in-Err-run_in_mode.result.ticks.items c.refused-in-Err-run_in_mode.result.aheads.items c.refused-in-Err-run_in_mode.result.journal.items
    c.refused-in-Err-run_in_mode.ensures.replies c.refused-in-Err-run_in_mode.ensures.ticks c.refused-in-Err-run_in_mode.ensures.aheads c.refused-in-Err-run_in_mode.ensures.journal

-- nothing was restarted where there was no script, or memory was wanting before; else memory was wanting behind the restarts
pub returns-in-Err-clause-restarted : goal.returns-in-Err-clause-restarted
returns-in-Err-clause-restarted g c =
    rw c.refused.ensures.script (inl (record {
      disks_are = ap (λ d. d.items) c.refused.ensures.disks_begun;
      logs_are = ap (λ l. l.items) c.refused.ensures.logs_begun;
    }))

pub returns-in-Err-run_in_mode-clause-restarted : goal.returns-in-Err-run_in_mode-clause-restarted
returns-in-Err-run_in_mode-clause-restarted g c =
    let disks-are : length c.args.disks.items ≡ c.len.result = omega (arith, c.len.ensures, c.args.disks.ok.0) in
    let logs-are : length c.args.logs.items ≡ c.len-2.result = omega (arith, c.len-2.ensures, c.args.logs.ok.0) in
    let posts-are : length c.args.posts.items ≡ c.len-3.result = omega (arith, c.len-3.ensures, c.args.posts.ok.0) in
    rw (c.refused-in-Err-run_in_mode.ensures.script, c.refused-in-Err-run_in_mode.ensures.disks_begun, c.refused-in-Err-run_in_mode.ensures.logs_begun)
    (⊎_elim (λ untouched. inl untouched)
    (λ alone. inr (record {
      status_is = c.refused-in-Err-run_in_mode.ensures.status refl;
      script = c.in-Ok.prepared.script;
      asked = rw (disks-are, logs-are, posts-are) c.in-Ok.ensures.asked;
      alone = alone;
    }))
    c.in-Err-run_in_mode.ensures.left)

pub returns-clause-ended : goal.returns-clause-ended
returns-clause-ended g c =
    let disks-are : length c.args.disks.items ≡ c.len.result = omega (arith, c.len.ensures, c.args.disks.ok.0) in
    let logs-are : length c.args.logs.items ≡ c.len-2.result = omega (arith, c.len-2.ensures, c.args.logs.ok.0) in
    let posts-are : length c.args.posts.items ≡ c.len-3.result = omega (arith, c.len-3.ensures, c.args.posts.ok.0) in
    record {
      asked = rw (disks-are, logs-are, posts-are) c.in-Ok.ensures.asked;
      enough = rw (disks-are, logs-are, posts-are) c.in-Ok.ensures.enough;
      printed = rw (c.in-Ok.ensures.command) c.print-status.ensures.printed;
    }
