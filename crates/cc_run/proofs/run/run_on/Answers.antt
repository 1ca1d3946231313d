-- The streams opened, and behind them the phases, explain the run; disks, logs and table stand for its journal.
use Rattle.std.specs.Prelude.{◌<◌, ◌^◌}
use Rattle.std.proofs.Common.{◌≡◌, ◌≤◌, ◌∙◌, length, map, reverse, sym, ap, subst, arith}
use Rattle.std.specs.List.{AllByRecursion}
use Rattle.std.proofs.lemmas.List.{length-reverse}
use Rattle.cc_script.specs.Within.{IsLineWithin}
use Rattle.cc_journal.specs.Capacity.{IsWithinCapacity}
use Rattle.cc_journal.specs.Rows.{Follows}
use Rattle.cc_pieces.specs.Steps.{RoutinesLeft, deferrals_by}
use Rattle.cc_pieces.specs.Table.{table_of}
use Rattle.cc_lines.specs.Holds.{NamesState}
use Rattle.cc_lines.specs.Line.{IsServable}
use Rattle.cc_lines.specs.Queues.{new_places, queues_of}
use Rattle.cc_run.specs.Lines.{IsCaller}
use Rattle.cc_run.specs.Rows.{printed_row}
use Rattle.cc_run.proofs.DirtyRows.{rows-table}
use Rattle.cc_run.proofs.Lists.{all-map, if_some-ok}
use Rattle.cc_run.proofs.PhaseSteps.{ticked-long}
use Rattle.cc_run.proofs.PhasesRan.{run-explained, run-long}
use Rattle.cc_run.specs.Places.{taken_at}
use Rattle.cc_run.proofs.Copied.{run-copied}
use Rattle.cc_run.proofs.Queued.{run-queued, run-told, taken-is}
use Rattle.cc_run.proofs.RunSteps.{servable-all, disks-stand, logs-stand}
use Rattle.cc_run.proofs.Begins.{all-replies, kept-behind, streams-long, told-long}
use Rattle.cc_run.proofs.run.run_on.Goals as goal

pub begin_run-requires-clause-ready : goal.begin_run-requires-clause-ready
begin_run-requires-clause-ready g c = record {
  free = c.requires.fresh.held_is;
  at_rest = omega (arith, c.requires.fresh.journal_is.empty.1);
}

pub serve_phases-desk-requires-clause-servable : goal.serve_phases-desk-requires-clause-servable
serve_phases-desk-requires-clause-servable g c κs within =
    let streams = c.begin_run.ensures.run.streams in
    subst (λ n. AllByRecursion (λ line. IsServable n line.action) c.as_slice.result.now) (sym streams)
    (rw c.as_slice.ensures (servable-all c.args.script.now.streams c.args.script.now.phases (length c.args.desk.begun.disks) c.args.script.now.lines c.requires.enough c.requires.within.few_streams c.requires.of_mode.lines c.requires.within.lines))

pub serve_phases-desk-requires-clause-callers : goal.serve_phases-desk-requires-clause-callers
serve_phases-desk-requires-clause-callers g c κs within =
    rw c.as_slice.ensures (all-map (IsLineWithin c.args.script.now.streams c.args.script.now.phases) (λ line. IsCaller line.caller) c.args.script.now.lines
    (λ line is. record { first = is.first_caller; last = is.last_caller }) c.requires.within.lines)

pub serve_phases-desk-requires-clause-words : goal.serve_phases-desk-requires-clause-words
serve_phases-desk-requires-clause-words g c κs within = rw c.as_slice.ensures c.requires.words

pub serve_phases-desk-requires-clause-within : goal.serve_phases-desk-requires-clause-within
serve_phases-desk-requires-clause-within g c κs within =
    rw c.as_slice.ensures (all-map (IsLineWithin c.args.script.now.streams c.args.script.now.phases) (λ line. line.phase ≤ c.args.script.now.phases) c.args.script.now.lines
    (λ line is. is.last_phase) c.requires.within.lines)

pub serve_phases-desk-requires-clause-room : goal.serve_phases-desk-requires-clause-room
serve_phases-desk-requires-clause-room g c κs within =
    omega (arith, streams-long _ _ _ _ _ _ _ c.begin_run.ensures.begun.1, c.begin_run.ensures.capacity, c.requires.room, ap length c.as_slice.ensures, c.begin_run.new.replies.ok.0)

pub settle-posts-requires-clause-answered : goal.settle-posts-requires-clause-answered
settle-posts-requires-clause-answered g c =
    run-long _ _ c.args.script.now c.args.ended.now c.begin_run.new.told.items c.begin_run.new.replies.items c.serve_phases-desk.new.replies.items c.serve_phases-desk.new.ticks.answers.items c.serve_phases-desk.result.2.answers.items c.serve_phases-desk.result.2.place.taken
    c.begin_run.ensures.begun.0 c.begin_run.new.desk.last.entries c.serve_phases-desk.result.0.last.entries
    c.begin_run.ensures.begun.1 (rw (c.as_slice.ensures, c.requires.ticks, c.requires.steps) at c.serve_phases-desk.ensures.served)

pub end-disks-requires-clause-recorded : goal.end-disks-requires-clause-recorded
end-disks-requires-clause-recorded g c =
    subst (λ n. n < 2 ^ 32) (sym (ap (λ u. u.capacity) c.serve_phases-desk.ensures.run.setup ∙ ap (λ u. u.capacity) c.begin_run.ensures.run.setup)) c.requires.recorded

pub returns-clause-within : goal.returns-clause-within
returns-clause-within g c =
    rw c.end-disks.ensures.journal (subst (λ n. IsWithinCapacity n c.serve_phases-desk.result.0.last.entries)
    (ap (λ u. u.capacity) c.serve_phases-desk.ensures.run.setup ∙ ap (λ u. u.capacity) c.begin_run.ensures.run.setup) c.end-disks.ensures.within)

pub returns-clause-disks : goal.returns-clause-disks
returns-clause-disks g c =
    disks-stand g.D.Told.told g.D.Told.faults _ _ _ c.serve_phases-desk.result.0 c.end-disks.result.disks.items c.end-disks.ensures.disks
    (c.serve_phases-desk.ensures.run.streams ∙ c.begin_run.ensures.run.streams)
    (c.serve_phases-desk.ensures.run.disks ∙ c.begin_run.ensures.run.disks) c.end-disks.ensures.journal

pub returns-clause-logs : goal.returns-clause-logs
returns-clause-logs g c =
    logs-stand g.L.LogFile.told g.L.LogFile.faults _ _ _ c.serve_phases-desk.result.0 c.end-disks.result.logs.items c.end-disks.ensures.logs
    (ap (λ u. u.logs) c.serve_phases-desk.ensures.run.setup ∙ ap (λ u. u.logs) c.begin_run.ensures.run.setup)
    (c.serve_phases-desk.ensures.run.logs ∙ c.begin_run.ensures.run.logs) c.end-disks.ensures.journal

pub returns-clause-table : goal.returns-clause-table
returns-clause-table g c =
    let follows : Follows c.serve_phases-desk.result.0.last.entries c.rows.result.now = rw (ap (λ j. j.entries) c.journal.ensures) at (rw (← c.rows.ensures.rows) at c.dirty.ensures.follows) in
    let table : map printed_row c.rows.result.now ≡ table_of c.serve_phases-desk.result.0.last.entries = rows-table _ _ follows c.rows.ensures.sound in
    rw c.end-disks.ensures.journal (if_some-ok c.printed_rows.result c.ok-table.result c.ok-table.ensures.value (λ printed is. is ∙ table) c.printed_rows.ensures)

pub returns-clause-explained : goal.returns-clause-explained
returns-clause-explained g c =
    let took : taken_at c.all_places-places.result.0.items ≡ c.serve_phases-desk.result.2.place.taken =
    ap taken_at c.all_places-places.ensures.places ∙ taken-is c.serve_phases-desk.result.1.items c.args.lazy c.serve_phases-desk.result.2.place c.serve_phases-desk.ensures.counted in
    rw (c.end-disks.ensures.journal, took) (run-explained _ _ c.args.script.now c.args.ended.now c.begin_run.new.told.items c.begin_run.new.replies.items c.serve_phases-desk.new.replies.items c.settle-posts.new.replies.items c.put_back.result.items c.serve_phases-desk.new.ticks.answers.items c.serve_phases-desk.result.2.answers.items c.serve_phases-desk.result.2.place.taken
    c.begin_run.ensures.begun.0 c.begin_run.new.desk.last.entries c.serve_phases-desk.result.0.last.entries
    c.requires.within c.begin_run.ensures.run.setup (all-replies c.begin_run.new.told.items c.settle-posts.new.replies.items c.reverse.new.self.items c.put_back.result.items c.reverse.ensures.items c.put_back.ensures) c.begin_run.ensures.begun.1
    (rw (c.as_slice.ensures, c.requires.ticks, c.requires.steps) at c.serve_phases-desk.ensures.served) c.settle-posts.ensures.told)

-- the restarts are told by the first replies
pub returns-clause-told : goal.returns-clause-told
returns-clause-told g c =
    rw c.end-disks.ensures.journal (run-told _ _ c.args.script.now c.args.ended.now c.begin_run.new.told.items c.begin_run.new.replies.items c.serve_phases-desk.new.replies.items c.settle-posts.new.replies.items c.put_back.result.items c.serve_phases-desk.new.ticks.answers.items c.serve_phases-desk.result.2.answers.items c.serve_phases-desk.result.2.place.taken
    c.begin_run.ensures.begun.0 c.begin_run.new.desk.last.entries c.serve_phases-desk.result.0.last.entries
    (all-replies c.begin_run.new.told.items c.settle-posts.new.replies.items c.reverse.new.self.items c.put_back.result.items c.reverse.ensures.items c.put_back.ensures) c.begin_run.ensures.begun.1
    (rw (c.as_slice.ensures, c.requires.ticks, c.requires.steps) at c.serve_phases-desk.ensures.served))

pub returns-clause-posts : goal.returns-clause-posts
returns-clause-posts g c =
    subst (λ l. RoutinesLeft g.Q.PostRoutine.posted (deferrals_by c.args.script.now.streams c.args.script.now.lines l) (reverse c.end-disks.result.journal.items) c.args.posts.items c.settle-posts.result.items)
    (sym (kept-behind _ c.args.script.now c.args.ended.now c.begin_run.new.told.items c.begin_run.new.replies.items c.settle-posts.new.replies.items c.put_back.result.items c.begin_run.ensures.begun.0 c.begin_run.new.desk.last.entries c.begin_run.ensures.begun.1
    (all-replies c.begin_run.new.told.items c.settle-posts.new.replies.items c.reverse.new.self.items c.put_back.result.items c.reverse.ensures.items c.put_back.ensures)))
    (rw c.deref.ensures.value at c.settle-posts.ensures.posts)

pub returns-clause-ticked : goal.returns-clause-ticked
returns-clause-ticked g c = rw c.requires.ticks at (ticked-long _ _ _ _ _ _ _ _ _ _ _ _ c.serve_phases-desk.ensures.served)

pub serve_phases-desk-requires-clause-tick_room : goal.serve_phases-desk-requires-clause-tick_room
serve_phases-desk-requires-clause-tick_room g c κs within = rw c.requires.ticks c.requires.tick_room

-- the places are new ones at the queues
pub serve_phases-desk-requires-clause-own : goal.serve_phases-desk-requires-clause-own
serve_phases-desk-requires-clause-own g c κs within =
    all-map (λ (own : NamesState). own.places ≡ new_places c.args.queues.now) (λ (own : NamesState). queues_of own.places ≡ c.args.queues.now) c.args.names.items
    (λ own is. ap queues_of is) c.requires.new_places

pub serve_phases-desk-requires-clause-own_place : goal.serve_phases-desk-requires-clause-own_place
serve_phases-desk-requires-clause-own_place g c κs within = ap (λ p. p.queue) c.requires.new_own

pub serve_phases-desk-requires-clause-none_taken : goal.serve_phases-desk-requires-clause-none_taken
serve_phases-desk-requires-clause-none_taken g c κs within = ap (λ p. p.taken) c.requires.new_own

pub serve_phases-desk-requires-clause-step_room : goal.serve_phases-desk-requires-clause-step_room
serve_phases-desk-requires-clause-step_room g c κs within = rw c.requires.steps c.requires.step_room

-- what each pass has at the queue of read-ahead is what its lines did there
pub returns-clause-queued : goal.returns-clause-queued
returns-clause-queued g c =
    run-queued _ _ c.args.script.now c.args.ended.now c.begin_run.new.told.items c.begin_run.new.replies.items c.serve_phases-desk.new.replies.items c.settle-posts.new.replies.items c.put_back.result.items c.serve_phases-desk.new.ticks.answers.items c.serve_phases-desk.result.2.answers.items c.serve_phases-desk.result.2.place.taken
    c.begin_run.ensures.begun.0 c.begin_run.new.desk.last.entries c.serve_phases-desk.result.0.last.entries _ c.args.names.items c.serve_phases-desk.result.1.items c.args.lazy c.args.aheads.place c.serve_phases-desk.result.2.place _ c.args.queues.now
    c.requires.within (all-replies c.begin_run.new.told.items c.settle-posts.new.replies.items c.reverse.new.self.items c.put_back.result.items c.reverse.ensures.items c.put_back.ensures) c.end-disks.ensures.journal c.all_places-places.ensures.places c.begin_run.ensures.begun.1
    (rw (c.as_slice.ensures, c.requires.ticks, c.requires.steps) at c.serve_phases-desk.ensures.served) c.settle-posts.ensures.told (rw c.as_slice.ensures at c.serve_phases-desk.ensures.placed) c.serve_phases-desk.ensures.stepped
    c.requires.words.counted c.serve_phases-desk.ensures.counted c.requires.new_places c.requires.new_lazy c.requires.new_own

-- and at the queue of copied reads
pub returns-clause-async_queued : goal.returns-clause-async_queued
returns-clause-async_queued g c =
    run-copied _ _ c.args.script.now c.args.ended.now c.begin_run.new.told.items c.begin_run.new.replies.items c.serve_phases-desk.new.replies.items c.settle-posts.new.replies.items c.put_back.result.items c.serve_phases-desk.new.ticks.answers.items c.serve_phases-desk.result.2.answers.items c.serve_phases-desk.result.2.place.taken
    c.begin_run.ensures.begun.0 c.begin_run.new.desk.last.entries c.serve_phases-desk.result.0.last.entries c.args.names.items c.serve_phases-desk.result.1.items _ c.args.queues.now
    c.requires.within (all-replies c.begin_run.new.told.items c.settle-posts.new.replies.items c.reverse.new.self.items c.put_back.result.items c.reverse.ensures.items c.put_back.ensures) c.all_places-places.ensures.async_places c.begin_run.ensures.begun.1
    (rw (c.as_slice.ensures, c.requires.ticks, c.requires.steps) at c.serve_phases-desk.ensures.served) c.settle-posts.ensures.told (rw c.as_slice.ensures at c.serve_phases-desk.ensures.placed)
    c.requires.words.counted c.serve_phases-desk.ensures.counted c.requires.new_places

-- there is room for all replies
pub put_back-requires : goal.put_back-requires
put_back-requires g c =
    omega (
      arith,
      told-long _ c.args.script.now c.args.ended.now c.begin_run.new.told.items c.begin_run.new.replies.items c.begin_run.ensures.begun.0 c.begin_run.new.desk.last.entries c.begin_run.ensures.begun.1,
      run-long _ _ c.args.script.now c.args.ended.now c.begin_run.new.told.items c.begin_run.new.replies.items c.serve_phases-desk.new.replies.items c.serve_phases-desk.new.ticks.answers.items c.serve_phases-desk.result.2.answers.items c.serve_phases-desk.result.2.place.taken
          c.begin_run.ensures.begun.0 c.begin_run.new.desk.last.entries c.serve_phases-desk.result.0.last.entries
          c.begin_run.ensures.begun.1 (rw (c.as_slice.ensures, c.requires.ticks, c.requires.steps) at c.serve_phases-desk.ensures.served),
      c.settle-posts.ensures.count,
      ap length c.reverse.ensures.items,
      length-reverse c.settle-posts.new.replies.items,
      c.reverse.ensures.capacity,
      c.settle-posts.ensures.capacity,
      c.serve_phases-desk.ensures.capacity,
      c.begin_run.ensures.capacity,
      c.requires.room,
    )
