-- By the way that was gone: on threads, or by the desk, whose lines find it as it was where no thread could be made, and whose
-- ticks and read-ahead steps follow them.
use Rattle.std.proofs.Common.{◌≡◌, ◌∙◌, ◌++◌, ℕ, List, drop, length, map, take, ap, subst, arith}
use Rattle.std.specs.Prelude.{◌≢◌, vec_capacity, vec_len}
use Rattle.std.proofs.lemmas.List.{length-map, take_at}
use Rattle.cc_effects.specs.Moments.{IsIdle}
use Rattle.cc_effects.proofs.Stretches.{idle-then}
use Rattle.cc_pieces.specs.Phases.{lazy_writer, read_ahead_worker}
use Rattle.cc_lines.specs.Holds.{NamesState}
use Rattle.cc_turns.specs.Desk.{standing_of}
use Rattle.cc_run.specs.Lines.{KeepRoom}
use Rattle.cc_run.proofs.Acting.{run-then}
use Rattle.cc_model.specs.Good.{IsGood}
use Rattle.cc_run.proofs.LinesRan.{phase-ends}
use Rattle.cc_run.specs.Places.{PlacesRan}
use Rattle.cc_run.proofs.PlacesWent.{places-on}
use Rattle.cc_run.proofs.StepsRan.{steps-behind}
use Rattle.cc_run.proofs.TicksRan.{made-idle, ticks-behind}
use Rattle.cc_run.proofs.phases.serve_phase.Goals as goal
use Rattle.cc_run.proofs.phases.serve_phase.Goals.{then-runs_beside+in-Err, else-runs_beside}

pub serve_on_threads-requires-clause-beside : goal.serve_on_threads-requires-clause-beside
serve_on_threads-requires-clause-beside g c κs within = c.runs_beside.ensures c.args.phase c.requires.those c.if-runs_beside.true

pub serve_lines-requires-clause-room : goal.serve_lines-requires-clause-room
serve_lines-requires-clause-room g c κs within = elim c.if-runs_beside.branch [
  | then-runs_beside+in-Err w ↦ omega (
    arith,
    ap vec_capacity w.replies-is,
    w.serve_on_threads.ensures.capacity,
    ap (λ r. length r.items) w.replies-is,
    ap length w.in-Err.ensures.kept.0,
    c.if-runs_beside.replies.ok.0,
    c.args.replies.now.ok.0,
    c.requires.room,
  )
  | else-runs_beside w ↦ omega (arith, ap vec_capacity w.replies-is, ap vec_len w.replies-is, c.requires.room)
]

pub serve_lines-requires-clause-ready : goal.serve_lines-requires-clause-ready
serve_lines-requires-clause-ready g c κs within = elim c.if-runs_beside.branch [
  | then-runs_beside+in-Err w ↦ rw w.desk-is w.in-Err.ensures.ready_still
  | else-runs_beside w ↦ rw w.desk-is c.requires.ready
]

pub serve_lines-requires-clause-servable : goal.serve_lines-requires-clause-servable
serve_lines-requires-clause-servable g c κs within = elim c.if-runs_beside.branch [
  | then-runs_beside+in-Err w ↦ rw (w.desk-is, w.in-Err.ensures.run_kept.streams) c.requires.servable
  | else-runs_beside w ↦ rw w.desk-is c.requires.servable
]

pub serve_lines-requires-clause-words : goal.serve_lines-requires-clause-words
serve_lines-requires-clause-words g c κs within = elim c.if-runs_beside.branch [
  | then-runs_beside+in-Err w ↦ rw (w.desk-is, w.in-Err.ensures.run_kept.streams, w.in-Err.ensures.same, c.deref_mut.ensures.value ∙ (ap (λ n. n.items) w.names-is ∙ w.in-Err.ensures.kept.1)) c.requires.words
  | else-runs_beside w ↦ rw (w.desk-is, c.deref_mut.ensures.value ∙ ap (λ n. n.items) w.names-is) c.requires.words
]

-- the rows that were handed out as a slice stand where they stood
put-back : (len : ℕ) (new old : List NamesState) → len ≡ length old → KeepRoom old new → take len (new ++ drop (length new) old) ≡ new
put-back len new old is keep =
    take_at new (drop (length new) old) len (omega (arith, is, length-map new (λ (names : NamesState). names.room), length-map old (λ (names : NamesState). names.room), ap length keep))

pub serve_lines-requires-clause-own : goal.serve_lines-requires-clause-own
serve_lines-requires-clause-own g c κs within = elim c.if-runs_beside.branch [
  | then-runs_beside+in-Err w ↦ rw (c.deref_mut.ensures.value ∙ (ap (λ n. n.items) w.names-is ∙ w.in-Err.ensures.kept.1)) c.requires.own
  | else-runs_beside w ↦ rw (c.deref_mut.ensures.value ∙ ap (λ n. n.items) w.names-is) c.requires.own
]

pub serve_steps-requires-clause-own : goal.serve_steps-requires-clause-own
serve_steps-requires-clause-own g c = elim c.if-runs_beside.branch [
  | then-runs_beside+in-Err w ↦ rw (w.aheads-is, w.in-Err.ensures.kept_aheads) c.requires.own_place
  | else-runs_beside w ↦ rw w.aheads-is c.requires.own_place
]

pub serve_steps-requires-clause-room : goal.serve_steps-requires-clause-room
serve_steps-requires-clause-room g c = elim c.if-runs_beside.branch [
  | then-runs_beside+in-Err w ↦ rw (w.aheads-is, w.in-Err.ensures.kept_aheads) c.requires.step_room
  | else-runs_beside w ↦ rw w.aheads-is c.requires.step_room
]

pub serve_ticks-requires-clause-room : goal.serve_ticks-requires-clause-room
serve_ticks-requires-clause-room g c = elim c.if-runs_beside.branch [
  | then-runs_beside+in-Err w ↦ rw (w.ticks-is, w.in-Err.ensures.kept_ticks) c.requires.tick_room
  | else-runs_beside w ↦ rw w.ticks-is c.requires.tick_room
]

pub returns-clause-served : goal.returns-clause-served
returns-clause-served g c =
    let at = standing_of g.D.Told.told g.D.Told.faults g.L.LogFile.told g.L.LogFile.faults in
    let back = put-back c.if-runs_beside.names.len c.serve_lines.new.names c.if-runs_beside.names.items c.if-runs_beside.names.ok.0 (c.serve_lines.ensures.kept_room ∙ ap (map (λ (names : NamesState). names.room)) c.deref_mut.ensures.value) in
    let good = subst (λ u. IsGood u c.serve_steps.new.desk.last.entries) (c.serve_ticks.ensures.run.setup ∙ c.serve_lines.ensures.run.setup) c.serve_steps.ensures.good in
    let alone : (me : ℕ) → me ≢ lazy_writer → me ≢ read_ahead_worker → IsIdle me c.serve_lines.new.desk.last.entries c.serve_steps.new.desk.last.entries =
    λ me lazy ahead. idle-then me c.serve_lines.new.desk.last.entries c.serve_ticks.new.desk.last.entries c.serve_steps.new.desk.last.entries (c.serve_ticks.ensures.alone me lazy) (c.serve_steps.ensures.alone me ahead) in
    λ bounds bindings stand right. rw back (elim c.if-runs_beside.branch [
      | then-runs_beside+in-Err w ↦ phase-ends (at c.args.desk) _ _ _ _ _ _ _ _ _ _ _ _ _ _ _ (ap (λ d. (at d).setup) w.desk-is ∙ w.in-Err.ensures.run_kept.setup)
          (ap (λ d. (at d).streams) w.desk-is ∙ w.in-Err.ensures.run_kept.streams) (ap (λ r. r.items) w.replies-is ∙ w.in-Err.ensures.kept.0)
          (ap (λ d. d.last.entries) w.desk-is ∙ w.in-Err.ensures.same) c.requires.those
          (c.serve_lines.ensures.served bounds bindings
          (rw (w.desk-is, w.in-Err.ensures.run_kept.streams, w.in-Err.ensures.same, c.deref_mut.ensures.value ∙ (ap (λ n. n.items) w.names-is ∙ w.in-Err.ensures.kept.1)) stand) right)
          alone good
      | else-runs_beside w ↦ phase-ends (at c.args.desk) _ _ _ _ _ _ _ _ _ _ _ _ _ _ _ (ap (λ d. (at d).setup) w.desk-is) (ap (λ d. (at d).streams) w.desk-is)
          (ap (λ r. r.items) w.replies-is) (ap (λ d. d.last.entries) w.desk-is) c.requires.those
          (c.serve_lines.ensures.served bounds bindings (rw (w.desk-is, c.deref_mut.ensures.value ∙ ap (λ n. n.items) w.names-is) stand) right)
          alone good
    ])

-- the ticks that were made behind the lines are those of the phase
pub returns-clause-ticked : goal.returns-clause-ticked
returns-clause-ticked g c =
    let at = standing_of g.D.Told.told g.D.Told.faults g.L.LogFile.told g.L.LogFile.faults in
    let served = c.serve_lines.ensures.served c.requires.words.bounds c.requires.words.bindings in
    made-idle (at c.args.desk).setup c.args.phase c.args.ticks.now.each c.args.ticks.now c.serve_ticks.new.ticks c.args.desk.last.entries c.serve_ticks.new.desk.last.entries c.serve_steps.new.desk.last.entries
    (elim c.if-runs_beside.branch [
      | then-runs_beside+in-Err w ↦
          ticks-behind (at c.args.desk) (at c.if-runs_beside.desk) c.args.phase _ _ _ _ _ _ _ _ _ _ _ _ _ (ap (λ d. (at d).setup) w.desk-is ∙ w.in-Err.ensures.run_kept.setup)
          (ap (λ d. d.last.entries) w.desk-is ∙ w.in-Err.ensures.same) (w.ticks-is ∙ w.in-Err.ensures.kept_ticks) c.requires.callers
          (served (rw (w.desk-is, w.in-Err.ensures.run_kept.streams, w.in-Err.ensures.same, c.deref_mut.ensures.value ∙ (ap (λ n. n.items) w.names-is ∙ w.in-Err.ensures.kept.1)) c.requires.words.stand) c.requires.words.right)
          (rw c.serve_lines.ensures.run.setup at c.serve_ticks.ensures.made)
      | else-runs_beside w ↦
          ticks-behind (at c.args.desk) (at c.if-runs_beside.desk) c.args.phase _ _ _ _ _ _ _ _ _ _ _ _ _ (ap (λ d. (at d).setup) w.desk-is)
          (ap (λ d. d.last.entries) w.desk-is) w.ticks-is c.requires.callers
          (served (rw (w.desk-is, c.deref_mut.ensures.value ∙ ap (λ n. n.items) w.names-is) c.requires.words.stand) c.requires.words.right)
          (rw c.serve_lines.ensures.run.setup at c.serve_ticks.ensures.made)
    ])
    (c.serve_steps.ensures.alone lazy_writer (λ e. omega (arith, e)))

-- the read-ahead steps that were made behind both are those of the phase
pub returns-clause-stepped : goal.returns-clause-stepped
returns-clause-stepped g c =
    let at = standing_of g.D.Told.told g.D.Told.faults g.L.LogFile.told g.L.LogFile.faults in
    let served = c.serve_lines.ensures.served c.requires.words.bounds c.requires.words.bindings in
    elim c.if-runs_beside.branch [
      | then-runs_beside+in-Err w ↦
          steps-behind (at c.args.desk) (at c.if-runs_beside.desk) (at c.serve_ticks.new.desk) c.args.phase _ _ _ _ _ _ _ _ _ _ _ _ _ _
          (ap (λ d. (at d).setup) w.desk-is ∙ w.in-Err.ensures.run_kept.setup) (c.serve_ticks.ensures.run.setup ∙ c.serve_lines.ensures.run.setup)
          (ap (λ d. d.last.entries) w.desk-is ∙ w.in-Err.ensures.same) (w.aheads-is ∙ w.in-Err.ensures.kept_aheads) c.requires.callers
          (served (rw (w.desk-is, w.in-Err.ensures.run_kept.streams, w.in-Err.ensures.same, c.deref_mut.ensures.value ∙ (ap (λ n. n.items) w.names-is ∙ w.in-Err.ensures.kept.1)) c.requires.words.stand) c.requires.words.right)
          c.serve_ticks.ensures.alone c.serve_steps.ensures.made
      | else-runs_beside w ↦
          steps-behind (at c.args.desk) (at c.if-runs_beside.desk) (at c.serve_ticks.new.desk) c.args.phase _ _ _ _ _ _ _ _ _ _ _ _ _ _
          (ap (λ d. (at d).setup) w.desk-is) (c.serve_ticks.ensures.run.setup ∙ c.serve_lines.ensures.run.setup)
          (ap (λ d. d.last.entries) w.desk-is) w.aheads-is c.requires.callers
          (served (rw (w.desk-is, c.deref_mut.ensures.value ∙ ap (λ n. n.items) w.names-is) c.requires.words.stand) c.requires.words.right)
          c.serve_ticks.ensures.alone c.serve_steps.ensures.made
    ]

-- the workers do nothing at the callers' places
pub returns-clause-placed : goal.returns-clause-placed
returns-clause-placed g c =
    let back = put-back c.if-runs_beside.names.len c.serve_lines.new.names c.if-runs_beside.names.items c.if-runs_beside.names.ok.0 (c.serve_lines.ensures.kept_room ∙ ap (map (λ (names : NamesState). names.room)) c.deref_mut.ensures.value) in
    let placed = c.serve_lines.ensures.placed in
    let ran : PlacesRan c.args.lines.now c.args.replies.now.items c.serve_lines.new.replies.items c.args.names.now.items c.serve_lines.new.names c.args.desk.last.entries c.serve_lines.new.desk.last.entries =
    elim c.if-runs_beside.branch [
      | then-runs_beside+in-Err w ↦
          rw (
            ap (λ r. r.items) w.replies-is ∙ w.in-Err.ensures.kept.0,
            c.deref_mut.ensures.value ∙ (ap (λ n. n.items) w.names-is ∙ w.in-Err.ensures.kept.1),
            ap (λ d. d.last.entries) w.desk-is ∙ w.in-Err.ensures.same,
          ) at placed
      | else-runs_beside w ↦
          rw (
            ap (λ r. r.items) w.replies-is,
            c.deref_mut.ensures.value ∙ ap (λ n. n.items) w.names-is,
            ap (λ d. d.last.entries) w.desk-is,
          ) at placed
    ] in
    rw back (places-on c.args.lines.now c.args.replies.now.items c.serve_lines.new.replies.items c.args.names.now.items c.serve_lines.new.names c.args.desk.last.entries c.serve_lines.new.desk.last.entries c.serve_steps.new.desk.last.entries
    c.requires.words.stand.counted ran
    (λ me least most. idle-then me c.serve_lines.new.desk.last.entries c.serve_ticks.new.desk.last.entries c.serve_steps.new.desk.last.entries
    (c.serve_ticks.ensures.alone me (λ e. omega (arith, e, most))) (c.serve_steps.ensures.alone me (λ e. omega (arith, e, most)))))

pub returns-clause-kept_room : goal.returns-clause-kept_room
returns-clause-kept_room g c =
    let back = put-back c.if-runs_beside.names.len c.serve_lines.new.names c.if-runs_beside.names.items c.if-runs_beside.names.ok.0 (c.serve_lines.ensures.kept_room ∙ ap (map (λ (names : NamesState). names.room)) c.deref_mut.ensures.value) in
    rw back (elim c.if-runs_beside.branch [
      | then-runs_beside+in-Err w ↦ c.serve_lines.ensures.kept_room ∙ ap (map (λ names. names.room)) (c.deref_mut.ensures.value ∙ (ap (λ n. n.items) w.names-is ∙ w.in-Err.ensures.kept.1))
      | else-runs_beside w ↦ c.serve_lines.ensures.kept_room ∙ ap (map (λ names. names.room)) (c.deref_mut.ensures.value ∙ ap (λ n. n.items) w.names-is)
    ])

pub returns-clause-run : goal.returns-clause-run
returns-clause-run g c = elim c.if-runs_beside.branch [
  | then-runs_beside+in-Err w ↦ run-then _ _ _ w.in-Err.ensures.run_kept (run-then _ _ _ (rw w.desk-is at c.serve_lines.ensures.run) (run-then _ _ _ c.serve_ticks.ensures.run c.serve_steps.ensures.run))
  | else-runs_beside w ↦ run-then _ _ _ (rw w.desk-is at c.serve_lines.ensures.run) (run-then _ _ _ c.serve_ticks.ensures.run c.serve_steps.ensures.run)
]

pub returns-clause-capacity : goal.returns-clause-capacity
returns-clause-capacity g c = elim c.if-runs_beside.branch [
  | then-runs_beside+in-Err w ↦ c.serve_lines.ensures.capacity ∙ (ap vec_capacity w.replies-is ∙ w.serve_on_threads.ensures.capacity)
  | else-runs_beside w ↦ c.serve_lines.ensures.capacity ∙ ap vec_capacity w.replies-is
]
