-- The lazy writer and the read-ahead worker on a board: what their seated passes may do, and what they left.
use Rattle.std.specs.Prelude.{◌≡◌, ℕ}
use Rattle.std.proofs.Common.{sym, ap, subst, ◌∙◌, arith}
use Rattle.atomic_table.specs.Seated.{TableId}
use Rattle.cc_turns.specs.Desk.{Tells}
use Rattle.cc_turns.specs.Slots.{setup_in}
use Rattle.cc_turns.specs.Standing.{nothing}
use Rattle.cc_lines.specs.Line.{WentOn}
use Rattle.cc_board.specs.Board.{BoardState, PassState, SeatedState, seated_pass}
use Rattle.cc_board.specs.View.{turns_held, run_of}
use Rattle.cc_board.proofs.Names.{same_board}
use Rattle.cc_run.specs.Ticks.{MayTick, TicksMade}
use Rattle.cc_run.specs.Aheads.{WorkerMayStep, StepsMade}
use Rattle.cc_run.specs.Workers.{MayStepOn, MayWork, StepperRan, WorkerRan}
use Rattle.cc_run.specs.declared.aheads.Aheads.{Aheads}
use Rattle.cc_run.specs.declared.workers.Stepper.{Stepper}
use Rattle.cc_run.specs.declared.ticks.Ticks.{Ticks}
use Rattle.cc_run.specs.declared.workers.Worker.{Worker}
use Rattle.cc_run.proofs.CallersRan.{seat_at}
use Rattle.cc_run.proofs.StepsRan.{took-made, took-none}
use Rattle.cc_run.proofs.TicksRan.{made-none}

module _ {D L Q : Type 0} (tells : Tells D L Q) (board : BoardState D L) (worker : Worker D L Q) (may : MayWork board worker) where
  module _ (seated : SeatedState D L) (here : seated.board ≡ board) (is : seated_pass seated ≡ worker.pass) (free : turns_held seated.knows ≡ nothing) where
    -- it may make its ticks
    pub may-tick : MayTick (seat_at tells seated)
    may-tick = record {
      is_lazy = ap (λ p. p.knows.number) is ∙ may.number_is;
      free = record { free = free; none = ap (λ p. p.knows.in_flight) is ∙ may.none };
      few = omega (arith, ap (λ p. p.knows.before) is, ap (λ p. p.knows.passes) is, may.few);
    }

    seen-is : seated.knows.seen ≡ worker.pass.knows.seen
    seen-is = ap (λ p. p.knows.seen) is

    setup-is : (seat_at tells seated).setup ≡ setup_in tells board.begun
    setup-is = ap (λ p. setup_in tells (run_of p.knows)) is ∙ ap (setup_in tells) may.run

    -- it made them
    pub worker-ran : (phase : ℕ) (after : SeatedState D L) (pass : PassState D L) (ticks : Ticks) → WentOn (seat_at tells seated) (seat_at tells after) → pass ≡ seated_pass after → TicksMade (seat_at tells seated).setup phase worker.ticks.each worker.ticks ticks seated.knows.seen after.knows.seen → (ended : Worker D L Q) → ended.pass ≡ pass → ended.ticks ≡ ticks → WorkerRan tells board phase worker ended
    worker-ran phase after pass ticks went into made ended pass_is ticks_are =
        let whole : ended.pass ≡ seated_pass after = pass_is ∙ into in
        let seen : ended.pass.knows.seen ≡ after.knows.seen = ap (λ p. p.knows.seen) whole in
        record {
          here = ap (λ p. p.board) whole ∙ (same_board after.board.id seated.board.id (ap (λ w. w.shared) went.same) ∙ ap (λ b. b.id) here);
          number = ap (λ p. p.knows.number) whole ∙ (ap (λ w. w.number) went.same ∙ (ap (λ p. p.knows.number) is ∙ may.number_is));
          none = ap (λ p. p.knows.in_flight) whole ∙ (ap (λ w. w.in_flight) went.same ∙ (ap (λ p. p.knows.in_flight) is ∙ may.none));
          made = rw (ticks_are, seen) (rw (setup-is, seen-is) at made);
        }

  -- without ticks there is nothing to do
  pub worker-idle : (phase : ℕ) → worker.ticks.each ≡ 0 → WorkerRan tells board phase worker worker
  worker-idle phase none = record {
    here = may.here;
    number = may.number_is;
    none = may.none;
    made =
        subst (λ n. TicksMade (setup_in tells board.begun) phase n worker.ticks worker.ticks worker.pass.knows.seen worker.pass.knows.seen) (sym none)
        (made-none (setup_in tells board.begun) phase worker.ticks worker.pass.knows.seen);
  }

module _ {D L Q : Type 0} (tells : Tells D L Q) (board : BoardState D L) (queue : TableId) (stepper : Stepper D L Q) (may : MayStepOn board queue stepper) where
  module _ (seated : SeatedState D L) (here : seated.board ≡ board) (is : seated_pass seated ≡ stepper.pass) (free : turns_held seated.knows ≡ nothing) where
    -- it may make its steps
    pub may-step : WorkerMayStep (seat_at tells seated)
    may-step = record {
      is_worker = ap (λ p. p.knows.number) is ∙ may.number_is;
      free = record { free = free; none = ap (λ p. p.knows.in_flight) is ∙ may.none };
      few = omega (arith, ap (λ p. p.knows.before) is, ap (λ p. p.knows.passes) is, may.few);
    }

    stepper-seen : seated.knows.seen ≡ stepper.pass.knows.seen
    stepper-seen = ap (λ p. p.knows.seen) is

    stepper-setup : (seat_at tells seated).setup ≡ setup_in tells board.begun
    stepper-setup = ap (λ p. setup_in tells (run_of p.knows)) is ∙ ap (setup_in tells) may.run

    -- it made them
    pub stepper-ran : (phase : ℕ) (after : SeatedState D L) (pass : PassState D L) (aheads : Aheads) → WentOn (seat_at tells seated) (seat_at tells after) → pass ≡ seated_pass after → StepsMade (seat_at tells seated).setup phase stepper.aheads.each stepper.aheads aheads seated.knows.seen after.knows.seen → (ended : Stepper D L Q) → ended.pass ≡ pass → ended.aheads ≡ aheads → StepperRan tells board phase stepper ended
    stepper-ran phase after pass aheads went into made ended pass_is aheads_are =
        let whole : ended.pass ≡ seated_pass after = pass_is ∙ into in
        let seen : ended.pass.knows.seen ≡ after.knows.seen = ap (λ p. p.knows.seen) whole in
        record {
          here = ap (λ p. p.board) whole ∙ (same_board after.board.id seated.board.id (ap (λ w. w.shared) went.same) ∙ ap (λ b. b.id) here);
          number = ap (λ p. p.knows.number) whole ∙ (ap (λ w. w.number) went.same ∙ (ap (λ p. p.knows.number) is ∙ may.number_is));
          none = ap (λ p. p.knows.in_flight) whole ∙ (ap (λ w. w.in_flight) went.same ∙ (ap (λ p. p.knows.in_flight) is ∙ may.none));
          made = rw (aheads_are, seen) (rw (stepper-setup, stepper-seen) at made);
        }

  -- without steps there is nothing to do
  pub stepper-idle : (phase : ℕ) → stepper.aheads.each ≡ 0 → StepperRan tells board phase stepper stepper
  stepper-idle phase none = record {
    here = may.here;
    number = may.number_is;
    none = may.none;
    made =
        subst (λ n. StepsMade (setup_in tells board.begun) phase n stepper.aheads stepper.aheads stepper.pass.knows.seen stepper.pass.knows.seen) (sym none)
        (took-made (setup_in tells board.begun) phase 0 stepper.aheads stepper.aheads stepper.pass.knows.seen stepper.pass.knows.seen (took-none (setup_in tells board.begun) phase stepper.aheads stepper.pass.knows.seen));
  }
