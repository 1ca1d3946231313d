-- The lazy writer and the read-ahead worker of a phase on threads, over one board.
use Rattle.std.specs.Prelude.{◌≡◌, ℕ, ◌+◌, ◌≤◌}
use Rattle.atomic_table.specs.Seated.{TableId}
use Rattle.cc_board.specs.Board.{BoardState, IsOfBoard}
use Rattle.cc_board.specs.View.{run_of}
use Rattle.cc_pieces.specs.Phases.{lazy_writer, read_ahead_worker}
use Rattle.cc_turns.specs.Desk.{Tells}
use Rattle.cc_turns.specs.Slots.{setup_in}
use Rattle.cc_run.specs.Aheads.{HasStepRoom, StepsMade}
use Rattle.cc_run.specs.Ticks.{HasTickRoom, TicksMade}
use Rattle.cc_run.specs.declared.workers.Stepper.{Stepper}
use Rattle.cc_run.specs.declared.workers.Worker.{Worker}

-- The lazy writer may make the ticks of a phase: its pass is of the board, with nothing under way; others have few entries
-- under way; and there is room for each answer.
pub record MayWork {D L Q : Type 0} (board : BoardState D L) (worker : Worker D L Q) : Type 0 where
  pub here : IsOfBoard board worker.pass
  pub run : run_of worker.pass.knows ≡ board.begun
  pub number_is : worker.pass.knows.number ≡ lazy_writer
  pub none : worker.pass.knows.in_flight ≡ 0
  pub few : worker.pass.knows.before + worker.pass.knows.passes ≤ 28
  pub room : HasTickRoom worker.ticks

-- It made them: its pass has nothing under way, and they left what explains their answers.
pub record WorkerRan {D L Q : Type 0} (tells : Tells D L Q) (board : BoardState D L) (phase : ℕ)
    (worker ended : Worker D L Q) : Type 0 where
  pub here : IsOfBoard board ended.pass
  pub number : ended.pass.knows.number ≡ lazy_writer
  pub none : ended.pass.knows.in_flight ≡ 0
  pub made :
      TicksMade (setup_in tells board.begun) phase worker.ticks.each worker.ticks ended.ticks
      worker.pass.knows.seen ended.pass.knows.seen

-- The read-ahead worker may make the steps of a phase: the same of its pass; its place is of the queue; and there is room for each
-- answer.
pub record MayStepOn {D L Q : Type 0} (board : BoardState D L) (queue : TableId) (stepper : Stepper D L Q) : Type 0 where
  pub here : IsOfBoard board stepper.pass
  pub run : run_of stepper.pass.knows ≡ board.begun
  pub number_is : stepper.pass.knows.number ≡ read_ahead_worker
  pub none : stepper.pass.knows.in_flight ≡ 0
  pub few : stepper.pass.knows.before + stepper.pass.knows.passes ≤ 28
  pub own : stepper.aheads.place.queue ≡ queue
  pub room : HasStepRoom stepper.aheads

-- It made them: its pass has nothing under way, and they left what explains their answers.
pub record StepperRan {D L Q : Type 0} (tells : Tells D L Q) (board : BoardState D L) (phase : ℕ)
    (stepper ended : Stepper D L Q) : Type 0 where
  pub here : IsOfBoard board ended.pass
  pub number : ended.pass.knows.number ≡ read_ahead_worker
  pub none : ended.pass.knows.in_flight ≡ 0
  pub made :
      StepsMade (setup_in tells board.begun) phase stepper.aheads.each stepper.aheads ended.aheads
      stepper.pass.knows.seen ended.pass.knows.seen
