-- The steps of the read-ahead worker: what they leave in a phase.
use Rattle.std.specs.Prelude.{◌≡◌, ℕ, ◌+◌, ◌≤◌, List, ◌++◌, length, map, vec_capacity, ◌⊎◌}
use Rattle.cc_entry.specs.declared.answer.Answer.{Answer}
use Rattle.cc_entry.specs.declared.answer.LineReply.{LineReply}
use Rattle.cc_entry.specs.declared.entry.Entry.{Entry}
use Rattle.cc_entry.specs.declared.place.Request.{Request}
use Rattle.cc_script.specs.declared.script.Action.{Action}
use Rattle.cc_script.specs.declared.script.Action.TheVariants as action
use Rattle.cc_model.specs.Setup.{Setup}
use Rattle.cc_turns.specs.Standing.{Standing}
use Rattle.cc_lines.specs.Line.{IsFree}
use Rattle.cc_lines.specs.Queues.{PlaceWent}
use Rattle.cc_pieces.specs.Phases.{AheadsRan, EndsWithNone, read_ahead_worker}
use Rattle.cc_run.specs.declared.aheads.Aheads.{Aheads}

-- The worker may make its steps: it holds no turn and has nothing under way, and others have few entries under way.
pub record WorkerMayStep (w : Standing) : Type 0 where
  pub is_worker : w.number ≡ read_ahead_worker
  pub free : IsFree w
  pub few : w.most_others ≤ 28

-- there is room for the answers of one phase more
abbrev pub HasStepRoom : Aheads → Type 0
HasStepRoom aheads = length aheads.answers.items + aheads.each ≤ vec_capacity aheads.answers

-- steps as lines of their pass
abbrev pub step_lines : List LineReply → List (Action × Answer)
step_lines stepped = map (λ reply. (action.AheadStep, reply.answer)) stepped

-- The steps of a phase, so many, or fewer where the last found no request: each is answered what it left, they took these
-- requests, and the worker placed nothing else.
pub record StepsLeft (u : Setup) (phase count : ℕ) (stepped : List LineReply) (taken : List Request) (old new : List Entry)
    : Type 0 where
  pub counted : (length stepped ≡ count) ⊎ ((length stepped ≤ count) × EndsWithNone stepped)
  pub ran : AheadsRan u 32 phase stepped taken old new

-- They were made, their answers stand behind those that were there, with the room as it was, and this is what they did at the
-- worker's place.
pub record StepsMade (u : Setup) (phase count : ℕ) (was now : Aheads) (old new : List Entry) : Type 0 where
  pub answers : List LineReply
  pub grew : now.answers.items ≡ was.answers.items ++ answers
  pub taken : List Request
  pub took : now.place.taken ≡ was.place.taken ++ taken
  pub left : StepsLeft u phase count answers taken old new
  pub placed : PlaceWent read_ahead_worker (step_lines answers) was.place now.place old new
  pub each_is : now.each ≡ was.each
  pub room_is : vec_capacity now.answers ≡ vec_capacity was.answers
