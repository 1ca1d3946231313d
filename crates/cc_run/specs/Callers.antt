-- The callers of a phase on threads, over one board.
use Rattle.std.specs.Prelude.{◌≡◌, ℕ, suc, ◌+◌, ◌-◌, ◌≤◌, ◌==◌, List, [], ◌∷◌, length, reverse, get_or, vec_capacity, if◌then◌else◌}
use Rattle.std.specs.List.{AllByRecursion}
use Rattle.cc_entry.specs.declared.answer.Answer.{Answer}
use Rattle.cc_script.specs.declared.script.Action.{Action}
use Rattle.cc_script.specs.declared.script.ActionLine.{ActionLine}
use Rattle.cc_pieces.specs.Bindings.{Binding}
use Rattle.cc_pieces.specs.Runs.{Ran, bindings_of}
use Rattle.cc_script.specs.HoldWords.{AreUsedRight, bound_so_far, words_bound}
use Rattle.cc_script.specs.declared.bound.Bound.{Bound}
use Rattle.cc_model.specs.Good.{IsGood}
use Rattle.cc_turns.specs.Desk.{Tells}
use Rattle.cc_turns.specs.Places.{IsRoomFor}
use Rattle.cc_turns.specs.Slots.{setup_in}
use Rattle.cc_board.specs.Board.{BoardState, IsOfBoard, PassState}
use Rattle.cc_board.specs.View.{run_of}
use Rattle.cc_lines.specs.Holds.{NamesState, NamesStand}
use Rattle.cc_lines.specs.Line.{IsServable}
use Rattle.cc_lines.specs.Queues.{PlacesWent}
use Rattle.cc_run.specs.declared.callers.Caller.{Caller}
use Rattle.cc_run.specs.declared.callers.FinishedCaller.{FinishedCaller}

-- how many lines are a caller's
abbrev pub count_of_caller : ℕ → List ActionLine → ℕ
count_of_caller me [] = 0
count_of_caller me (line ∷ lines) = if line.caller == me then suc (count_of_caller me lines) else count_of_caller me lines

-- a caller's lines, each with its answer, which stand in their order
abbrev pub asked_own : ℕ → List ActionLine → List Answer → List (Action × Answer)
asked_own me [] answers = []
asked_own me lines [] = []
asked_own me (line ∷ lines) (told ∷ answers) =
    if line.caller == me then (line.action, told) ∷ asked_own me lines answers else asked_own me lines (told ∷ answers)

-- What is kept of the words of a caller stands for what its pass has seen.
abbrev pub WordsStand : {D L : Type 0} → BoardState D L → PassState D L → List Bound → List Binding → NamesState → Type 0
WordsStand board pass bounds bindings names =
    NamesStand (length board.begun.disks) pass.knows.number pass.knows.seen bounds bindings names.named

-- A caller may run its lines: its pass is of the board, with nothing under way; what it has seen is good; others have few
-- entries under way; each line is one that a run serves; the caller uses its words right, as they are kept; and there is
-- room for each answer and each word.
pub record MayRun {D L Q : Type 0} (tells : Tells D L Q) (board : BoardState D L) (lines : List ActionLine)
    (caller : Caller D L Q) : Type 0 where
  pub here : IsOfBoard board caller.pass
  pub run : run_of caller.pass.knows ≡ board.begun
  pub none : caller.pass.knows.in_flight ≡ 0
  pub good : IsGood (setup_in tells board.begun) caller.pass.knows.seen
  pub few : caller.pass.knows.before + caller.pass.knows.passes ≤ 28
  pub servable : AllByRecursion (λ line. IsServable (length board.begun.disks) line.action) lines
  pub bounds : List Bound
  pub bindings : List Binding
  pub stand : WordsStand board caller.pass bounds bindings caller.names
  pub right : AreUsedRight caller.pass.knows.number bounds lines
  pub room : IsRoomFor (count_of_caller caller.pass.knows.number lines) caller.room.items (vec_capacity caller.room)
  pub word_room : length caller.names.named + words_bound caller.pass.knows.number lines ≤ caller.names.room

-- From what a caller had seen to what it has seen now its lines left pieces that follow each other, over what its words
-- name; and what is kept of them stands for it.
pub record LinesRan {D L Q : Type 0} (tells : Tells D L Q) (board : BoardState D L) (lines : List ActionLine)
    (bounds : List Bound) (bindings : List Binding) (caller : Caller D L Q) (ended : FinishedCaller D L Q) : Type 0 where
  pub ran :
      Ran (setup_in tells board.begun) 32 caller.pass.knows.number bindings
      (asked_own caller.pass.knows.number lines ended.answers.items) caller.pass.knows.seen ended.pass.knows.seen
  pub stand :
      WordsStand board ended.pass (bound_so_far caller.pass.knows.number bounds lines)
      (bindings_of bindings (asked_own caller.pass.knows.number lines ended.answers.items)) ended.names

-- A caller ran its lines: its pass has nothing under way; each of its lines has an answer; they left what explains them; and this
-- is what they did at its places.
pub record CallerRan {D L Q : Type 0} (tells : Tells D L Q) (board : BoardState D L) (lines : List ActionLine)
    (caller : Caller D L Q) (ended : FinishedCaller D L Q) : Type 0 where
  pub here : IsOfBoard board ended.pass
  pub number : ended.pass.knows.number ≡ caller.pass.knows.number
  pub none : ended.pass.knows.in_flight ≡ 0
  pub whole : length ended.answers.items ≡ count_of_caller caller.pass.knows.number lines
  pub word_room : ended.names.room ≡ caller.names.room
  pub placed :
      PlacesWent caller.pass.knows.number (asked_own caller.pass.knows.number lines ended.answers.items)
      caller.names.places ended.names.places caller.pass.knows.seen ended.pass.knows.seen
  pub ran : (bounds : List Bound) (bindings : List Binding) → WordsStand board caller.pass bounds bindings caller.names →
      AreUsedRight caller.pass.knows.number bounds lines → LinesRan tells board lines bounds bindings caller ended

-- each of several callers may run its lines, and did so
abbrev pub MayAllRun : {D L Q : Type 0} → Tells D L Q → BoardState D L → List ActionLine → List (Caller D L Q) → Type 0
MayAllRun tells board lines callers = AllByRecursion (MayRun tells board lines) callers

abbrev pub AllRan : {D L Q : Type 0} → Tells D L Q → BoardState D L → List ActionLine → List (Caller D L Q) → List (FinishedCaller D L Q) → Type 0
AllRan tells board lines [] [] = Unit {0}
AllRan tells board lines (caller ∷ callers) (ended ∷ rest) =
    CallerRan tells board lines caller ended × AllRan tells board lines callers rest
AllRan tells board lines callers others = ⊥

-- the answers of the caller of a number, where the rows of the answers of 16 callers stand from the last one on, each of
-- them from the last answer on
abbrev pub row_at : List (List Answer) → ℕ → List Answer
row_at rows me = reverse (get_or rows (16 - me) [])

-- each row has an answer for each line of its caller
abbrev pub AreAnswerRows : List ActionLine → List (List Answer) → Type 0
AreAnswerRows lines rows = (length rows ≡ 16) × ((me : ℕ) → 1 ≤ me → me ≤ 16 → length (row_at rows me) ≡ count_of_caller me lines)
