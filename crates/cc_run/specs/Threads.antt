-- How the passes of a phase are made and taken back, and how the answers of its callers come together.
use Rattle.std.specs.Prelude.{◌≡◌, ℕ, suc, ◌+◌, ◌-◌, ◌≤◌, List, [], ◌∷◌, ◌++◌, length, map, reverse, slice_get, vec_capacity}
use Rattle.std.specs.declared.option.Option.TheVariants.{Some}
use Rattle.std.specs.List.{AllByRecursion}
use Rattle.std.specs.declared.vec.Vec.{Vec}
use Rattle.std.specs.Global.{Global}
use Rattle.cc_entry.specs.declared.answer.Answer.{Answer}
use Rattle.cc_entry.specs.declared.answer.LineReply.{LineReply}
use Rattle.cc_script.specs.declared.script.ActionLine.{ActionLine}
use Rattle.cc_pieces.specs.Explained.{answered_lines}
use Rattle.cc_pieces.specs.Phases.{is_of_phase}
use Rattle.cc_pieces.specs.Runs.{asked_of}
use Rattle.cc_board.specs.Board.{BoardState, FirstState, IsFirstOf, IsOfBoard}
use Rattle.cc_board.specs.View.{run_of}
use Rattle.cc_turns.specs.Places.{IsRoomFor}
use Rattle.cc_lines.specs.Holds.{NamesState}
use Rattle.cc_run.specs.Callers.{asked_own, count_of_caller, row_at}
use Rattle.cc_run.specs.declared.callers.Caller.{Caller}
use Rattle.cc_run.specs.declared.callers.FinishedCaller.{FinishedCaller}

-- Room for the answers of each of 16 callers, from the last one on.
pub record AreRooms (lines : List ActionLine) (rooms : List (Vec Answer Global)) : Type 0 where
  pub counted : length rooms ≡ 16
  pub each : (n : ℕ) (room : Vec Answer Global) → slice_get rooms n ≡ Some room →
      IsRoomFor (count_of_caller (16 - n) lines) room.items (vec_capacity room)

-- Pass 0 may split the passes of the 16 callers, and two more: it is of the board, and of its run, with nothing under way, and
-- made none yet.
pub record MaySplit {D L : Type 0} (board : BoardState D L) (first : FirstState D L) : Type 0 where
  pub here : IsFirstOf board first
  pub run : run_of first.knows ≡ board.begun
  pub none : first.knows.in_flight ≡ 0
  pub one_made : first.knows.made ≡ 1
  pub none_ended : first.knows.ended ≡ []
  pub passes : first.knows.passes ≡ 18

-- A caller was made: its pass has the number, has seen what pass 0 has seen, and has nothing under way; and the room and
-- what is kept of its words are the caller's.
pub record CallerIsMade {D L Q : Type 0} (board : BoardState D L) (first : FirstState D L) (number : ℕ) (room : Vec Answer Global)
    (names : NamesState) (caller : Caller D L Q) : Type 0 where
  pub here : IsOfBoard board caller.pass
  pub run : run_of caller.pass.knows ≡ run_of first.knows
  pub number_is : caller.pass.knows.number ≡ number
  pub seen_is : caller.pass.knows.seen ≡ first.knows.seen
  pub none : caller.pass.knows.in_flight ≡ 0
  pub before_is : caller.pass.knows.before ≡ first.knows.before
  pub passes_are : caller.pass.knows.passes ≡ first.knows.passes
  pub room_is : caller.room ≡ room
  pub names_are : caller.names ≡ names

-- All callers were made, in the order of their numbers from 1 on.
pub record AreSplit {D L Q : Type 0} (board : BoardState D L) (rooms : List (Vec Answer Global)) (rows : List NamesState)
    (old new : FirstState D L) (callers : List (Caller D L Q)) : Type 0 where
  pub counted : length callers ≡ 16
  pub each : (n : ℕ) (caller : Caller D L Q) → slice_get callers n ≡ Some caller →
      (room : Vec Answer Global) × (names : NamesState) × (slice_get rooms (15 - n) ≡ Some room)
      × (slice_get rows (15 - n) ≡ Some names) × CallerIsMade board old (suc n) room names caller
  pub board_is : new.board ≡ old.board
  pub made_is : new.knows.made ≡ 17
  pub passes_are : new.knows.passes ≡ old.knows.passes
  pub before_is : new.knows.before ≡ old.knows.before
  pub run_is : run_of new.knows ≡ run_of old.knows
  pub seen_is : new.knows.seen ≡ old.knows.seen
  pub none : new.knows.in_flight ≡ old.knows.in_flight
  pub ended_is : new.knows.ended ≡ old.knows.ended

-- The passes of 16 callers may be joined.
pub record MayJoin {D L Q : Type 0} (board : BoardState D L) (first : FirstState D L) (ended : List (FinishedCaller D L Q)) : Type 0 where
  pub counted : length ended ≡ 16
  pub here : IsFirstOf board first
  pub each : AllByRecursion (λ one. IsOfBoard board one.pass) ended

-- how many entries they have under way
abbrev pub under_way_of : {D L Q : Type 0} → List (FinishedCaller D L Q) → ℕ
under_way_of [] = 0
under_way_of (one ∷ ended) = one.pass.knows.in_flight + under_way_of ended

-- They were joined: pass 0 knows of each its number and what it had seen, and has under way what they had; the rows of
-- their answers are turned round; and what is kept of their words stands from the last caller on.
pub record AreJoined {D L Q : Type 0} (old new : FirstState D L) (ended : List (FinishedCaller D L Q)) (rows : List (Vec Answer Global))
    (names : List NamesState) : Type 0 where
  pub board_is : new.board ≡ old.board
  pub made_is : new.knows.made ≡ old.knows.made
  pub seen_is : new.knows.seen ≡ old.knows.seen
  pub ended_is : new.knows.ended ≡ map (λ one. (one.pass.knows.number, one.pass.knows.seen)) ended ++ old.knows.ended
  pub under_way_is : new.knows.in_flight ≡ old.knows.in_flight + under_way_of ended
  pub rows_are : map (λ row. row.items) rows ≡ map (λ one. reverse one.answers.items) (reverse ended)
  pub names_are : names ≡ map (λ one. one.names) (reverse ended)

-- Each line has a reply, and the answers of each caller are those of its row, in their order.
pub record Merged (lines : List ActionLine) (rows : List (List Answer)) (before after : List LineReply) : Type 0 where
  pub answers : List LineReply
  pub grew : after ≡ before ++ answers
  pub lines_are : answered_lines answers ≡ map (λ line. line.line) lines
  pub asked : (phase me : ℕ) → AllByRecursion (λ line. line.phase ≡ phase) lines → 1 ≤ me → me ≤ 16 →
      asked_of (is_of_phase phase me) lines answers ≡ asked_own me lines (row_at rows me)
