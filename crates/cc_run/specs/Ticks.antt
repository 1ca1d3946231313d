-- The ticks of the lazy writer: what they leave in a phase.
use Rattle.std.specs.Prelude.{◌≡◌, ℕ, ◌+◌, ◌≤◌, List, ◌++◌, length, vec_capacity}
use Rattle.cc_entry.specs.declared.answer.LineReply.{LineReply}
use Rattle.cc_entry.specs.declared.entry.Entry.{Entry}
use Rattle.cc_model.specs.Setup.{Setup}
use Rattle.cc_turns.specs.Standing.{Standing}
use Rattle.cc_lines.specs.Line.{IsFree}
use Rattle.cc_pieces.specs.Phases.{TicksRan, lazy_writer}
use Rattle.cc_run.specs.declared.ticks.Ticks.{Ticks}

-- The lazy writer may make its ticks: it holds no turn and has nothing under way, and others have few entries under way.
pub record MayTick (w : Standing) : Type 0 where
  pub is_lazy : w.number ≡ lazy_writer
  pub free : IsFree w
  pub few : w.most_others ≤ 28

-- there is room for the answers of one phase more
abbrev pub HasTickRoom : Ticks → Type 0
HasTickRoom ticks = length ticks.answers.items + ticks.each ≤ vec_capacity ticks.answers

-- The ticks of a phase, so many: each is answered what it left, and the lazy writer placed nothing else.
pub record TicksLeft (u : Setup) (phase count : ℕ) (ticked : List LineReply) (old new : List Entry) : Type 0 where
  pub counted : length ticked ≡ count
  pub ran : TicksRan u 32 phase ticked old new

-- So many were made, and their answers stand behind those that were there, with the room as it was.
pub record TicksMade (u : Setup) (phase count : ℕ) (was now : Ticks) (old new : List Entry) : Type 0 where
  pub answers : List LineReply
  pub grew : now.answers.items ≡ was.answers.items ++ answers
  pub left : TicksLeft u phase count answers old new
  pub each_is : now.each ≡ was.each
  pub room_is : vec_capacity now.answers ≡ vec_capacity was.answers
